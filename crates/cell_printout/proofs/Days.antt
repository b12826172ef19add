-- A day is whole where twice it is even: what a cell holds as a day, of what it holds as twice a day. Assumes nothing.
use mathlib.Core.Path.{◌≡◌, refl, sym, ap, ◌∙◌}
use mathlib.Core.Bool.{Bool, true, false, cond, true≢false}
use Rattle.std.specs.Prelude.{Option, Some, None}
use Prim.Native.Nat.{ℕ, ◌*◌, ◌/◌, ◌%◌}
use native.Mathlib.Omega.{arith}
use native.Mathlib.Nat.{mul_right_comm}
use borrow.Author.Tests.{eqb-true, eq-eqb}
use lib.Dec.{eqb}
use lib.Ieee.{Float, nan, inf, fin, down}
use lib.Ieee.Exact.{HasValue}
use Rattle.floats.specs.Floats.{between, half_days, times_of, whole_day}
use Rattle.floats.proofs.Days.{between_is, between_some, positive}
use Rattle.std.proofs.lemmas.Option.{none-some, same_Some}
use Rattle.floats.proofs.Times.{times_is}
use Rattle.cells.specs.declared.Cell.{Cell}
use Rattle.cells.specs.declared.Cell.TheVariants.{Empty, Number, Day}
use Rattle.cells.specs.Cells.{day_in, twice_in}

-- half of an even number, and of no other
abbrev pub half_of : Option ℕ → Option ℕ
half_of None = None
half_of (Some k) = cond (eqb (k % 2) 0) (Some (k / 2)) None

twice_value : (x : Float) (d : ℕ) → HasValue x false d 1 → HasValue x false (d * 2) 2
twice_value nan d p = absurd p
twice_value (inf _) d p = absurd p
twice_value (fin s m e) d p = (p.0, omega (arith, p.1, mul_right_comm d 2 (down e)))

half_value : (x : Float) (d : ℕ) → HasValue x false (d * 2) 2 → HasValue x false d 1
half_value nan d p = absurd p
half_value (inf _) d p = absurd p
half_value (fin s m e) d p = (p.0, omega (arith, p.1, mul_right_comm d 2 (down e)))

-- a whole day, doubled
doubled : (x : Float) (d : ℕ) → whole_day x ≡ Some d → half_days x ≡ Some (d * 2)
doubled x d h =
    let b = between_is 61 73050 (times_of 1 x) d h in
    let low = b.low in
    let high = b.high in
    ap (between 122 146100) (times_is x false (d * 2) 2 (twice_value x d (positive x 1 d (omega arith) b.is)))
    ∙ between_some 122 146100 (d * 2) (omega arith) (omega arith)

-- an even number of half days, halved
halved : (x : Float) (d : ℕ) → half_days x ≡ Some (d * 2) → whole_day x ≡ Some d
halved x d h =
    let b = between_is 122 146100 (times_of 2 x) (d * 2) h in
    let low = b.low in
    let high = b.high in
    ap (between 61 73050) (times_is x false d 1 (half_value x d (positive x 2 (d * 2) (omega arith) b.is)))
    ∙ between_some 61 73050 d (omega arith) (omega arith)

-- an even number is twice its half, and twice a number is even
even_half : (k : ℕ) → eqb (k % 2) 0 ≡ true → k ≡ k / 2 * 2
even_half k e = omega (arith, eqb-true (k % 2) 0 e)

odd_not : (k d : ℕ) → eqb (k % 2) 0 ≡ false → k ≡ d * 2 → ⊥
odd_not k d e f = true≢false (sym (eq-eqb (k % 2) 0 (omega arith)) ∙ e)

whole_of_twice : (x : Float) → whole_day x ≡ half_of (half_days x)
whole_of_twice x = by (whole_day x) (half_days x) refl refl
  where
    by : (whole twice : Option ℕ) → whole_day x ≡ whole → half_days x ≡ twice → whole ≡ half_of twice
    by None None e f = refl
    by (Some d) None e f = absurd (none-some _ (sym f ∙ doubled x d e))
    by whole (Some k) e f = of (eqb (k % 2) 0) refl whole e
      where
        of : (even : Bool) → eqb (k % 2) 0 ≡ even → (whole : Option ℕ) → whole_day x ≡ whole → whole ≡ cond even (Some (k / 2)) None
        of true t whole e = sym e ∙ halved x (k / 2) (f ∙ ap Some (even_half k t))
        of false t None e = refl
        of false t (Some d) e = absurd (odd_not k d t (same_Some _ _ (sym f ∙ doubled x d e)))

pub twice_of_day : (c : Cell) (d : ℕ) → day_in c ≡ Some d → twice_in c ≡ Some (d * 2)
twice_of_day Empty d e = absurd (none-some d e)
twice_of_day (Number x) d e = absurd (none-some d e)
twice_of_day (Day x) d e = doubled x d e

pub day_of_twice : (c : Cell) → day_in c ≡ half_of (twice_in c)
day_of_twice Empty = refl
day_of_twice (Number x) = refl
day_of_twice (Day x) = whole_of_twice x
