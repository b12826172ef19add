-- The median of two days, in floats: exact, and told from every other. Assumes nothing.
use mathlib.Core.Path.{◌≡◌, refl, sym, ap, ◌∙◌, subst}
use mathlib.Core.Bool.{Bool, true, false, ◌&&◌}
use Rattle.std.specs.Prelude.{Option, Some, None, unwrap_or}
use Prim.Native.Nat.{ℕ, ◌+◌, ◌≤◌, ◌<◌}
use native.Mathlib.Omega.{arith}
use borrow.Author.Tests.{le-leb, eq-eqb, ne_eqb}
use lib.Dec.{T, leb}
use lib.IntN.{pos}
use lib.Ieee.{Float, binary64, add, mul, of_int, eq}
use lib.Ieee.Exact.{HasValue}
use Rattle.lists.proofs.Tests.{and_made, and_false}
use Rattle.floats.specs.Floats.{between, whole_in, whole_day, half_days, times_of}
use Rattle.floats.proofs.Exactly.{of_int_law, half, sum_exact, half_at, half_exact, one_half}
use Rattle.floats.proofs.Equal.{value, equal}
use Rattle.floats.proofs.Times.{times_is}
use Rattle.floats.proofs.Days.{between_is, between_some, positive}
use Rattle.median_period.specs.declared.MedianPeriod.{MedianPeriod}
use Rattle.median_period.specs.Medians.{day_or, days_agree, good_medians, medians_of}
use Rattle.median_period.specs.Theorems.{ExactPeriod}

-- ---- what the tests of a day say
module _ (x : Float) where
  pub no_day : day_or x < 61 → whole_day x ≡ None
  no_day h = by (whole_day x) refl h
    where
      by : (found : Option ℕ) → whole_day x ≡ found → unwrap_or found 0 < 61 → found ≡ None
      by None e h = refl
      by (Some n) e h = absurd (not_below (between_is 61 73050 (whole_in x) n e).low h)
        where
          not_below : {n : ℕ} → 61 ≤ n → n < 61 → ⊥
          not_below l h = omega arith

  pub a_day : 61 ≤ day_or x → whole_day x ≡ Some (day_or x)
  a_day h = by (whole_day x) h
    where
      by : (found : Option ℕ) → 61 ≤ unwrap_or found 0 → found ≡ Some (unwrap_or found 0)
      by None h = absurd (none_there h)
        where
          none_there : 61 ≤ 0 → ⊥
          none_there h = omega arith
      by (Some n) h = refl

pub last_day : (x : Float) (n : ℕ) → whole_day x ≡ Some n → n ≤ 73050
last_day x n e = (between_is 61 73050 (whole_in x) n e).high

day_value : (x : Float) (n : ℕ) → whole_day x ≡ Some n → HasValue x false n 1
day_value x n e = let b = between_is 61 73050 (whole_in x) n e in positive x 1 n (above b.low) b.is
  where
    above : {n : ℕ} → 61 ≤ n → 0 < n
    above h = omega arith

-- ---- the median: twice it is the sum exactly where the float is equal to half of the sum
module _ (p : MedianPeriod) (a b : ℕ) (f : whole_day p.first ≡ Some a) (l : whole_day p.last ≡ Some b) (order : a ≤ b) where
  abbrev sum : Float
  sum = add binary64 p.first p.last

  abbrev mid : Float
  mid = mul binary64 sum one_half

  low : 61 ≤ a
  low = (between_is 61 73050 (whole_in p.first) a f).low

  high : b ≤ 73050
  high = last_day p.last b l

  mid_is : HasValue mid false (a + b) 2
  mid_is =
      let lo = low in
      let hi = high in
      half_exact sum (a + b) (omega arith) (omega arith)
      (sum_exact p.first p.last a b (omega arith) (day_value p.first a f) (day_value p.last b l))

  agrees : days_agree (whole_day p.first) (whole_day p.last) (half_days p.median) ≡ days_agree (Some a) (Some b) (half_days p.median)
  agrees =
      ap (λ (o : Option ℕ). days_agree o (whole_day p.last) (half_days p.median)) f
      ∙ ap (λ (o : Option ℕ). days_agree (Some a) o (half_days p.median)) l

  is_own : T (eq mid p.median) → half_days p.median ≡ Some (a + b)
  is_own t =
      let lo = low in
      let hi = high in
      ap (between 122 146100) (times_is p.median false (a + b) 2 (value mid p.median false (a + b) 2 (omega arith) mid_is t))
      ∙ between_some 122 146100 (a + b) (omega arith) (omega arith)

  own_is : half_days p.median ≡ Some (a + b) → T (eq mid p.median)
  own_is e =
      let lo = low in
      let m = between_is 122 146100 (times_of 2 p.median) (a + b) e in
      equal mid p.median false (a + b) 2 (omega arith) mid_is (positive p.median 2 (a + b) (omega arith) m.is)

  pub median_test : eq mid p.median ≡ good_medians p
  median_test = by (eq mid p.median) refl (half_days p.median) refl ∙ sym agrees
    where
      other : (b : Bool) → T b → b ≡ false → ⊥
      other b t e = subst T e t

      by : (test : Bool) → eq mid p.median ≡ test → (twice : Option ℕ) → half_days p.median ≡ twice → test ≡ days_agree (Some a) (Some b) twice
      by true e twice h =
          sym (ap (days_agree (Some a) (Some b)) (sym h ∙ is_own (subst T (sym e) tt)) ∙ and_made (le-leb a b order) (eq-eqb (a + b) (a + b) refl))
      by false e None h = refl
      by false e (Some k) h =
          sym (ap (λ (t : Bool). leb a b && t) (ne_eqb k (a + b) (λ s. other (eq mid p.median) (own_is (h ∙ ap Some s)) e)) ∙ and_false (leb a b))

-- ---- made of two days
module _ (a b : ℕ) (low : 61 ≤ a) (order : a ≤ b) (high : b ≤ 73050) where
  first_is : whole_day (medians_of a b).first ≡ Some a
  first_is = ap (between 61 73050) (times_is (medians_of a b).first false a 1 (of_int_law a (omega arith))) ∙ between_some 61 73050 a low (omega arith)

  last_is : whole_day (medians_of a b).last ≡ Some b
  last_is = ap (between 61 73050) (times_is (medians_of a b).last false b 1 (of_int_law b (omega arith))) ∙ between_some 61 73050 b (omega arith) high

  median_is : half_days (medians_of a b).median ≡ Some (a + b)
  median_is =
      ap (between 122 146100) (times_is (medians_of a b).median false (a + b) 2 (half false (a + b) (omega arith)))
      ∙ between_some 122 146100 (a + b) (omega arith) (omega arith)

  -- what the code works out is the nearest float to half of the sum
  pub half_of_sum : mul binary64 (add binary64 (of_int binary64 (pos a)) (of_int binary64 (pos b))) one_half ≡ (medians_of a b).median
  half_of_sum =
      half_at (add binary64 (of_int binary64 (pos a)) (of_int binary64 (pos b))) (a + b) (omega arith)
      (sum_exact (of_int binary64 (pos a)) (of_int binary64 (pos b)) a b (omega arith) (of_int_law a (omega arith)) (of_int_law b (omega arith)))

  pub exact_period : ExactPeriod a b
  exact_period = record {
    first = first_is;
    last = last_is;
    median = median_is;
    good =
        ap (λ (o : Option ℕ). days_agree o (whole_day (medians_of a b).last) (half_days (medians_of a b).median)) first_is
        ∙ ap (λ (o : Option ℕ). days_agree (Some a) o (half_days (medians_of a b).median)) last_is
        ∙ ap (days_agree (Some a) (Some b)) median_is
        ∙ and_made (le-leb a b order) (eq-eqb (a + b) (a + b) refl);
  }
