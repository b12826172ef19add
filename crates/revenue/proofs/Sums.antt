-- What each line counts, and the sum of the first of them. Assumes nothing.
use mathlib.Core.Path.{◌≡◌, refl, sym, ap, ◌∙◌}
use mathlib.Core.Bool.{Bool, true, false, cond}
use mathlib.Core.List.{List, [], ◌∷◌, ◌++◌}
use Prim.Native.Nat.{ℕ, zero, suc, ◌+◌, ◌*◌, ◌≤◌, ◌<◌}
use native.Mathlib.Omega.{arith}
use native.Mathlib.Numerals.{add-one}
use lib.IntN.{ℤ, pos, negsuc, nat_abs, ◌+ℤ◌, +ℤ_idl, +ℤ_idr, +ℤ_assoc}
use lib.ListN.{length, take, get_or}
use lib.Seq.{take-suc}
use Rattle.std.proofs.lemmas.List.{take_all}
use Rattle.std.specs.Int.{int_max}
use borrow.Author.Tests.{eq-eqb, ne_eqb, lt-ltb, le-ltb}
use lib.Signed.{lt_z}
use Rattle.lists.specs.Lists.{all}
use Rattle.money.specs.Pounds.{saturated}
use Rattle.money.proofs.Pounds.{abs_add, saturated_small}
use Rattle.year.specs.declared.Line.{Line}
use Rattle.year.specs.Year.{good_line, zero_line}
use Rattle.revenue.specs.Revenue.{pounds_of, at_least_zero, counted_by, NAR}
use Rattle.revenue.specs.Theorems.{counted_as, counted_of, summed_of}
use Rattle.revenue.proofs.Terms.{total_is}

-- ---- sums
module _ (cmr : Bool) (rate : ℕ) where
  snoc : (ls : List Line) (l : Line) → summed_of cmr rate (ls ++ (l ∷ [])) ≡ summed_of cmr rate ls +ℤ counted_of cmr rate l
  unfolding summed_of
  snoc [] l = +ℤ_idr (counted_of cmr rate l) ∙ sym (+ℤ_idl (counted_of cmr rate l))
  snoc (x ∷ xs) l =
      ap (λ (z : ℤ). counted_of cmr rate x +ℤ z) (snoc xs l) ∙ sym (+ℤ_assoc (counted_of cmr rate x) (summed_of cmr rate xs) (counted_of cmr rate l))

  -- one line on
  summed_next : (lines : List Line) (k : ℕ) → k < length lines → summed_of cmr rate (take (k + 1) lines) ≡ summed_of cmr rate (take k lines) +ℤ counted_of cmr rate (get_or lines k zero_line)
  summed_next lines k h =
      ap (λ (n : ℕ). summed_of cmr rate (take n lines)) (add-one k)
      ∙ ap (summed_of cmr rate) (take-suc lines k zero_line h)
      ∙ snoc (take k lines) (get_or lines k zero_line)

-- a line's pounds count in the sum of kind 2 or among the others, and nothing in the other of the two
pub in_cmr : (rate : ℕ) {a : ℤ} (l : Line) → l.kind ≡ 2 → a ≡ pounds_of rate l → (a ≡ counted_of true rate l) × (pos 0 ≡ counted_of false rate l)
unfolding counted_of counted_as
in_cmr rate l k e = rw (eq-eqb l.kind 2 k) (e, refl)

pub in_others : (rate : ℕ) {a z : ℤ} (l : Line) → (l.kind ≡ 2 → ⊥) → a ≡ pounds_of rate l → z ≡ counted_by l.kind a → (z ≡ counted_of false rate l) × (pos 0 ≡ counted_of true rate l)
unfolding counted_of counted_as
in_others rate l k e f = rw (ne_eqb l.kind 2 k) (f ∙ ap (counted_by l.kind) e, refl)

-- the first k lines are added up, each at most 2,000,000,000
pub record Added (cmr : Bool) (rate : ℕ) (lines : List Line) (k : ℕ) (sum : ℤ) : Type 0 where
  pub is : sum ≡ summed_of cmr rate (take k lines)
  pub small : nat_abs sum ≤ k * 2000000000

pub added_none : (cmr : Bool) (rate : ℕ) (lines : List Line) → Added cmr rate lines 0 (pos 0)
unfolding summed_of
added_none cmr rate lines = record { is = refl; small = omega arith }

pub added_next : {cmr : Bool} {rate : ℕ} {lines : List Line} {k : ℕ} {sum x r : ℤ} → k < length lines → k < 64 → Added cmr rate lines k sum → x ≡ counted_of cmr rate (get_or lines k zero_line) → nat_abs x ≤ 2000000000 → r ≡ saturated (sum +ℤ x) → Added cmr rate lines (k + 1) r
added_next {cmr} {rate} {lines} {k} {sum} {x} {r} h few a e l w =
    let more : nat_abs (sum +ℤ x) ≤ k * 2000000000 + 2000000000 = omega (arith, a.small, abs_add sum x) in
    let is : r ≡ sum +ℤ x = w ∙ saturated_small (sum +ℤ x) (omega arith) in
    record { is = is ∙ rw (a.is, e, summed_next cmr rate lines k h); small = rw is (omega arith) }

-- where a line counts nothing the sum stays
pub added_same : {cmr : Bool} {rate : ℕ} {lines : List Line} {k : ℕ} {sum r : ℤ} → k < length lines → Added cmr rate lines k sum → pos 0 ≡ counted_of cmr rate (get_or lines k zero_line) → r ≡ sum → Added cmr rate lines (k + 1) r
added_same {cmr} {rate} {lines} {k} {sum} {r} h a e w =
    record { is = w ∙ a.is ∙ sym (summed_next cmr rate lines k h ∙ rw (← e) (+ℤ_idr (summed_of cmr rate (take k lines)))); small = rw w (omega (arith, a.small)) }

-- the greater of a number and 0 is the number lifted to 0
pub lifted_is : (z : ℤ) → int_max z (pos 0) ≡ at_least_zero z
unfolding at_least_zero
lifted_is (pos zero) = refl
lifted_is (pos (suc n)) = rw (lt-ltb 0 (suc n) (omega arith), le-ltb (suc n) 0 (omega arith)) refl
lifted_is (negsuc n) = refl

lifted : (t : Bool) (z : ℤ) → nat_abs (cond t (pos 0) z) ≤ nat_abs z
lifted true z = omega arith
lifted false z = omega arith

-- lifting to zero makes no magnitude larger
pub lifted_small : (z : ℤ) → nat_abs (at_least_zero z) ≤ nat_abs z
unfolding at_least_zero
lifted_small z = lifted (lt_z z (pos 0)) z

-- both sums, of all good lines, are the total
pub added_total : {rate : ℕ} {a b : ℤ} (lines : List Line) → all good_line lines ≡ true → length lines ≤ 64 → Added false rate lines (length lines) a → Added true rate lines (length lines) b → saturated (a +ℤ at_least_zero b) ≡ NAR rate lines
added_total {rate} {a} {b} lines good few others cmr =
    let all_of : take (length lines) lines ≡ lines = take_all (length lines) lines (omega arith) in
    saturated_small (a +ℤ at_least_zero b) (omega (arith, others.small, cmr.small, abs_add a (at_least_zero b), lifted_small b))
    ∙ rw (others.is, cmr.is, all_of) (total_is rate lines good)
