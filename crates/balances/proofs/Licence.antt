-- What an assessment gives, in the licence's terms: SC3 4 to 8. Assumes nothing.
use mathlib.Core.Path.{◌≡◌, refl, sym, ap, ◌∙◌}
use mathlib.Core.Bool.{Bool, true, false, not, cond}
use mathlib.Core.List.{List}
use Prim.Native.Nat.{ℕ, zero, suc}
use native.Mathlib.Nat.{not-suc-le-zero, suc-ne-zero}
use native.Mathlib.Omega.{arith}
use lib.ListN.{get_or}
use lib.IntN.{ℤ, pos, negsuc, neg_ℤ, nat_abs, ◌+ℤ◌, ◌-ℤ◌}
use lib.Signed.{lt_z}
use borrow.Author.Tests.{ne_eqb}
use Rattle.money.proofs.Parts.{over, under, diff, neg_over, neg_under, abs, from_lt, from_ge, to_eq}
use Rattle.balances.specs.Balance.{carry_of, balance_after}
use Rattle.balances.specs.Assessment.{held_between}
use Rattle.money.specs.Pounds.{is_none}
use Rattle.balances.specs.Licence.{RRAC, RRAF, CFA}

-- ---- balances: SC3 9 and 11 to 13, with the uplift of 16 to 18
-- the first balance is the first year's amount
pub starts_as : (index : List ℕ) (amounts : List ℤ) → balance_after index amounts 0 ≡ get_or amounts 0 (pos 0)
unfolding balance_after
starts_as index amounts = refl

-- each later year's balance is the earlier one carried from that year's index to this one's, and the year's amount
pub carried_forward : (n : ℕ) (index : List ℕ) (amounts : List ℤ)
    → balance_after index amounts (suc n) ≡ carry_of (balance_after index amounts n) (get_or index n 0) (get_or index (suc n) 0) +ℤ get_or amounts (suc n) (pos 0)
unfolding balance_after
carried_forward n index amounts = refl

-- ---- the adjustment: SC3 4 to 8
-- what is above zero is not nothing
some : (d : ℤ) → lt_z (pos 0) d ≡ true → is_none d ≡ false
unfolding over under
some d e = ne_eqb (nat_abs d) 0 (λ z. not-suc-le-zero {n = 0} (omega (arith, from_lt (pos 0) d e, abs d)))

-- a difference is above zero where what is taken away is below
above : (a b : ℤ) → lt_z (pos 0) (a -ℤ b) ≡ lt_z b a
unfolding over under
above a b = by (lt_z (pos 0) (a -ℤ b)) (lt_z b a) refl refl
  where
    by : (s t : Bool) → lt_z (pos 0) (a -ℤ b) ≡ s → lt_z b a ≡ t → s ≡ t
    by true true e f = refl
    by true false e f = absurd (omega (arith, from_lt (pos 0) (a -ℤ b) e, from_ge b a f, diff a b))
    by false true e f = absurd (omega (arith, from_ge (pos 0) (a -ℤ b) e, from_lt b a f, diff a b))
    by false false e f = refl

swapped : (a b : ℤ) → a -ℤ b ≡ neg_ℤ (b -ℤ a)
swapped a b = to_eq (a -ℤ b) (neg_ℤ (b -ℤ a)) (omega (arith, diff a b, diff b a, neg_over (b -ℤ a), neg_under (b -ℤ a)))

nothing_less : (a w : ℤ) → a -ℤ a -ℤ w ≡ neg_ℤ w
nothing_less a w = to_eq (a -ℤ a -ℤ w) (neg_ℤ w) (omega (arith, diff (a -ℤ a) w, diff a a, neg_over w, neg_under w))

some_or_none : (w : ℤ) → cond (not (is_none w)) (neg_ℤ w) (pos 0) ≡ neg_ℤ w
some_or_none (pos zero) = refl
some_or_none (pos (suc n)) = rw (ne_eqb (suc n) 0 (suc-ne-zero n))
some_or_none (negsuc n) = rw (ne_eqb (suc n) 0 (suc-ne-zero n))

module _ (arn cln fln wpan : ℤ) where
  -- the four cases, by whether there is a shortfall and whether there is an excess
  by_tests : Bool → Bool → ℤ
  by_tests short more =
      cond (not (is_none (cond more (RRAC arn cln) (pos 0)))) (neg_ℤ (cond more (RRAC arn cln) (pos 0)) -ℤ wpan)
      (cond (not (is_none (cond short (RRAF fln arn) (pos 0)))) (cond short (RRAF fln arn) (pos 0) -ℤ wpan)
      (cond (not (is_none wpan)) (neg_ℤ wpan) (pos 0)))

  by_tests_law : CFA arn cln fln wpan ≡ by_tests (lt_z arn fln) (lt_z cln arn)
  unfolding CFA by_tests
  by_tests_law = rw (above arn cln, above fln arn)

  each_case : (short more : Bool) → lt_z arn fln ≡ short → lt_z cln arn ≡ more → lt_z cln fln ≡ false
      → cond short fln (cond more cln arn) -ℤ arn -ℤ wpan ≡ by_tests short more
  unfolding by_tests
  each_case true true s m h = absurd (omega (arith, from_lt arn fln s, from_lt cln arn m, from_ge cln fln h))
  each_case true false s m h = rw (some (RRAF fln arn) (above fln arn ∙ s))
  each_case false true s m h = rw (some (RRAC arn cln) (above arn cln ∙ m)) (ap (λ (z : ℤ). z -ℤ wpan) (swapped cln arn))
  each_case false false s m h = nothing_less arn wpan ∙ sym (some_or_none wpan)

  -- where the floor balance is not above the cap balance, the adjustment is SC3 4's by its four cases
  pub adjustment_is_CFA : lt_z cln fln ≡ false → held_between arn fln cln -ℤ arn -ℤ wpan ≡ CFA arn cln fln wpan
  unfolding held_between
  adjustment_is_CFA h = each_case (lt_z arn fln) (lt_z cln arn) refl refl h ∙ sym by_tests_law
