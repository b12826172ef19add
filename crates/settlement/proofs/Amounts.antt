-- Payments: what a grown amount is, and what is saturated. Assumes nothing.
use mathlib.Core.Path.{◌≡◌, refl, sym, ap, ◌∙◌}
use mathlib.Core.Bool.{Bool, true, false, not, cond}
use Prim.Native.Nat.{ℕ, ◌*◌, ◌/◌, ◌^◌, ◌≤◌, ◌<◌}
use native.Mathlib.Nat.{mul-le-mul, le_of_lt}
use native.Mathlib.Omega.{arith}
use lib.Dec.{leb, eqb, lit<}
use lib.IntN.{ℤ, pos, neg_ℤ, nat_abs}
use lib.Signed.{lt_z}
use borrow.Author.Tests.{leb-true}
use Rattle.refusals.specs.Refusals.{first_applicable}
use Rattle.money.specs.Pounds.{saturated}
use Rattle.money.proofs.Pounds.{saturated_small, saturated_within}
use Rattle.money.proofs.Nearest.{debit_on, credit_on}
use Rattle.settlement.specs.declared.medians.Period.{Period}
use Rattle.settlement.specs.Gap.{day_sum, hundredths}
use Rattle.settlement.specs.Growth.{growth_of, paid_of}
use Rattle.settlement.specs.Calls.{gap_holds, settle_rows, settle_given}
use Rattle.settlement.proofs.Growing.{growth_small}

-- ---- an amount times an entry fits, and so does the payment
pub product : (m e : ℕ) → m ≤ 10000000000 → e < 1300000000 → m * e ≤ 13000000000000000000
product m e h k = mul-le-mul h (le_of_lt k)

cut_small : (x : ℕ) → x ≤ 13000000000000000000 → x / 1000000000 < 2 ^ 63
cut_small x h = omega arith

-- the payment's magnitude fits
pub paid_fits : (z : ℤ) (n : ℕ) → nat_abs z ≤ 10000000000 → n < 500 → nat_abs z * growth_of n / 1000000000 < 2 ^ 63
paid_fits z n h w = cut_small (nat_abs z * growth_of n) (product (nat_abs z) (growth_of n) h (growth_small n w))

-- ---- the sign restored, and nothing lost by holding to what fits
pub debit_is : (z : ℤ) (n : ℕ) → nat_abs z * growth_of n / 1000000000 < 2 ^ 63 → lt_z z (pos 0) ≡ true → saturated (neg_ℤ (pos (nat_abs z * growth_of n / 1000000000))) ≡ paid_of z n
unfolding paid_of
debit_is z n h e = debit_on (λ (m : ℕ). m * growth_of n / 1000000000) z h e

pub credit_is : (z : ℤ) (n : ℕ) → nat_abs z * growth_of n / 1000000000 < 2 ^ 63 → lt_z z (pos 0) ≡ false → saturated (pos (nat_abs z * growth_of n / 1000000000)) ≡ paid_of z n
unfolding paid_of
credit_is z n h e = credit_on (λ (m : ℕ). m * growth_of n / 1000000000) z h e

-- ---- a saturated difference is settled as the exact one
pub saturated_rows : (z : ℤ) (a b : Period) → first_applicable (settle_rows (saturated z) a b) ≡ first_applicable (settle_rows z a b)
saturated_rows z a b = simp (saturated_within z 10000000000 (lit< tt))

nothing : (g : Bool) (y : ℤ) → cond (eqb (cond (not g) 12 11) 0) y (pos 0) ≡ pos 0
nothing true y = refl
nothing false y = refl

over_limit : (z : ℤ) (a b : Period) → leb (nat_abs z) 10000000000 ≡ false → settle_given z a b ≡ pos 0
over_limit z a b e = simp e (nothing (gap_holds a b) (paid_of z (nat_abs (hundredths (day_sum a) (day_sum b)))))

pub saturated_given : (z : ℤ) (a b : Period) → settle_given (saturated z) a b ≡ settle_given z a b
saturated_given z a b = by (leb (nat_abs z) 10000000000) refl
  where
    by : (t : Bool) → leb (nat_abs z) 10000000000 ≡ t → settle_given (saturated z) a b ≡ settle_given z a b
    by true e = let h = leb-true (nat_abs z) 10000000000 e in ap (λ (x : ℤ). settle_given x a b) (saturated_small z (omega arith))
    by false e = over_limit (saturated z) a b (saturated_within z 10000000000 (lit< tt) ∙ e) ∙ sym (over_limit z a b e)
