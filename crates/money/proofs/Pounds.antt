-- Magnitudes, what fits 64 bits, and what saturates. Assumes nothing.
use mathlib.Core.Path.{◌≡◌, refl, ap}
use mathlib.Core.Bool.{Bool, true, false, not, cond}
use mathlib.Core.Logic.{⊎_elim}
use Prim.Native.Nat.{ℕ, zero, suc, ◌+◌, ◌-◌, ◌^◌, ◌≤◌, ◌<◌, min}
use native.Mathlib.Nat.{min-eq_left}
use native.Mathlib.Omega.{arith}
use lib.Dec.{ltb, leb}
use lib.IntN.{ℤ, pos, negsuc, neg_ℤ, nat_abs, ◌+ℤ◌, ◌-ℤ◌}
use lib.Signed.{mag, lt_z, non_neg}
use borrow.Author.Tests.{ltb-true, le-ltb, le-leb, lt-leb}
use mir.Syntax.{w64}
use mir.Val.{SFits, to_z, of_z}
use mir.Facts.{to_z-of_z}
use Rattle.lists.proofs.Tests.{le_or_lt}
use Rattle.money.specs.Pounds.{most_pounds, saturated}

mag_le : (z : ℤ) → mag z ≤ nat_abs z
mag_le (pos n) = omega arith
mag_le (negsuc n) = omega arith

-- a magnitude below 2^63 fits
pub sfits : (z : ℤ) → nat_abs z < 2 ^ 63 → SFits w64 z
sfits z h = record { sfits = omega (arith, mag_le z) }

-- what is read back from 64 bits is what went in
pub wire : (z : ℤ) → mag z < 2 ^ 63 → to_z w64 (of_z w64 z) ≡ z
wire z h = to_z-of_z {w = w64} (record { sfits = h })

-- ---- magnitudes
abs_less : (a b : ℕ) (t : Bool) → ltb a b ≡ t → nat_abs (cond t (negsuc (b - suc a)) (pos (a - b))) ≤ a + b
abs_less a b true e = let h : a < b = ltb-true a b e in omega arith
abs_less a b false e = omega arith

-- a sum's magnitude is at most the sum of the magnitudes
pub abs_add : (a b : ℤ) → nat_abs (a +ℤ b) ≤ nat_abs a + nat_abs b
abs_add (pos a) (pos b) = omega arith
abs_add (pos a) (negsuc b) = abs_less a (suc b) (ltb a (suc b)) refl
abs_add (negsuc a) (pos b) = let h = abs_less b (suc a) (ltb b (suc a)) refl in omega arith
abs_add (negsuc a) (negsuc b) = omega arith

-- the sign changes no magnitude
pub abs_neg : (z : ℤ) → nat_abs (neg_ℤ z) ≡ nat_abs z
abs_neg (pos zero) = refl
abs_neg (pos (suc n)) = refl
abs_neg (negsuc n) = refl

-- a difference's magnitude is at most the sum of the magnitudes
pub abs_sub : (a b : ℤ) → nat_abs (a -ℤ b) ≤ nat_abs a + nat_abs b
abs_sub a b = omega (arith, abs_add a (neg_ℤ b), abs_neg b)

-- a number is at least zero where it is not below zero
pub non_neg_is : (z : ℤ) → non_neg z ≡ not (lt_z z (pos 0))
non_neg_is (pos n) = rw (le-ltb n 0 (omega arith))
non_neg_is (negsuc n) = refl

-- ---- what does not fit saturates
-- a number in the range of 64 bits stays as it is
pub saturated_fits : (z : ℤ) → mag z < 2 ^ 63 → saturated z ≡ z
saturated_fits (pos n) h = ap pos (min-eq_left (omega arith))
saturated_fits (negsuc n) h = ap negsuc (min-eq_left (omega arith))

-- a number of magnitude below 2^63 stays as it is
pub saturated_small : (z : ℤ) → nat_abs z < 2 ^ 63 → saturated z ≡ z
saturated_small z h = saturated_fits z (omega (arith, mag_le z))

same_side : (m n limit : ℕ) → (m ≤ limit → n ≤ limit) → (n ≤ limit → m ≤ limit) → leb m limit ≡ leb n limit
same_side m n limit f g =
    ⊎_elim
    (λ (h : m ≤ limit). rw (le-leb m limit h, le-leb n limit (f h)))
    (λ (h : limit < m). rw (lt-leb m limit h, lt-leb n limit (by h)))
    (le_or_lt m limit)
  where
    by : limit < m → limit < n
    by h = ⊎_elim (λ (k : n ≤ limit). let l = g k in absurd (omega arith)) (λ (k : limit < n). k) (le_or_lt n limit)

-- saturating a number does not change whether its magnitude is within a small limit
pub saturated_within : (z : ℤ) (limit : ℕ) → limit < 2 ^ 63 - 1 → leb (nat_abs (saturated z)) limit ≡ leb (nat_abs z) limit
saturated_within (pos n) limit h = same_side (min n most_pounds) n limit (λ k. omega arith) (λ k. omega arith)
saturated_within (negsuc n) limit h = same_side (suc (min n most_pounds)) (suc n) limit (λ k. omega arith) (λ k. omega arith)
