-- The greatest number that passes a test, and the growth table's rule. Assumes nothing.
use mathlib.Core.Path.{◌≡◌, refl, sym, ap, ◌∙◌, subst}
use mathlib.Core.Bool.{Bool, true, false, cond}
use mathlib.Core.Logic.{⊎_elim}
use Prim.Native.Nat.{ℕ, zero, suc, ◌+◌, ◌-◌, ◌*◌, ◌^◌, ◌≤◌, ◌<◌, zero-le}
use native.Mathlib.Nat.{le_antisymm, le_trans, le_of_eq, lt_of_lt_of_le, mul-le-mul_right, pow-le-pow_left, not-suc-le-zero, zero-mul}
use native.Mathlib.Omega.{arith}
use lib.Dec.{lit≤}
use borrow.Author.Tests.{leb-true, leb-false, le-leb, lt-leb}
use Rattle.lists.proofs.Tests.{le_or_lt}
use Rattle.settlement.specs.Growth.{greatest, grows_to, growth_of}
use Rattle.settlement.proofs.Powers.{stays_below}

pub clash : {P : Type 0} {b : Bool} → b ≡ true → b ≡ false → P
clash p q = let z : ◌≡◌ {A = ℕ} 0 1 = ap (λ (x : Bool). cond x 0 1) (sym p ∙ q) in absurd (omega arith)

-- ---- the greatest number up to `most` that passes
module _ (p : ℕ → Bool) where
  -- it passes, where 0 does
  pub greatest_passes : (most : ℕ) → p 0 ≡ true → p (greatest p most) ≡ true
  unfolding greatest
  greatest_passes zero z = z
  greatest_passes (suc most) z = by (p (suc most)) refl (greatest_passes most z)
    where
      by : (b : Bool) → p (suc most) ≡ b → p (greatest p most) ≡ true → p (cond b (suc most) (greatest p most)) ≡ true
      by true e ih = e
      by false e ih = ih

  greatest_within : (most : ℕ) → greatest p most ≤ most
  unfolding greatest
  greatest_within zero = omega arith
  greatest_within (suc most) = by (p (suc most)) (greatest_within most)
    where
      by : (b : Bool) → greatest p most ≤ most → cond b (suc most) (greatest p most) ≤ suc most
      by true ih = omega arith
      by false ih = omega arith

  -- and no number above it does
  pub none_above : (most k : ℕ) → greatest p most < k → k ≤ most → p k ≡ false
  unfolding greatest
  none_above zero k h l = absurd (not-suc-le-zero {n = 0} (omega arith))
  none_above (suc most) k h l = by (p (suc most)) refl h (none_above most k)
    where
      by : (b : Bool) → p (suc most) ≡ b → cond b (suc most) (greatest p most) < k
          → (greatest p most < k → k ≤ most → p k ≡ false) → p k ≡ false
      by true e u ih = absurd (not-suc-le-zero {n = 0} (omega arith))
      by false e u ih =
          ⊎_elim (λ (w : k ≤ most). ih u w)
          (λ (w : most < k). let s : k ≡ suc most = omega arith in ap p s ∙ e)
          (le_or_lt k most)

  -- a number that passes, above which none does, is the greatest
  pub greatest_is : (most e : ℕ) → p 0 ≡ true → e ≤ most → p e ≡ true → ((k : ℕ) → e < k → k ≤ most → p k ≡ false) → greatest p most ≡ e
  greatest_is most e z l y f = le_antisymm upper lower
    where
      upper : greatest p most ≤ e
      upper =
          ⊎_elim (λ (h : greatest p most ≤ e). h)
          (λ (h : e < greatest p most). clash (greatest_passes most z) (f (greatest p most) h (greatest_within most)))
          (le_or_lt (greatest p most) e)

      lower : e ≤ greatest p most
      lower = ⊎_elim (λ (h : e ≤ greatest p most). h) (λ (h : greatest p most < e). clash y (none_above most e h l)) (le_or_lt e (greatest p most))

-- ---- the table's rule
nothing_grows : (n : ℕ) → grows_to n 0 ≡ true
unfolding grows_to
nothing_grows n = le-leb (0 ^ 100 * 10000 ^ n) (10 ^ 900 * 10388 ^ n) (le_trans (le_of_eq (zero-mul (10000 ^ n))) zero-le)

-- the hundredth power grows with its base
pub no_more : (n e k : ℕ) → e ≤ k → grows_to n e ≡ false → grows_to n k ≡ false
unfolding grows_to
no_more n e k h f =
    lt-leb (k ^ 100 * 10000 ^ n) (10 ^ 900 * 10388 ^ n)
    (lt_of_lt_of_le (leb-false (e ^ 100 * 10000 ^ n) (10 ^ 900 * 10388 ^ n) f) (mul-le-mul_right (10000 ^ n) (pow-le-pow_left h 100)))

-- an entry that passes, while the next number does not, is the table's
pub growth_is : (n e : ℕ) → e ≤ 2000000000 → grows_to n e ≡ true → grows_to n (e + 1) ≡ false → growth_of n ≡ e
unfolding growth_of
growth_is n e l y f =
    greatest_is (grows_to n) 2000000000 e (nothing_grows n) l y (λ (k : ℕ) (h : e < k) (w : k ≤ 2000000000). no_more n (e + 1) k (omega arith) f)

-- what grows to e in n hundredths grows to e in more
later : (n k e : ℕ) → grows_to n e ≡ true → grows_to (n + k) e ≡ true
unfolding grows_to
later n k e h =
    le-leb (e ^ 100 * 10000 ^ (n + k)) (10 ^ 900 * 10388 ^ (n + k))
    (stays_below (e ^ 100) (10 ^ 900) 10000 10388 n k (lit≤ tt) (leb-true (e ^ 100 * 10000 ^ n) (10 ^ 900 * 10388 ^ n) h))

not_to : grows_to 499 1300000000 ≡ false
unfolding grows_to
not_to = refl

fill : (n : ℕ) → n < 500 → n + (499 - n) ≡ 499
fill n h = omega arith

not_so_far : (n : ℕ) → n < 500 → grows_to n 1300000000 ≡ false
not_so_far n h = by (grows_to n 1300000000) refl
  where
    by : (b : Bool) → grows_to n 1300000000 ≡ b → b ≡ false
    by true e = clash (subst (λ (x : ℕ). grows_to x 1300000000 ≡ true) (fill n h) (later n (499 - n) 1300000000 e)) not_to
    by false e = refl

-- an entry passes
pub entry_passes : (n : ℕ) → grows_to n (growth_of n) ≡ true
unfolding growth_of
entry_passes n = greatest_passes (grows_to n) 2000000000 (nothing_grows n)

-- no entry of the table reaches 1.3 x 10^9
pub growth_small : (n : ℕ) → n < 500 → growth_of n < 1300000000
growth_small n h =
    ⊎_elim (λ (w : 1300000000 ≤ growth_of n). clash (entry_passes n) (no_more n 1300000000 (growth_of n) w (not_so_far n h)))
    (λ (w : growth_of n < 1300000000). w)
    (le_or_lt 1300000000 (growth_of n))

-- and the next number does not
next_above : (n : ℕ) → growth_of n < growth_of n + 1 → growth_of n + 1 ≤ 2000000000 → grows_to n (growth_of n + 1) ≡ false
unfolding growth_of
next_above n h l = none_above (grows_to n) 2000000000 (greatest (grows_to n) 2000000000 + 1) h l

pub entry_next : (n : ℕ) → n < 500 → grows_to n (growth_of n + 1) ≡ false
entry_next n h = next_above n (omega arith) (omega (arith, growth_small n h))
