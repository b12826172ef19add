-- What a reader may rely on, besides the contracts. Assumes nothing.
use mathlib.Core.Path.{◌≡◌, ap, subst, sym, ◌∙◌}
use mathlib.Core.Bool.{true, false}
use mathlib.Core.Logic.{◌≢◌, ⊎_elim}
use Prim.Native.Nat.{ℕ, ◌+◌, ◌-◌, ◌*◌, ◌/◌, ◌^◌, ◌≤◌, ◌<◌}
use native.Mathlib.Nat.{div-mul-le_self, lt-mul-div-succ, one-le-pow}
use native.Mathlib.Omega.{arith}
use lib.Dec.{lit<}
use lib.IntN.{ℤ, pos, nat_abs, ◌+ℤ◌, ◌-ℤ◌, ◌*ℤ◌}
use borrow.Author.Tests.{le-leb, leb-true, leb-false}
use Rattle.lists.proofs.Tests.{le_or_lt}
use Rattle.money.proofs.Parts.{over, under, sum, abs, times_over, times_under}
use Rattle.money.proofs.Nearest.{abs_on, abs_times, round_near, round_to}
use Rattle.settlement.specs.Gap.{hundredths}
use Rattle.settlement.specs.Exact.{NearExact}
use Rattle.settlement.specs.Growth.{grows_to, growth_of, paid_of}
use Rattle.settlement.proofs.Growing.{clash, no_more, entry_passes, entry_next}
use Rattle.settlement.proofs.Powers.{at_most_root, short_of_root}

-- ---- the gap
-- 400 times a number is no odd multiple of 1,461
not_odd : (m k : ℕ) → m * 400 ≡ (2 * k + 1) * 1461 → ⊥
not_odd m k e = omega arith

-- Twice 200g is no odd multiple of 1,461, whatever the sign of g: no gap lies half way between two hundredths of a year.
pub no_half : (g k : ℤ) → g *ℤ pos 400 ≡ (k *ℤ pos 2 +ℤ pos 1) *ℤ pos 1461 → ⊥
unfolding over under
no_half g k e =
    let odd = k *ℤ pos 2 +ℤ pos 1 in
    let half : ℕ = under odd + over k - under k in
    let is_odd : nat_abs odd ≡ 2 * half + 1 = omega (arith, abs odd, sum (k *ℤ pos 2) (pos 1), times_over k 2, times_under k 2) in
    not_odd (nat_abs g) half (sym (abs_times g 400) ∙ ap nat_abs e ∙ abs_times odd 1461 ∙ ap (λ (m : ℕ). m * 1461) is_odd)

module _ (earlier later : ℕ) where
  abbrev past : ℤ
  past = (pos later -ℤ pos earlier) *ℤ pos 200

  -- n is nearer to 200g/1,461 than a half
  pub nearest : 2 * nat_abs (hundredths earlier later *ℤ pos 1461 -ℤ past) < 1461
  unfolding hundredths
  nearest = omega (arith, round_near past 1461 (omega arith))

  -- and no other whole number is as near as a half
  pub only_nearest : (z : ℤ) → 2 * nat_abs (z *ℤ pos 1461 -ℤ past) ≤ 1461 → z ≡ hundredths earlier later
  unfolding hundredths
  only_nearest z h = sym (round_to past z 1461 (omega arith))

-- ---- the growth table
-- The rule as an inequality.
pub passing : (n e : ℕ) → grows_to n e ≡ true → e ^ 100 * 10000 ^ n ≤ 10 ^ 900 * 10388 ^ n
unfolding grows_to
passing n e h = leb-true (e ^ 100 * 10000 ^ n) (10 ^ 900 * 10388 ^ n) h

pub passes : (n e : ℕ) → e ^ 100 * 10000 ^ n ≤ 10 ^ 900 * 10388 ^ n → grows_to n e ≡ true
unfolding grows_to
passes n e h = le-leb (e ^ 100 * 10000 ^ n) (10 ^ 900 * 10388 ^ n) h

failing : (n e : ℕ) → grows_to n e ≡ false → 10 ^ 900 * 10388 ^ n < e ^ 100 * 10000 ^ n
unfolding grows_to
failing n e h = leb-false (e ^ 100 * 10000 ^ n) (10 ^ 900 * 10388 ^ n) h

-- Each entry of the growth table is the greatest that the rule admits: it passes, and one more does not.
pub entry_rule : (n : ℕ) → n < 500 → (grows_to n (growth_of n) ≡ true) × (grows_to n (growth_of n + 1) ≡ false)
entry_rule n h = (entry_passes n, entry_next n h)

-- And no number above it passes, however large.
pub entry_greatest : (n e : ℕ) → n < 500 → grows_to n e ≡ true → e ≤ growth_of n
entry_greatest n e h y =
    ⊎_elim (λ (w : e ≤ growth_of n). w)
    (λ (w : growth_of n < e). clash y (no_more n (growth_of n + 1) e (omega arith) (entry_next n h)))
    (le_or_lt e (growth_of n))

-- ---- a payment
hundred : ◌≢◌ {A = ℕ} 100 0
hundred e = omega arith

-- A payment of m pounds is never above the exact amount, and less than 1 + m / 10^9 pounds below it.
pub near : (m n : ℕ) → n < 500 → NearExact m n (m * growth_of n / 1000000000)
near m n h =
    let e = growth_of n in
    let rule = entry_rule n h in record {
      most =
          at_most_root 100 1000000000 e (m * e / 1000000000) m (10000 ^ n) (10388 ^ n) (lit< tt) (div-mul-le_self (m * e) 1000000000)
          (passing n e rule.0);
      short =
          short_of_root 100 1000000000 e (m * e / 1000000000) m (10000 ^ n) (10388 ^ n) hundred (one-le-pow n 10000 (lit< tt))
          (lt-mul-div-succ (m * e) (lit< tt)) (failing n (e + 1) rule.1);
    }

-- The same of an amount of either sign, by its magnitude.
pub near_paid : (amount : ℤ) (n : ℕ) → n < 500 → NearExact (nat_abs amount) n (nat_abs (paid_of amount n))
unfolding paid_of
near_paid amount n h = subst (λ (r : ℕ). NearExact (nat_abs amount) n r) (sym (abs_on (λ (m : ℕ). m * growth_of n / 1000000000) amount)) (near (nat_abs amount) n h)
