-- Laws on a balance over the years, for any number of them. Assumes nothing.
use mathlib.Core.Path.{◌≡◌, refl, ◌∙◌}
use mathlib.Core.Bool.{true, false}
use mathlib.Core.List.{List}
use Prim.Native.Nat.{ℕ, zero, suc, ◌+◌, ◌*◌, ◌-◌, ◌≤◌}
use native.Mathlib.Nat.{mul-le-mul, mul-le-mul_left, le_trans, zero-add}
use native.Mathlib.Numerals.{add-one}
use native.Mathlib.Omega.{arith}
use lib.Dec.{leb}
use lib.ListN.{get_or}
use lib.IntN.{ℤ, pos, nat_abs, ◌+ℤ◌}
use borrow.Author.Tests.{leb-true}
use Rattle.lists.proofs.Tests.{and_left, and_right}
use Rattle.money.specs.Rounding.{scaled_of}
use Rattle.money.proofs.Nearest.{scaled_is, scaled_small}
use Rattle.std.specs.Prelude.{Option, Some, None}
use Rattle.balances.specs.Balance.{carry_of, balance_after, most_balance, later_within, good_amounts}
use Rattle.balances.specs.Steps.{carried_of}
use Rattle.balances.proofs.Ranges.{amount_small}

-- ---- one carry
module _ (z : ℤ) (before now : ℕ) (hz : nat_abs z ≤ most_balance) (hb : 5000 ≤ before) (hn : now ≤ 50000) where
  pub carry_is : scaled_of z (10388 * now) (10000 * before) ≡ carry_of z before now
  unfolding carry_of
  carry_is = scaled_is z (10388 * now) (10000 * before) hz (omega arith) (omega arith)

  pub carry_small : nat_abs (scaled_of z (10388 * now) (10000 * before)) ≤ 103880000000
  carry_small =
      scaled_small z (10388 * now) (10000 * before) 103880000000 (omega arith)
      (le_trans (mul-le-mul hz (mul-le-mul_left 10388 hn)) (omega arith))

-- ---- years one after the other
module _ (index : List ℕ) (amounts : List ℤ) where
  -- the first balance is the first year's amount
  pub starts : balance_after index amounts 0 ≡ get_or amounts 0 (pos 0)
  unfolding balance_after
  starts = refl

  -- the balance after one year more
  pub after_next : (at : ℕ) → balance_after index amounts (at + 1) ≡ carry_of (balance_after index amounts at) (get_or index at 0) (get_or index (at + 1) 0) +ℤ get_or amounts (at + 1) (pos 0)
  unfolding balance_after
  after_next at = rw add-one

  pub carried_done : (at left : ℕ) → left ≡ 0 → Some (balance_after index amounts at) ≡ carried_of index amounts at left
  unfolding later_within
  carried_done at left e = let n : at + 0 ≡ at = omega arith in rw (e, n)

  pub carried_on : (b : Option ℤ) (at left : ℕ) → (left ≡ 0 → ⊥) → leb (nat_abs (balance_after index amounts (at + 1))) most_balance ≡ true
      → b ≡ carried_of index amounts (at + 1) (left - 1) → b ≡ carried_of index amounts at left
  unfolding later_within
  carried_on b at zero f e g = absurd (f refl)
  carried_on b at (suc k) f e g =
      let less : suc k - 1 ≡ k = omega arith in
      let on : at + 1 + k ≡ at + suc k = omega arith in
      g ∙ rw (e, less, on)

  pub carried_over : (at left : ℕ) → (left ≡ 0 → ⊥) → leb (nat_abs (balance_after index amounts (at + 1))) most_balance ≡ false → None ≡ carried_of index amounts at left
  unfolding later_within
  carried_over at zero f e = absurd (f refl)
  carried_over at (suc k) f e = rw e

  -- a balance within the limit after each year is within it after the last
  pub later_small : (at left : ℕ) → nat_abs (balance_after index amounts at) ≤ most_balance → later_within index amounts at left ≡ true → nat_abs (balance_after index amounts (at + left)) ≤ most_balance
  unfolding later_within
  later_small at zero h e = let n : at + 0 ≡ at = omega arith in rw n h
  later_small at (suc k) h e =
      let t = leb (nat_abs (balance_after index amounts (at + 1))) most_balance in
      let on : at + 1 + k ≡ at + suc k = omega arith in
      let small : nat_abs (balance_after index amounts (at + 1)) ≤ most_balance = leb-true (nat_abs (balance_after index amounts (at + 1))) most_balance (and_left t (later_within index amounts (at + 1) k) e) in
      rw on at (later_small (at + 1) k small (and_right t (later_within index amounts (at + 1) k) e))

  -- and so is one that starts as an amount in range
  pub years_small : (n : ℕ) → 1 ≤ n → good_amounts index amounts n ≡ true → later_within index amounts 0 (n - 1) ≡ true → nat_abs (balance_after index amounts (n - 1)) ≤ most_balance
  years_small n some good e =
      rw (zero-add (n - 1)) at (later_small 0 (n - 1) (rw starts (omega (arith, amount_small index amounts n good 0 some))) e)
