-- The range of an amount at its index. Assumes nothing.
use mathlib.Core.Path.{◌≡◌}
use mathlib.Core.Bool.{Bool, true, false, not, cond, ◌||◌}
use Prim.Native.Nat.{ℕ, ◌≤◌}
use native.Mathlib.Omega.{arith}
use borrow.Author.Tests.{leb-true}
use lib.Dec.{leb, ltb}
use lib.IntN.{ℤ, nat_abs}
use lib.Signed.{non_neg}
use Rattle.lists.proofs.Tests.{and_left}
use Rattle.cells.specs.Cells.{is_yearly, is_level, most_at, good_amount}

-- what is in range at its index is no more than 3 x 10^10
pub at_most : (i : ℕ) (z : ℤ) → good_amount i z ≡ true → nat_abs z ≤ 30000000000
unfolding good_amount most_at
at_most i z e = by (is_yearly i) (ltb i 24) (leb-true (nat_abs z) (most_at i) (and_left (leb (nat_abs z) (most_at i)) (not (is_level i) || non_neg z) e))
  where
    by : (yearly balance : Bool) → nat_abs z ≤ cond yearly 1000000000 (cond balance 10000000000 30000000000) → nat_abs z ≤ 30000000000
    by true balance h = omega arith
    by false true h = omega arith
    by false false h = h
