-- What a level is at most, and that none is negative. Assumes nothing.
use mathlib.Core.Path.{◌≡◌, sym, ap, ◌∙◌}
use mathlib.Core.Bool.{Bool, true, false, cond, ◌||◌}
use Prim.Native.Nat.{ℕ, ◌*◌, ◌≤◌}
use native.Mathlib.Nat.{mul-le-mul}
use native.Mathlib.Omega.{arith}
use lib.Dec.{lit<}
use lib.IntN.{ℤ, pos, nat_abs}
use lib.Signed.{lt_z, non_neg}
use mir.Syntax.{w64}
use mir.Val.{to_z, of_z}
use mir.Facts.{to_z-of_z}
use Rattle.lists.proofs.Tests.{not_yes}
use Rattle.money.proofs.Pounds.{non_neg_is, sfits}
use Rattle.money.proofs.Nearest.{abs_round, round_le, round_nonneg}
use Rattle.outage.specs.declared.Log.{Log}
use Rattle.year.specs.declared.Year.{Year}
use Rattle.levels.specs.declared.Book.{Book}
use Rattle.levels.specs.Book.{good_book, cap_sum, floor_sum}
use Rattle.levels.specs.Levels.{level_of, aif_of, cap_level, floor_of}
use Rattle.levels.proofs.Says.{book_says}

-- an amount of the book is read back as it went in
pub wire_small : (z : ℤ) → nat_abs z ≤ 1000000000 → to_z w64 (of_z w64 z) ≡ z
wire_small z h = to_z-of_z (sfits z (omega arith))

-- ---- what a level is at most
pub level_most : (partial : ℕ) (sum : ℤ) (incentive pppi : ℕ) → partial ≤ 10000 → nat_abs sum ≤ 1000000000 → incentive ≤ 20000 → pppi ≤ 50000
    → nat_abs (level_of partial sum incentive pppi) ≤ 10000000000
unfolding level_of
level_most partial sum incentive pppi p s i h =
    let by : ℕ = partial * incentive * pppi in
    rw (abs_round sum by 1000000000000)
    (round_le (nat_abs sum * by) 10000000000 1000000000000 (lit< tt) (mul-le-mul s (mul-le-mul (mul-le-mul p i) h)))

-- the incentive at floor is at most one
pub aif_most : (met exceptional : Bool) (factor : ℕ) → factor ≤ 10000 → aif_of met exceptional factor ≤ 10000
aif_most met exceptional factor h = by (met || exceptional)
  where
    by : (b : Bool) → cond b 10000 factor ≤ 10000
    by true = omega arith
    by false = h

-- ---- no level is negative
level_good : (partial : ℕ) (sum : ℤ) (incentive pppi : ℕ) → non_neg sum ≡ true → non_neg (level_of partial sum incentive pppi) ≡ true
unfolding level_of
level_good partial sum incentive pppi h =
    ap non_neg (round_nonneg sum (partial * incentive * pppi) 1000000000000 (not_yes (lt_z sum (pos 0)) (sym (non_neg_is sum) ∙ h)))

module _ (book : Book) (good : good_book book ≡ true) (y : Year) where
  pub cap_good : non_neg (cap_level book y) ≡ true
  cap_good = level_good y.pyc (cap_sum book) y.aic y.pppi (book_says book good).cap.sign

  pub floor_good : (log : Log) → non_neg (floor_of book y log) ≡ true
  floor_good log = level_good y.pyf (floor_sum book) _ y.pppi (book_says book good).floor.sign
