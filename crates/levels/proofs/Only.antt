-- Each call answers and no second answer fits, and its rows stand in the order of refusals. Assumes nothing.
use mathlib.Core.Path.{◌≡◌, refl, sym, ◌∙◌}
use mathlib.Core.Bool.{Bool, true, false}
use Prim.Native.Nat.{ℕ}
use Rattle.std.specs.Prelude.{Result}
use Rattle.refusals.specs.declared.Refusal.{Refusal}
use Rattle.refusals.specs.Order.{in_turn, in_order_of}
use Rattle.refusals.specs.Answers.{One}
use Rattle.refusals.proofs.Cases.{same_case, one_case}
use Rattle.outage.specs.declared.Log.{Log}
use Rattle.year.specs.declared.Year.{Year}
use Rattle.levels.specs.declared.Book.{Book}
use Rattle.levels.specs.declared.levelling.Levels.{Levels}
use Rattle.levels.specs.Availability.{availability_in, availability_rows, AvailabilityGives, meets_target, TargetGives}
use Rattle.levels.specs.Levels.{cap_level, floor_of, levels_rows, no_levels, LevelsGives}

-- ---- availability
pub only_availability : (book : Book) (log : Log) (number : ℕ) (r s : Result ℕ Refusal) → AvailabilityGives book log number r → AvailabilityGives book log number s → r ≡ s
only_availability book log number r s p q = same_case 0 r s (p.0 ∙ sym q.0) (p.1 ∙ sym q.1)

pub one_availability : (book : Book) (log : Log) (number : ℕ) → One (AvailabilityGives book log number)
one_availability book log number = one_case 0 (availability_rows book log number) (availability_in log number)

pub availability_in_turn : (book : Book) (log : Log) (number : ℕ) → in_order_of in_turn (availability_rows book log number) ≡ true
availability_in_turn book log number = refl

-- ---- the target
pub only_target : (book : Book) (log : Log) (number : ℕ) (r s : Result Bool Refusal) → TargetGives book log number r → TargetGives book log number s → r ≡ s
only_target book log number r s p q = same_case false r s (p.0 ∙ sym q.0) (p.1 ∙ sym q.1)

pub one_target : (book : Book) (log : Log) (number : ℕ) → One (TargetGives book log number)
one_target book log number = one_case false (availability_rows book log number) (meets_target book log number)

-- ---- the levels
pub only_levels : (book : Book) (y : Year) (log : Log) (r s : Result Levels Refusal) → LevelsGives book y log r → LevelsGives book y log s → r ≡ s
only_levels book y log r s p q = same_case no_levels r s (p.0 ∙ sym q.0) (p.1 ∙ sym q.1)

pub one_levels : (book : Book) (y : Year) (log : Log) → One (LevelsGives book y log)
one_levels book y log = one_case no_levels (levels_rows book y log) (record { cap = cap_level book y; floor = floor_of book y log })

pub levels_in_turn : (book : Book) (y : Year) (log : Log) → in_order_of in_turn (levels_rows book y log) ≡ true
levels_in_turn book y log = refl
