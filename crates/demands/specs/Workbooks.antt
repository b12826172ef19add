-- Workbooks, beside demand 3: the running log that a workbook is filled by is the log after the outages of its five returns are entered
-- one by one, each accepted, and an input that is too long for the program is refused. Rules 20.2 to 20.4.
use Rattle.std.specs.Prelude.{List, ◌≡◌, ℕ, ◌≤◌, ◌<◌, length, take, Some, Result}
use Rattle.refusals.specs.declared.Refusal.{Refusal}
use Rattle.refusals.specs.Refusals.{answer_number}
use Rattle.outage.specs.Log.{last_regime_end}
use Rattle.outage.specs.Calls.{empty_log}
use Rattle.year.specs.declared.Year.{Year}
use Rattle.cells.specs.declared.Slot.{Slot}
use Rattle.workbook_input.specs.Input.{input_years}
use Rattle.workbook_input.specs.Calls.{outages_in, running_log}
use Rattle.workbook_filling.specs.Filling.{FillGives}
use Rattle.demands.specs.Plans.{EntersAll}

-- rule 20.4: the most bytes of an input that is accepted
abbrev pub longest_input : ℕ
longest_input = 40978

pub record Workbooks : Type 0 where
  pub entered : (bs : List ℕ) (years : List Year) → input_years bs ≡ Some years → (r : Result (List Slot) Refusal) → FillGives bs r → answer_number r ≡ 0
      → EntersAll (empty_log last_regime_end) (outages_in years) (running_log years)
  pub longer : (bs : List ℕ) → longest_input < length bs → (r : Result (List Slot) Refusal) → FillGives bs r → answer_number r ≡ 13
  -- so of a longer input the first bytes say all
  pub cut : (bs : List ℕ) (n : ℕ) → longest_input < n → n ≤ length bs → (r s : Result (List Slot) Refusal) → FillGives (take n bs) r → FillGives bs s → r ≡ s
