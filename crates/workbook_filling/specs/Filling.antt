-- The cells of a period from the input of `workbook`, or the first refusal: rules 12.3, 20.2 and 20.3.
use Rattle.std.specs.Prelude.{cond, List, ◌≡◌, ℕ, eqb, replicate, Result}
use Rattle.refusals.specs.declared.Refusal.{Refusal}
use Rattle.refusals.specs.Refusals.{answer_number, given_or, first_applicable}
use Rattle.median_period.specs.declared.MedianPeriod.{MedianPeriod}
use Rattle.median_period.specs.Calls.{made_period}
use Rattle.cells.specs.declared.Slot.{Slot}
use Rattle.cells.specs.Cells.{empty_slot}
use Rattle.workbook_cells.specs.Workbook.{exported}
use Rattle.workbook_cells.specs.Calls.{export_rows}
use Rattle.workbook_input.specs.Input.{first_day, last_day}
use Rattle.workbook_input.specs.Calls.{or_else, input_number, input_amounts}

-- rule 20.2: the measurement period of the two days, three zeros where they are none
abbrev pub measured : List ℕ → MedianPeriod
measured bs = made_period (first_day bs) (last_day bs)

-- rule 20.3: the export is the last that may refuse
abbrev pub fill_number : List ℕ → ℕ
fill_number bs = or_else (input_number bs) (first_applicable (export_rows (input_amounts bs) (measured bs)))

-- rule 12.3: beside a refusal every cell is empty
abbrev pub filled_slots : List ℕ → List Slot
filled_slots bs = cond (eqb (fill_number bs) 0) (exported (input_amounts bs) (measured bs)) (replicate 28 empty_slot)

-- what `fill_workbook` promises of its result
abbrev pub FillGives : List ℕ → Result (List Slot) Refusal → Type 0
FillGives bs r = (answer_number r ≡ fill_number bs) × (given_or (replicate 28 empty_slot) r ≡ filled_slots bs)
