-- Each call answers and no second answer fits, and its rows stand in the order of refusals. Assumes nothing.
use mathlib.Core.Path.{◌≡◌, refl, sym, ◌∙◌}
use mathlib.Core.Bool.{Bool, true, false}
use mathlib.Core.List.{List}
use native.Mathlib.Omega.{arith}
use borrow.Author.Tests.{ltb-true, ltb-false}
use lib.Dec.{ltb}
use lib.ListN.{replicate}
use lib.IntN.{ℤ}
use Rattle.std.specs.Prelude.{Result, Ok, Err}
use Rattle.refusals.specs.declared.Refusal.{Refusal}
use Rattle.refusals.specs.declared.RefusedAt.{RefusedAt}
use Rattle.refusals.specs.Order.{in_turn, in_cells, in_order_of}
use Rattle.refusals.specs.Answers.{One}
use Rattle.refusals.proofs.Cases.{same_case, one_case, same_place}
use Rattle.median_period.specs.declared.MedianPeriod.{MedianPeriod}
use Rattle.cells.specs.declared.Slot.{Slot}
use Rattle.cells.specs.Cells.{empty_slot}
use Rattle.workbook_cells.specs.declared.reading.CellsRead.{CellsRead}
use Rattle.workbook_cells.specs.Workbook.{exported, bad_cell, first_bad}
use Rattle.workbook_cells.specs.Calls.{export_rows, ExportGives, read_cells_rows, amounts_in, period_in, cells_in, no_cells, ReadCellsGives}
use Rattle.workbook_cells.specs.Steps.{bad_at}
use Rattle.workbook_cells.proofs.Tables.{first_most}
use Rattle.workbook_cells.proofs.Answers.{refused_at, all_read}

-- ---- an export
pub only_export : (amounts : List ℤ) (p : MedianPeriod) (r s : Result (List Slot) Refusal) → ExportGives amounts p r → ExportGives amounts p s → r ≡ s
only_export amounts p r s a b = same_case (replicate 28 empty_slot) r s (a.0 ∙ sym b.0) (a.1 ∙ sym b.1)

pub one_export : (amounts : List ℤ) (p : MedianPeriod) → One (ExportGives amounts p)
one_export amounts p = one_case (replicate 28 empty_slot) (export_rows amounts p) (exported amounts p)

pub export_in_turn : (amounts : List ℤ) (p : MedianPeriod) → in_order_of in_turn (export_rows amounts p) ≡ true
export_in_turn amounts p = refl

-- ---- a reading
pub only_read_cells : (slots : List Slot) (r s : Result CellsRead RefusedAt) → ReadCellsGives slots r → ReadCellsGives slots s → r ≡ s
only_read_cells slots r s a b = same_place no_cells r s (a.0 ∙ sym b.0) (a.2 ∙ sym b.2) (a.1 ∙ sym b.1)

pub one_read_cells : (slots : List Slot) → One (ReadCellsGives slots)
one_read_cells slots = by (ltb (first_bad slots) 28) refl
  where
    alone : (r : Result CellsRead RefusedAt) → ReadCellsGives slots r → One (ReadCellsGives slots)
    alone r m = record { result = r; meets = m; alone = λ other h. only_read_cells slots other r h m }

    by : (b : Bool) → ltb (first_bad slots) 28 ≡ b → One (ReadCellsGives slots)
    by true e = alone (Err (bad_at (first_bad slots))) (refused_at slots (first_bad slots) refl (ltb-true (first_bad slots) 28 e))
    by false e =
        alone (Ok (cells_in slots))
        (all_read slots (amounts_in slots) (period_in slots) refl refl (omega (arith, first_most (bad_cell slots) 28 0, ltb-false (first_bad slots) 28 e)))

pub read_cells_in_turn : (slots : List Slot) → in_order_of in_cells (read_cells_rows slots) ≡ true
read_cells_in_turn slots = refl
