-- The cells of the amounts before this one are there.
use Rattle.std.proofs.Common.{◌≡◌, ℕ}
use Rattle.lists.specs.Lists.{padded}
use Rattle.cells.specs.Cells.{slot_of, cell_of, empty_slot}
use Rattle.workbook_cells.specs.Workbook.{tabulated, amount_at}
use Rattle.workbook_cells.proofs.exporting.all_slots.Given as goal

abbrev pub invariant-loop-i : goal.invariant-loop-i
invariant-loop-i l = l.slots ≡ padded 28 empty_slot (tabulated (λ (i : ℕ). slot_of (cell_of i (amount_at l.fn.amounts i))) l.i)
