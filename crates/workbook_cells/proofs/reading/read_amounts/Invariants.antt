-- The cells before this one hold amounts, and these stand in their places.
use Rattle.std.proofs.Common.{◌≡◌, ℕ, ◌-◌, pos}
use Rattle.std.specs.Prelude.{unwrap_or}
use Rattle.lists.specs.Lists.{padded}
use Rattle.cells.specs.Cells.{amount_in}
use Rattle.workbook_cells.specs.Workbook.{tabulated, first_from, cell_at}
use Rattle.workbook_cells.specs.Steps.{bad_number, first_bad_number}
use Rattle.workbook_cells.proofs.reading.read_amounts.Given as goal

abbrev pub invariant-loop-i : goal.invariant-loop-i
invariant-loop-i l =
    (first_from (bad_number l.slots) (25 - l.i) l.i ≡ first_bad_number l.slots)
    × (l.amounts ≡ padded 25 (pos 0) (tabulated (λ (i : ℕ). unwrap_or (amount_in i (cell_at l.slots i)) (pos 0)) l.i))
