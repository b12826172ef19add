-- What the functions inside are stated by. No call is stated by it: laws turn it into the words of the workbook.
use Rattle.std.specs.Prelude.{Bool, cond, List, ℕ, ltb, ℤ, Result, Ok, Err, is_none}
use Rattle.refusals.specs.declared.Refusal.TheVariants.{BadCell}
use Rattle.refusals.specs.declared.RefusedAt.{RefusedAt}
use Rattle.cells.specs.declared.Slot.{Slot}
use Rattle.cells.specs.Cells.{amount_in}
use Rattle.workbook_cells.specs.Workbook.{first_from, cell_at}
use Rattle.workbook_cells.specs.Calls.{amounts_in}

-- ---- the amounts of the first 25 cells, or the first of these that holds none
abbrev pub bad_at : ℕ → RefusedAt
bad_at at = record { why = BadCell; at = at }

abbrev pub bad_number : List Slot → ℕ → Bool
bad_number slots i = is_none (amount_in i (cell_at slots i))

abbrev pub first_bad_number : List Slot → ℕ
first_bad_number slots = first_from (bad_number slots) 25 0

abbrev pub amounts_read : List Slot → Result (List ℤ) RefusedAt
amounts_read slots = cond (ltb (first_bad_number slots) 25) (Err (bad_at (first_bad_number slots))) (Ok (amounts_in slots))
