-- What it is for cells to come back as they were: rule 19.8. No contract is stated by these definitions; theorems speak by them.
use Rattle.std.specs.Prelude.{Bool, false, cond, List, ◌≡◌, ℕ, ◌<◌, T, ℤ, pos, Float, Result, Ok}
use Rattle.std.specs.Float.{fin, binary64}
use Rattle.std.specs.Float.Ieee.{fits, eq}
use Rattle.refusals.specs.declared.Refusal.{Refusal}
use Rattle.refusals.specs.declared.RefusedAt.{RefusedAt}
use Rattle.median_period.specs.declared.MedianPeriod.{MedianPeriod}
use Rattle.cells.specs.declared.Cell.{Cell}
use Rattle.cells.specs.declared.Cell.TheVariants.{Empty, Number, Day}
use Rattle.cells.specs.declared.Slot.{Slot}
use Rattle.cells.specs.Cells.{is_within, slot_of}
use Rattle.workbook_cells.specs.declared.reading.CellsRead.{CellsRead}
use Rattle.workbook_cells.specs.Workbook.{tabulated, cell_at}

-- a cell's float is one of 64 bits, written in the one way that such a float has
abbrev pub CellFits : Cell → Type 0
CellFits Empty = Unit {0}
CellFits (Number x) = T (fits binary64 x)
CellFits (Day x) = T (fits binary64 x)

abbrev pub CellsFit : List Slot → Type 0
CellsFit slots = (i : ℕ) → i < 28 → CellFits (cell_at slots i)

-- `==` with 0.0, which -0.0 is too
abbrev pub is_nought : Float → Bool
is_nought x = eq (fin false 0 (pos 0)) x

-- rule 19.8: a W of 0 or -0 comes out empty, and -0 elsewhere as 0
abbrev pub came_out : ℕ → Cell → Cell
came_out i Empty = Empty
came_out i (Number x) = cond (is_nought x) (cond (is_within i) Empty (Number (fin false 0 (pos 0)))) (Number x)
came_out i (Day x) = Day x

abbrev pub came_out_all : List Slot → List Slot
came_out_all slots = tabulated (λ (i : ℕ). slot_of (came_out i (cell_at slots i))) 28

-- what is exported reads back as itself
abbrev pub ReadsBack : List ℤ → MedianPeriod → Result CellsRead RefusedAt → Type 0
ReadsBack amounts p r = r ≡ Ok (record { amounts = amounts; period = p })

-- what is read and exported gives the same cells
abbrev pub ComesOut : List Slot → Result (List Slot) Refusal → Type 0
ComesOut slots e = e ≡ Ok (came_out_all slots)
