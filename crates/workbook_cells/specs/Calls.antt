-- What exporting a period checks and gives, and what reading 28 cells does: rules 12.3, 12.4, 19.5 and 19.6.
use Rattle.std.specs.Prelude.{cond, not, List, [], ◌∷◌, ◌≡◌, ℕ, ltb, replicate, ℤ, pos, Result, unwrap_or}
use Rattle.refusals.specs.Refusals.{Rows, accepted, answer_number, first_applicable, given_or, why_alone, part_number}
use Rattle.refusals.specs.declared.Refusal.{Refusal}
use Rattle.refusals.specs.declared.RefusedAt.{RefusedAt}
use Rattle.refusals.specs.declared.Refusal.TheVariants.{BadYear, BadPeriod, TooLarge, BadCell}
use Rattle.median_period.specs.declared.MedianPeriod.{MedianPeriod}
use Rattle.median_period.specs.Medians.{good_medians, no_medians}
use Rattle.cells.specs.declared.Slot.{Slot}
use Rattle.workbook_cells.specs.declared.reading.CellsRead.{CellsRead}
use Rattle.cells.specs.Cells.{empty_slot, amount_in, day_float}
use Rattle.workbook_cells.specs.Workbook.{tabulated, first_from, bad_amount, exported, cell_at, first_bad}

-- ---- a period is exported
abbrev pub export_rows : List ℤ → MedianPeriod → Rows
export_rows amounts p =
    (BadYear, ltb (first_from (bad_amount amounts) 20 0) 20)
    ∷ (BadPeriod, not (good_medians p))
    ∷ (TooLarge, ltb (first_from (bad_amount amounts) 5 20) 25)
    ∷ []

-- rule 12.3: beside a refusal every cell is empty
abbrev pub exported_slots : List ℤ → MedianPeriod → List Slot
exported_slots amounts p = cond (accepted (export_rows amounts p)) (exported amounts p) (replicate 28 empty_slot)

-- what `export_period` promises of its result
abbrev pub ExportGives : List ℤ → MedianPeriod → Result (List Slot) Refusal → Type 0
ExportGives amounts p r =
    (answer_number r ≡ first_applicable (export_rows amounts p)) × (given_or (replicate 28 empty_slot) r ≡ exported_slots amounts p)

-- ---- cells are read
abbrev pub read_cells_rows : List Slot → Rows
read_cells_rows slots = (BadCell, ltb (first_bad slots) 28) ∷ []

abbrev pub read_index : List Slot → ℕ
read_index slots = cond (accepted (read_cells_rows slots)) 0 (first_bad slots)

abbrev pub amounts_in : List Slot → List ℤ
amounts_in slots = tabulated (λ (i : ℕ). unwrap_or (amount_in i (cell_at slots i)) (pos 0)) 25

abbrev pub period_in : List Slot → MedianPeriod
period_in slots = record { first = day_float (cell_at slots 25); last = day_float (cell_at slots 26); median = day_float (cell_at slots 27) }

abbrev pub cells_in : List Slot → CellsRead
cells_in slots = record { amounts = amounts_in slots; period = period_in slots }

-- rule 12.3: beside a refusal 25 zeros and a period of three 0.0
abbrev pub no_cells : CellsRead
no_cells = record { amounts = replicate 25 (pos 0); period = no_medians }

abbrev pub read_given : List Slot → CellsRead
read_given slots = cond (accepted (read_cells_rows slots)) (cells_in slots) no_cells

-- what `read_cells` promises of its result
abbrev pub ReadCellsGives : List Slot → Result CellsRead RefusedAt → Type 0
ReadCellsGives slots r =
    (answer_number (why_alone r) ≡ first_applicable (read_cells_rows slots))
    × (part_number r ≡ read_index slots)
    × (given_or no_cells (why_alone r) ≡ read_given slots)
