-- What exporting and reading answer, way out by way out. Assumes nothing.
use mathlib.Core.Path.{◌≡◌, refl, sym, ap, ◌∙◌, subst}
use mathlib.Core.Bool.{Bool, true, false, not, cond}
use mathlib.Core.List.{List}
use Prim.Native.Nat.{ℕ, ◌<◌}
use borrow.Author.Tests.{lt-ltb, eq-eqb}
use lib.Dec.{ltb}
use lib.IntN.{ℤ}
use Rattle.std.specs.Prelude.{Ok, Err}
use Rattle.refusals.specs.declared.Refusal.TheVariants.{BadCell}
use Rattle.refusals.specs.Refusals.{accepted, first_applicable}
use Rattle.refusals.proofs.Laws.{refused_not}
use Rattle.refusals.proofs.Cases.{found_meets, refused_meets}
use Rattle.median_period.specs.declared.MedianPeriod.{MedianPeriod}
use Rattle.median_period.specs.Medians.{good_medians}
use Rattle.cells.specs.declared.Slot.{Slot}
use Rattle.workbook_cells.specs.declared.reading.CellsRead.{CellsRead}
use Rattle.workbook_cells.specs.Workbook.{first_from, bad_amount, first_bad}
use Rattle.workbook_cells.specs.Calls.{export_rows, read_cells_rows, read_index, amounts_in, period_in, cells_in, no_cells, ReadCellsGives}
use Rattle.workbook_cells.specs.Steps.{bad_at}

-- ---- an export
module _ (amounts : List ℤ) (p : MedianPeriod) where
  -- by the three tests
  abbrev rows_by : Bool → Bool → Bool → ℕ
  rows_by yearly period balances = cond yearly 9 (cond (not period) 12 (cond balances 11 0))

  rows_are : (yearly period balances : Bool) → ltb (first_from (bad_amount amounts) 20 0) 20 ≡ yearly → good_medians p ≡ period
      → ltb (first_from (bad_amount amounts) 5 20) 25 ≡ balances → first_applicable (export_rows amounts p) ≡ rows_by yearly period balances
  rows_are yearly period balances e f g = rw (e, f, g) refl

  pub bad_year : ltb (first_from (bad_amount amounts) 20 0) 20 ≡ true → first_applicable (export_rows amounts p) ≡ 9
  bad_year e = rows_are true (good_medians p) (ltb (first_from (bad_amount amounts) 5 20) 25) e refl refl

  pub bad_period : ltb (first_from (bad_amount amounts) 20 0) 20 ≡ false → good_medians p ≡ false → first_applicable (export_rows amounts p) ≡ 12
  bad_period e f = rows_are false false (ltb (first_from (bad_amount amounts) 5 20) 25) e f refl

  pub clear : ltb (first_from (bad_amount amounts) 20 0) 20 ≡ false → good_medians p ≡ true → ltb (first_from (bad_amount amounts) 5 20) 25 ≡ false
      → first_applicable (export_rows amounts p) ≡ 0
  clear e f g = rows_are false true false e f g

-- ---- a reading
module _ (slots : List Slot) where
  row_by : (b : Bool) → ltb (first_bad slots) 28 ≡ b → first_applicable (read_cells_rows slots) ≡ cond b 18 0
  row_by b e = ap (λ (t : Bool). cond {A = ℕ} t 18 0) e

  index_by : (b : Bool) → accepted (read_cells_rows slots) ≡ b → cond b 0 (first_bad slots) ≡ read_index slots
  index_by b e = sym (ap (λ (t : Bool). cond t 0 (first_bad slots)) e)

  -- refused at the first bad cell
  pub refused_at : (index : ℕ) → first_bad slots ≡ index → index < 28 → ReadCellsGives slots (Err (bad_at index))
  refused_at index b h =
      let n : first_applicable (read_cells_rows slots) ≡ 18 = row_by true (lt-ltb (first_bad slots) 28 (subst (λ (k : ℕ). k < 28) (sym b) h)) in
      let m = refused_meets no_cells (read_cells_rows slots) (cells_in slots) BadCell (sym n) in
      (m.0, sym b ∙ index_by false (refused_not {A = CellsRead} (Err BadCell) (read_cells_rows slots) (sym n) BadCell refl), m.1)

  pub all_read : (amounts : List ℤ) (p : MedianPeriod) → amounts ≡ amounts_in slots → p ≡ period_in slots → first_bad slots ≡ 28
      → ReadCellsGives slots (Ok (record { amounts = amounts; period = p }))
  all_read amounts p a e b =
      let n : first_applicable (read_cells_rows slots) ≡ 0 = row_by false (ap (λ (k : ℕ). ltb k 28) b) in
      let m = found_meets no_cells (read_cells_rows slots) (cells_in slots) n in
      let is : cells_in slots ≡ record { amounts = amounts; period = p } = λ i. record { amounts = sym a i; period = sym e i } in
      subst (λ (c : CellsRead). ReadCellsGives slots (Ok c)) is (m.0, index_by true (eq-eqb (first_applicable (read_cells_rows slots)) 0 n), m.1)
