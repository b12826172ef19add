-- What is exported reads back as itself, and what is read and exported gives the same cells: rule 19.8. Assumes nothing.
use mathlib.Core.Path.{◌≡◌, refl, sym, ap, ◌∙◌, subst}
use mathlib.Core.Logic.{◌⊎◌, inl, inr}
use mathlib.Core.Bool.{Bool, true, false, cond, not, ◌&&◌, ◌||◌, true≢false}
use mathlib.Core.List.{List, [], ◌∷◌, ◌++◌}
use Rattle.std.specs.Prelude.{Option, Some, None, unwrap_or, is_none, Result, Ok}
use Rattle.std.proofs.lemmas.Option.{none-some, same_Some}
use Prim.Native.Nat.{ℕ, zero, suc, ◌+◌, ◌≤◌, ◌<◌}
use native.Mathlib.Omega.{arith}
use native.Mathlib.Nat.{not-suc-le-zero}
use borrow.Author.Tests.{le-leb, ltb-false, eqb-true, eq-eqb, ne_eqb}
use lib.Dec.{ltb, leb, eqb}
use lib.ListN.{length, get_or, replicate, get_or-append}
use lib.Seq.{get_or-append-add}
use lib.IntN.{ℤ, pos, negsuc, nat_abs}
use lib.Ieee.{fin, binary64, of_int}
use Rattle.lists.proofs.Tests.{not_no, and_left, and_made, le_or_lt}
use Rattle.refusals.specs.declared.Refusal.{Refusal}
use Rattle.refusals.specs.declared.RefusedAt.{RefusedAt}
use Rattle.refusals.specs.Refusals.{answer_number, first_applicable, given_or, why_alone, part_number}
use Rattle.refusals.proofs.Laws.{AllClear, all_clear, beside_accepted}
use Rattle.refusals.proofs.Cases.{same_case, same_place}
use Rattle.floats.specs.Floats.{whole_pounds, whole_day}
use Rattle.floats.proofs.Pounds.{out_and_back, same_float, zero_float, nought, not_nought}
use Rattle.median_period.specs.declared.MedianPeriod.{MedianPeriod}
use Rattle.median_period.specs.Medians.{days_agree, good_medians}
use Rattle.cells.specs.declared.Cell.{Cell}
use Rattle.cells.specs.declared.Cell.TheVariants.{Empty, Number, Day}
use Rattle.cells.specs.declared.Slot.{Slot}
use Rattle.cells.specs.Cells.{is_within, is_level, most_at, is_zero, good_amount, cell_of, slot_of, empty_slot, ranged, amount_in, day_in, twice_in, day_float}
use Rattle.cells.proofs.Laws.{at_most}
use Rattle.workbook_cells.specs.declared.reading.CellsRead.{CellsRead}
use Rattle.workbook_cells.specs.Workbook.{tabulated, first_from, amount_at, bad_amount, day_slots, exported, last_fits, cell_at, bad_cell, first_bad}
use Rattle.workbook_cells.specs.Calls.{export_rows, ExportGives, read_cells_rows, amounts_in, period_in, cells_in, no_cells, ReadCellsGives}
use Rattle.workbook_cells.specs.Theorems.{CellFits, CellsFit, came_out, came_out_all, ReadsBack, ComesOut}
use Rattle.workbook_cells.proofs.Answers.{clear}
use Rattle.workbook_cells.proofs.FirstBad.{day_by_float, halves_by_float, number_cell}
use Rattle.workbook_cells.proofs.Tables.{tabulated_length, tabulated_at, tabulated_is, first_none, none_first, first_split, first_most}

-- ---- a cell by itself: an amount in range goes out and comes back
zero_is : (z : ℤ) → is_zero z ≡ true → z ≡ pos 0
zero_is (pos n) e = ap pos (eqb-true n 0 e)
zero_is (negsuc n) e = absurd (not-suc-le-zero {n = 0} (omega (arith, eqb-true (suc n) 0 e)))

cell_back : (i : ℕ) (z : ℤ) → good_amount i z ≡ true → amount_in i (cell_of i z) ≡ Some z
cell_back i z good = by (is_within i) (is_zero z) refl refl
  where
    number : amount_in i (Number (of_int binary64 z)) ≡ Some z
    number = ap (ranged i) (out_and_back z (at_most i z good)) ∙ ap (λ (b : Bool). cond b (Some z) None) good

    by : (w n : Bool) → is_within i ≡ w → is_zero z ≡ n → amount_in i (cond (w && n) Empty (Number (of_int binary64 z))) ≡ Some z
    by true true e f = ap (λ (b : Bool). cond b (Some (pos 0)) None) e ∙ ap Some (sym (zero_is z f))
    by true false e f = number
    by false n e f = number

-- ---- what stands in the cells of an export
module _ (amounts : List ℤ) (p : MedianPeriod) where
  abbrev cells : ℕ → Slot
  cells i = slot_of (cell_of i (amount_at amounts i))

  pub amount_cell : (i : ℕ) → i < 25 → cell_at (exported amounts p) i ≡ cell_of i (amount_at amounts i)
  amount_cell i h =
      ap (λ (s : Slot). s.cell)
      (get_or-append (tabulated cells 25) (day_slots p) empty_slot i (omega (arith, tabulated_length cells 25)) ∙ tabulated_at cells 25 i empty_slot h)

  day_cell : (n : ℕ) → cell_at (exported amounts p) (25 + n) ≡ (get_or (day_slots p) n empty_slot).cell
  day_cell n =
      ap (λ (s : Slot). s.cell)
      (ap (λ (k : ℕ). get_or (exported amounts p) (k + n) empty_slot) (sym (tabulated_length cells 25)) ∙ get_or-append-add (tabulated cells 25) (day_slots p) n empty_slot)

  first_cell : cell_at (exported amounts p) 25 ≡ Day p.first
  first_cell = day_cell 0

  last_cell : cell_at (exported amounts p) 26 ≡ Day p.last
  last_cell = day_cell 1

  median_cell : cell_at (exported amounts p) 27 ≡ Day p.median
  median_cell = day_cell 2

-- ---- what the days of a good period are
days_there : (first last twice : Option ℕ) → days_agree first last twice ≡ true → (is_none first ≡ false) × (last_fits first last ≡ true)
days_there None last twice e = absurd (true≢false (sym e))
days_there (Some a) None twice e = absurd (true≢false (sym e))
days_there (Some a) (Some b) None e = absurd (true≢false (sym e))
days_there (Some a) (Some b) (Some k) e = (refl, and_left (leb a b) (eqb k (a + b)) e)

-- ---- no cell is bad where the first 25 hold amounts and the days agree
module _ (slots : List Slot) where
  none_bad_of : ((i : ℕ) → i < 25 → is_none (amount_in i (cell_at slots i)) ≡ false)
      → days_agree (day_in (cell_at slots 25)) (day_in (cell_at slots 26)) (twice_in (cell_at slots 27)) ≡ true → first_bad slots ≡ 28
  unfolding first_from
  none_bad_of numbers agree =
      let first = day_in (cell_at slots 25) in
      let last = day_in (cell_at slots 26) in
      let twice = twice_in (cell_at slots 27) in
      let there = days_there first last twice agree in
      first_split (bad_cell slots) 25 3 0
      ∙ ap (λ (k : ℕ). cond (ltb k 25) k (first_from (bad_cell slots) 3 25))
      (none_first (bad_cell slots) 25 0 (λ i l h. number_cell slots i h ∙ numbers i h))
      ∙ ap (λ (b : Bool). cond b 25 (cond (not (last_fits first last)) 26 (cond (not (days_agree first last twice)) 27 28))) there.0
      ∙ ap (λ (b : Bool). cond {A = ℕ} (not b) 26 (cond (not (days_agree first last twice)) 27 28)) there.1
      ∙ ap (λ (b : Bool). cond {A = ℕ} (not b) 27 28) agree

-- ---- an accepted export: every amount is in range, and the period is good
module _ (amounts : List ℤ) (p : MedianPeriod) (clear : first_applicable (export_rows amounts p) ≡ 0) where
  rows_clear : AllClear (export_rows amounts p)
  rows_clear = all_clear (export_rows amounts p) clear

  yearly_good : first_from (bad_amount amounts) 20 0 ≡ 20
  yearly_good = omega (arith, first_most (bad_amount amounts) 20 0, ltb-false (first_from (bad_amount amounts) 20 0) 20 rows_clear.0)

  later_good : first_from (bad_amount amounts) 5 20 ≡ 25
  later_good = omega (arith, first_most (bad_amount amounts) 5 20, ltb-false (first_from (bad_amount amounts) 5 20) 25 rows_clear.1.1.0)

  good_at : (i : ℕ) → i < 25 → good_amount i (amount_at amounts i) ≡ true
  good_at i h = not_no (good_amount i (amount_at amounts i)) (by (le_or_lt 20 i))
    where
      by : (20 ≤ i) ⊎ (i < 20) → bad_amount amounts i ≡ false
      by (inl l) = first_none (bad_amount amounts) 5 20 later_good i l h
      by (inr l) = first_none (bad_amount amounts) 20 0 yearly_good i (omega arith) l

  good_period : good_medians p ≡ true
  good_period = not_no (good_medians p) rows_clear.1.0

  amount_back : (i : ℕ) → i < 25 → amount_in i (cell_at (exported amounts p) i) ≡ Some (amount_at amounts i)
  amount_back i h = ap (amount_in i) (amount_cell amounts p i h) ∙ cell_back i (amount_at amounts i) (good_at i h)

  none_bad_out : first_bad (exported amounts p) ≡ 28
  none_bad_out =
      none_bad_of (exported amounts p) (λ i h. ap is_none (amount_back i h))
      (ap (λ (c : Cell). days_agree (day_in c) (day_in (cell_at (exported amounts p) 26)) (twice_in (cell_at (exported amounts p) 27))) (first_cell amounts p)
      ∙ ap (λ (c : Cell). days_agree (whole_day p.first) (day_in c) (twice_in (cell_at (exported amounts p) 27))) (last_cell amounts p)
      ∙ ap (λ (c : Cell). days_agree (whole_day p.first) (whole_day p.last) (twice_in c)) (median_cell amounts p)
      ∙ good_period)

  amounts_back : length amounts ≡ 25 → amounts_in (exported amounts p) ≡ amounts
  amounts_back l =
      sym
      (tabulated_is (λ (i : ℕ). unwrap_or (amount_in i (cell_at (exported amounts p) i)) (pos 0)) amounts 25 (pos 0) l
      (λ i h. sym (ap (λ (o : Option ℤ). unwrap_or o (pos 0)) (amount_back i h))))

  period_back : period_in (exported amounts p) ≡ p
  period_back = λ i. record {
    first = day_float (first_cell amounts p i);
    last = day_float (last_cell amounts p i);
    median = day_float (median_cell amounts p i);
  }

-- ---- rule 19.8: what is exported reads back as itself
read_clear : (slots : List Slot) → first_bad slots ≡ 28 → first_applicable (read_cells_rows slots) ≡ 0
read_clear slots e = ap (λ (k : ℕ). cond {A = ℕ} (ltb k 28) 18 0) e

pub reads_back : (amounts : List ℤ) (p : MedianPeriod) (slots : List Slot) (r : Result CellsRead RefusedAt) → length amounts ≡ 25
    → ExportGives amounts p (Ok slots) → ReadCellsGives slots r → ReadsBack amounts p r
reads_back amounts p slots r l g h =
    let clear : first_applicable (export_rows amounts p) ≡ 0 = sym g.0 in
    let out : slots ≡ exported amounts p = beside_accepted (export_rows amounts p) 0 slots (exported amounts p) (replicate 28 empty_slot) g.0 g.1 refl in
    let k : ReadCellsGives (exported amounts p) r = subst (λ (s : List Slot). ReadCellsGives s r) out h in
    let rows = read_cells_rows (exported amounts p) in
    let ok : answer_number (why_alone r) ≡ 0 = k.0 ∙ read_clear (exported amounts p) (none_bad_out amounts p clear) in
    let index : part_number r ≡ 0 = beside_accepted rows (answer_number (why_alone r)) (part_number r) 0 (first_bad (exported amounts p)) k.0 k.1 ok in
    let read : given_or no_cells (why_alone r) ≡ cells_in (exported amounts p) =
    beside_accepted rows (answer_number (why_alone r)) (given_or no_cells (why_alone r)) (cells_in (exported amounts p)) no_cells k.0 k.2 ok in
    same_place no_cells r (Ok (record { amounts = amounts; period = p })) ok
    (read ∙ (λ i. record { amounts = amounts_back amounts p clear l i; period = period_back amounts p clear i })) index

-- ---- the other way: a cell that was read, as it comes out
zero_good : (i : ℕ) → good_amount i (pos 0) ≡ true
unfolding good_amount
zero_good i = and_made (le-leb 0 (most_at i) (omega arith)) (or_true (not (is_level i)))
  where
    or_true : (b : Bool) → (b || true) ≡ true
    or_true true = refl
    or_true false = refl

ranged_good : (i : ℕ) (o : Option ℤ) (z : ℤ) → ranged i o ≡ Some z → (o ≡ Some z) × (good_amount i z ≡ true)
ranged_good i None z e = absurd (none-some _ e)
ranged_good i (Some y) z e = by (good_amount i y) refl e
  where
    by : (b : Bool) → good_amount i y ≡ b → cond b (Some y) None ≡ Some z → (Some y ≡ Some z) × (good_amount i z ≡ true)
    by false t e = absurd (none-some _ e)
    by true t e = (e, subst (λ (v : ℤ). good_amount i v ≡ true) (same_Some _ _ e) t)

amount_good : (i : ℕ) (c : Cell) (z : ℤ) → amount_in i c ≡ Some z → good_amount i z ≡ true
amount_good i Empty z e = by (is_within i) e
  where
    by : (b : Bool) → cond b (Some (pos 0)) None ≡ Some z → good_amount i z ≡ true
    by true e = subst (λ (v : ℤ). good_amount i v ≡ true) (same_Some _ _ e) (zero_good i)
    by false e = absurd (none-some _ e)
amount_good i (Number x) z e = (ranged_good i (whole_pounds x) z e).1
amount_good i (Day x) z e = absurd (none-some _ e)

zero_or : (z : ℤ) → (z ≡ pos 0) ⊎ (z ≡ pos 0 → ⊥)
zero_or (pos zero) = inl refl
zero_or (pos (suc n)) = inr (λ e. not-suc-le-zero {n = 0} (omega (arith, ap nat_abs e)))
zero_or (negsuc n) = inr (λ e. not-suc-le-zero {n = 0} (omega (arith, ap nat_abs e)))

not_zero : (z : ℤ) → (z ≡ pos 0 → ⊥) → is_zero z ≡ false
not_zero z h = ne_eqb (nat_abs z) 0 (λ e. h (zero_is z (eq-eqb (nat_abs z) 0 e)))

out_again : (i : ℕ) (c : Cell) (z : ℤ) → CellFits c → amount_in i c ≡ Some z → cell_of i z ≡ came_out i c
out_again i (Day x) z f e = absurd (none-some _ e)
out_again i Empty z f e = by (is_within i) refl e
  where
    by : (b : Bool) → is_within i ≡ b → cond b (Some (pos 0)) None ≡ Some z → cell_of i z ≡ Empty
    by false w e = absurd (none-some _ e)
    by true w e = ap (λ (v : ℤ). cell_of i v) (sym (same_Some _ _ e)) ∙ ap (λ (b : Bool). cond (b && true) Empty (Number (of_int binary64 (pos 0)))) w
out_again i (Number x) z f e = by (zero_or z) (ranged_good i (whole_pounds x) z e).0
  where
    noughts : (w : Bool) → cond (w && true) Empty (Number (of_int binary64 (pos 0))) ≡ cond w Empty (Number (fin false 0 (pos 0)))
    noughts true = refl
    noughts false = ap Number zero_float

    no_nought : (w : Bool) → cond (w && false) Empty (Number (of_int binary64 z)) ≡ Number (of_int binary64 z)
    no_nought true = refl
    no_nought false = refl

    by : (z ≡ pos 0) ⊎ (z ≡ pos 0 → ⊥) → whole_pounds x ≡ Some z → cell_of i z ≡ came_out i (Number x)
    by (inl n) w =
        ap (λ (v : ℤ). cell_of i v) n
        ∙ noughts (is_within i)
        ∙ sym (ap (λ (b : Bool). cond b (cond (is_within i) Empty (Number (fin false 0 (pos 0)))) (Number x)) (nought x (w ∙ ap Some n)))
    by (inr n) w =
        ap (λ (b : Bool). cond (is_within i && b) Empty (Number (of_int binary64 z))) (not_zero z n)
        ∙ no_nought (is_within i)
        ∙ ap Number (same_float x z f w n)
        ∙ sym (ap (λ (b : Bool). cond b (cond (is_within i) Empty (Number (fin false 0 (pos 0)))) (Number x)) (not_nought x z w n))

day_again : (i : ℕ) (c : Cell) → is_none (day_in c) ≡ false → Day (day_float c) ≡ came_out i c
day_again i (Day x) e = refl
day_again i (Number x) e = absurd (true≢false e)
day_again i Empty e = absurd (true≢false e)

median_again : (i : ℕ) (c : Cell) → is_none (twice_in c) ≡ false → Day (day_float c) ≡ came_out i c
median_again i (Day x) e = refl
median_again i (Number x) e = absurd (true≢false e)
median_again i Empty e = absurd (true≢false e)

all_there : (first last twice : Option ℕ) → days_agree first last twice ≡ true → (is_none first ≡ false) × (is_none last ≡ false) × (is_none twice ≡ false)
all_there None last twice e = absurd (true≢false (sym e))
all_there (Some a) None twice e = absurd (true≢false (sym e))
all_there (Some a) (Some b) None e = absurd (true≢false (sym e))
all_there (Some a) (Some b) (Some k) e = (refl, refl, refl)

some_held : (o : Option ℤ) → is_none o ≡ false → o ≡ Some (unwrap_or o (pos 0))
some_held None e = absurd (true≢false e)
some_held (Some z) e = refl

-- ---- cells that were read
module _ (slots : List Slot) (none_is : first_bad slots ≡ 28) where
  fine : (i : ℕ) → i < 28 → bad_cell slots i ≡ false
  fine i h = first_none (bad_cell slots) 28 0 none_is i (omega arith) h

  amount_held : (i : ℕ) → i < 25 → amount_in i (cell_at slots i) ≡ Some (unwrap_or (amount_in i (cell_at slots i)) (pos 0))
  amount_held i h =
      some_held (amount_in i (cell_at slots i)) (sym (number_cell slots i h) ∙ fine i (omega arith))

  amount_is : (i : ℕ) → i < 25 → amount_at (amounts_in slots) i ≡ unwrap_or (amount_in i (cell_at slots i)) (pos 0)
  amount_is i h = tabulated_at (λ (k : ℕ). unwrap_or (amount_in k (cell_at slots k)) (pos 0)) 25 i (pos 0) h

  amounts_good : (i : ℕ) → i < 25 → bad_amount (amounts_in slots) i ≡ false
  amounts_good i h = ap (λ (z : ℤ). not (good_amount i z)) (amount_is i h) ∙ ap not (amount_good i (cell_at slots i) _ (amount_held i h))

  agree : days_agree (day_in (cell_at slots 25)) (day_in (cell_at slots 26)) (twice_in (cell_at slots 27)) ≡ true
  agree = not_no (days_agree (day_in (cell_at slots 25)) (day_in (cell_at slots 26)) (twice_in (cell_at slots 27))) (fine 27 (omega arith))

  period_good : good_medians (period_in slots) ≡ true
  period_good =
      sym
      (ap (λ (o : Option ℕ). days_agree o (day_in (cell_at slots 26)) (twice_in (cell_at slots 27))) (day_by_float (cell_at slots 25))
      ∙ ap (λ (o : Option ℕ). days_agree (whole_day (period_in slots).first) o (twice_in (cell_at slots 27))) (day_by_float (cell_at slots 26))
      ∙ ap (days_agree (whole_day (period_in slots).first) (whole_day (period_in slots).last)) (halves_by_float (cell_at slots 27)))
      ∙ agree

  out_clear : first_applicable (export_rows (amounts_in slots) (period_in slots)) ≡ 0
  out_clear =
      clear (amounts_in slots) (period_in slots)
      (ap (λ (k : ℕ). ltb k 20) (none_first (bad_amount (amounts_in slots)) 20 0 (λ i l h. amounts_good i (omega arith)))) period_good
      (ap (λ (k : ℕ). ltb k 25) (none_first (bad_amount (amounts_in slots)) 5 20 (λ i l h. amounts_good i h)))

  cells_again : CellsFit slots → exported (amounts_in slots) (period_in slots) ≡ came_out_all slots
  unfolding tabulated
  cells_again fit =
      let days = all_there (day_in (cell_at slots 25)) (day_in (cell_at slots 26)) (twice_in (cell_at slots 27)) agree in
      let f : ℕ → Slot = λ (i : ℕ). slot_of (cell_of i (amount_at (amounts_in slots) i)) in
      let g : ℕ → Slot = λ (i : ℕ). slot_of (came_out i (cell_at slots i)) in
      let amounts : tabulated f 25 ≡ tabulated g 25 =
      tabulated_is g (tabulated f 25) 25 empty_slot (tabulated_length f 25) (λ i h.
      tabulated_at f 25 i empty_slot h
      ∙ ap slot_of (ap (cell_of i) (amount_is i h) ∙ out_again i (cell_at slots i) _ (fit i (omega arith)) (amount_held i h))) in
      let first = day_again 25 (cell_at slots 25) days.0 in
      let last = day_again 26 (cell_at slots 26) days.1 in
      let median = median_again 27 (cell_at slots 27) days.2 in
      λ i. amounts i ++ (slot_of (first i) ∷ slot_of (last i) ∷ slot_of (median i) ∷ [])

-- ---- rule 19.8: what is read and exported gives the same cells, but for zeros
none_refused : (slots : List Slot) → first_applicable (read_cells_rows slots) ≡ 0 → first_bad slots ≡ 28
none_refused slots e =
    omega (arith, first_most (bad_cell slots) 28 0, ltb-false (first_bad slots) 28 (all_clear (read_cells_rows slots) e).0)

pub comes_out : (slots : List Slot) (cells : CellsRead) (e : Result (List Slot) Refusal) → CellsFit slots
    → ReadCellsGives slots (Ok cells) → ExportGives cells.amounts cells.period e → ComesOut slots e
comes_out slots cells e f h g =
    let none_is = none_refused slots (sym h.0) in
    let is : cells ≡ cells_in slots = beside_accepted (read_cells_rows slots) 0 cells (cells_in slots) no_cells h.0 h.2 refl in
    let k : ExportGives (amounts_in slots) (period_in slots) e = subst (λ (c : CellsRead). ExportGives c.amounts c.period e) is g in
    let ok : answer_number e ≡ 0 = k.0 ∙ out_clear slots none_is in
    same_case (replicate 28 empty_slot) e (Ok (came_out_all slots)) ok
    (beside_accepted (export_rows (amounts_in slots) (period_in slots)) (answer_number e) (given_or (replicate 28 empty_slot) e)
    (exported (amounts_in slots) (period_in slots)) (replicate 28 empty_slot) k.0 k.1 ok
    ∙ cells_again slots none_is f)
