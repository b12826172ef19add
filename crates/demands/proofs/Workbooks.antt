-- What the demands say of the workbook: which refusals its calls give, that a filled one has the figures of the assessment, and that its
-- running log is the log after enterings. Assumes nothing.
use mathlib.Core.Path.{◌≡◌, refl, sym, ap, subst, ◌∙◌}
use mathlib.Core.Bool.{Bool, true, false, not, cond, true≢false}
use mathlib.Core.List.{List, [], ◌++◌}
use Rattle.std.specs.Prelude.{Some, Result}
use Prim.Native.Nat.{ℕ, zero, suc, ◌≤◌, ◌<◌}
use native.Mathlib.Omega.{arith}
use native.Mathlib.Nat.{suc-ne-zero}
use borrow.Author.Tests.{lt-ltb, ltb-true, eq-eqb, ne_eqb, eqb-true}
use lib.Dec.{ltb, eqb}
use Rattle.refusals.specs.declared.Refusal.{Refusal}
use Rattle.refusals.specs.declared.RefusedAt.{RefusedAt}
use lib.ListN.{length, take, replicate}
use lib.Seq.{length-take-le}
use lib.IntN.{ℤ, pos}
use Rattle.lists.proofs.Tests.{not_no}
use Rattle.refusals.specs.Refusals.{accepted, answer_number, given_or, why_alone, part_number, first_applicable}
use Rattle.refusals.proofs.Laws.{all_clear, beside_accepted, beside_refused}
use Rattle.entries.specs.declared.Entry.{Entry}
use Rattle.outage.specs.declared.Log.{Log}
use Rattle.outage.specs.Log.{last_regime_end}
use Rattle.outage.specs.Calls.{empty_log, enter_rows, enter_log}
use Rattle.plan.specs.Calls.{why_in}
use Rattle.plan.proofs.OneByOne.{none_fails, through_keeps}
use Rattle.year.specs.declared.Year.{Year}
use Rattle.levels.specs.Book.{published_book}
use Rattle.balances.specs.declared.assessing.Figures.{Figures}
use Rattle.assessment.specs.Period.{period_rows, period_given, PeriodGives}
use Rattle.settlement.specs.Calls.{GapGives}
use Rattle.floats.specs.Floats.{times_of}
use Rattle.median_period.specs.declared.MedianPeriod.{MedianPeriod}
use Rattle.median_period.specs.Medians.{days_of, good_medians, medians_of, no_medians}
use Rattle.median_period.specs.Calls.{make_rows, MakeGives, MediansGapGives}
use Rattle.median_period.specs.Theorems.{ExactPeriod}
use Rattle.median_period.proofs.Laws.{exact_period}
use Rattle.median_period.proofs.Making.{gap_of_days, from_good_days}
use Rattle.median_period.proofs.Only.{only_medians_gap}
use Rattle.settlement.specs.Gap.{good_period}
use Rattle.cells.specs.declared.Slot.{Slot}
use Rattle.cells.specs.Cells.{good_amount, empty_slot}
use Rattle.workbook_cells.specs.declared.reading.CellsRead.{CellsRead}
use Rattle.workbook_cells.specs.Workbook.{amount_at, bad_amount, exported, bad_cell, first_bad}
use Rattle.workbook_cells.specs.Calls.{export_rows, ExportGives, read_cells_rows, ReadCellsGives}
use Rattle.workbook_cells.proofs.Tables.{none_first, first_below, first_found}
use Rattle.workbook_cells.proofs.Answers.{bad_year, bad_period}
use Rattle.workbook_input.specs.Input.{first_day, last_day, input_years}
use Rattle.workbook_input.specs.Calls.{or_else, outages_in, entering, running_log, years_number, yearly_amounts, period_amounts, input_number, number_of, amounts_in, amounts_of, input_amounts, ReadWorkbookGives}
use Rattle.workbook_input.proofs.Only.{input_most}
use Rattle.workbook_filling.specs.Filling.{measured, fill_number, FillGives}
use Rattle.workbook_filling.proofs.Only.{only_fill}
use Rattle.demands.specs.Given.{assess_figures}
use Rattle.demands.specs.Plans.{EntersAll}
use Rattle.demands.specs.Workbooks.{longest_input, Workbooks}
use Rattle.demands.proofs.Given.{none_given}
use Rattle.demands.proofs.Plans.{enters_more, no_entries}

-- ---- an export
pub export_nine : (amounts : List ℤ) (p : MedianPeriod) (r : Result (List Slot) Refusal) → ExportGives amounts p r → (i : ℕ) → i < 20 → good_amount i (amount_at amounts i) ≡ false → answer_number r ≡ 9
export_nine amounts p r g i h e =
    g.0 ∙ bad_year amounts p (lt-ltb _ 20 (first_below (bad_amount amounts) 20 0 i (omega arith) h (ap not e)))

pub export_twelve : (amounts : List ℤ) (p : MedianPeriod) (r : Result (List Slot) Refusal) → ExportGives amounts p r → ((i : ℕ) → i < 20 → good_amount i (amount_at amounts i) ≡ true) → good_medians p ≡ false → answer_number r ≡ 12
export_twelve amounts p r g good e =
    g.0 ∙ bad_period amounts p (ap (λ (k : ℕ). ltb k 20) (none_first (bad_amount amounts) 20 0 (λ i l h. ap not (good i h)))) e

-- ---- cells that are read
module _ (cells : List Slot) (r : Result CellsRead RefusedAt) (g : ReadCellsGives cells r) where
  pub cells_bad : (i : ℕ) → i < 28 → bad_cell cells i ≡ true → answer_number (why_alone r) ≡ 18
  cells_bad i h e = g.0 ∙ ap (λ (b : Bool). cond {A = ℕ} b 18 0) (lt-ltb (first_bad cells) 28 (first_below (bad_cell cells) 28 0 i (omega arith) h e))

  pub cells_first : (answer_number (why_alone r) ≡ 0 → ⊥) → (bad_cell cells (part_number r) ≡ true) × ((i : ℕ) → i < part_number r → bad_cell cells i ≡ false)
  cells_first z = by (ltb (first_bad cells) 28) refl
    where
      by : (b : Bool) → ltb (first_bad cells) 28 ≡ b → (bad_cell cells (part_number r) ≡ true) × ((i : ℕ) → i < part_number r → bad_cell cells i ≡ false)
      by false e = absurd (z (g.0 ∙ ap (λ (b : Bool). cond {A = ℕ} b 18 0) e))
      by true e =
          let is : part_number r ≡ first_bad cells = beside_refused (read_cells_rows cells) (answer_number (why_alone r)) (part_number r) 0 (first_bad cells) g.0 g.1 z in
          let f = first_found (bad_cell cells) 28 0 (ltb-true (first_bad cells) 28 e) in
          (ap (bad_cell cells) is ∙ f.0, λ i h. f.1 i (omega arith) (subst (λ (k : ℕ). i < k) is h))

-- ---- a period of two days
pub made_exact : (first last : ℕ) (r : Result MedianPeriod Refusal) → MakeGives first last r → answer_number r ≡ 0 → (given_or no_medians r ≡ medians_of first last) × ExactPeriod first last
made_exact first last r g z =
    let good = not_no (good_period (record { first = first; last = last })) (all_clear (make_rows first last) (sym g.0 ∙ z)).0 in
    let d = from_good_days first last good in (
      beside_accepted (make_rows first last) (answer_number r) (given_or no_medians r) (medians_of first last) no_medians g.0 g.1 z,
      exact_period first last d.0 d.1 d.2,
    )

pub same_gap : (earlier later : MedianPeriod) → good_medians earlier ≡ true → good_medians later ≡ true → (r s : Result ℕ Refusal)
    → MediansGapGives earlier later r → GapGives (days_of earlier) (days_of later) s → r ≡ s
same_gap earlier later e l r s g h = only_medians_gap earlier later r s g (gap_of_days earlier later s e l h)

-- ---- a workbook that is filled
first_none : (a b : ℕ) → or_else a b ≡ 0 → a ≡ 0
first_none zero b e = refl
first_none (suc a) b e = absurd (suc-ne-zero a e)

then_none : (a b : ℕ) → or_else a b ≡ 0 → b ≡ 0
then_none zero b e = e
then_none (suc a) b e = absurd (suc-ne-zero a e)

zeros_bad : good_medians no_medians ≡ false
unfolding times_of
zeros_bad = refl

module _ (bs : List ℕ) (years : List Year) (is : input_years bs ≡ Some years) (r : Result (List Slot) Refusal) (g : FillGives bs r) (z : answer_number r ≡ 0) where
  filled_is : fill_number bs ≡ 0
  filled_is = sym g.0 ∙ z

  years_clear : years_number years ≡ 0
  years_clear = sym (ap number_of is) ∙ first_none (input_number bs) (first_applicable (export_rows (input_amounts bs) (measured bs))) filled_is

  entered_all : EntersAll (empty_log last_regime_end) (outages_in years) (running_log years)
  entered_all =
      let log = empty_log last_regime_end in
      through_keeps enter_rows enter_log (λ (l : Log) (es : List Entry). EntersAll log es l) (λ l es e i m. enters_more log l es e i m) 1 log (running_log years) [] (outages_in years) (no_entries log)
      (none_fails enter_rows enter_log 1 log log (outages_in years) (first_none (why_in (entering years)) (first_applicable (period_rows published_book years (running_log years))) years_clear))

  period_clear : first_applicable (period_rows published_book years (running_log years)) ≡ 0
  period_clear = then_none (why_in (entering years)) (first_applicable (period_rows published_book years (running_log years))) years_clear

  measured_is : measured bs ≡ medians_of (first_day bs) (last_day bs)
  measured_is = by (accepted (make_rows (first_day bs) (last_day bs))) refl
    where
      good : good_medians (measured bs) ≡ true
      good =
          not_no (good_medians (measured bs))
          (all_clear (export_rows (input_amounts bs) (measured bs)) (then_none (input_number bs) (first_applicable (export_rows (input_amounts bs) (measured bs))) filled_is)).1.0

      by : (b : Bool) → accepted (make_rows (first_day bs) (last_day bs)) ≡ b → measured bs ≡ medians_of (first_day bs) (last_day bs)
      by true e = ap (λ (b : Bool). cond b (medians_of (first_day bs) (last_day bs)) no_medians) e
      by false e =
          absurd
          (true≢false
          (sym good ∙ ap (λ (b : Bool). good_medians (cond b (medians_of (first_day bs) (last_day bs)) no_medians)) e ∙ zeros_bad))

  amounts_are : (a : Result Figures Refusal) → PeriodGives published_book years (running_log years) a → input_amounts bs ≡ yearly_amounts (running_log years) years ++ period_amounts (assess_figures a)
  amounts_are a h =
      ap amounts_of is
      ∙ ap (λ (b : Bool). cond b (yearly_amounts (running_log years) years ++ period_amounts (period_given published_book years (running_log years))) (replicate 25 (pos 0))) (eq-eqb (years_number years) 0 years_clear)
      ∙ ap (λ (f : Figures). yearly_amounts (running_log years) years ++ period_amounts f) (sym h.1)

  pub filled_figures : (a : Result Figures Refusal) → PeriodGives published_book years (running_log years) a
      → (answer_number a ≡ 0) × (given_or (replicate 28 empty_slot) r ≡ exported (yearly_amounts (running_log years) years ++ period_amounts (assess_figures a)) (medians_of (first_day bs) (last_day bs)))
  filled_figures a h = (
    h.0 ∙ period_clear,
    g.1
        ∙ ap (λ (b : Bool). cond b (exported (input_amounts bs) (measured bs)) (replicate 28 empty_slot)) (eq-eqb (fill_number bs) 0 filled_is)
        ∙ ap (λ (l : List ℤ). exported l (measured bs)) (amounts_are a h)
        ∙ ap (exported (yearly_amounts (running_log years) years ++ period_amounts (assess_figures a))) measured_is,
  )

-- ---- an input that is longer than any that is accepted
malformed_first : (a b : ℕ) → a ≡ 13 → or_else a b ≡ 13
malformed_first zero b e = absurd (suc-ne-zero 12 (sym e))
malformed_first (suc a) b e = e

too_long : (bs : List ℕ) → longest_input < length bs → input_number bs ≡ 13
too_long bs h = by (eqb (input_number bs) 13) refl
  where
    short : length bs ≤ 40978 → ⊥
    short l = omega arith

    by : (b : Bool) → eqb (input_number bs) 13 ≡ b → input_number bs ≡ 13
    by true e = eqb-true (input_number bs) 13 e
    by false e = absurd (short (input_most bs (λ m. true≢false (sym (eq-eqb (input_number bs) 13 m) ∙ e))))

longer_is : (bs : List ℕ) → longest_input < length bs → (r : Result (List Slot) Refusal) → FillGives bs r → answer_number r ≡ 13
longer_is bs h r g = g.0 ∙ malformed_first (input_number bs) (first_applicable (export_rows (input_amounts bs) (measured bs))) (too_long bs h)

thirteen : (bs : List ℕ) (r : Result (List Slot) Refusal) → longest_input < length bs → FillGives bs r → (answer_number r ≡ 13) × (given_or (replicate 28 empty_slot) r ≡ replicate 28 empty_slot)
thirteen bs r h g = let n = longer_is bs h r g in (n, none_given (replicate 28 empty_slot) r (λ z. suc-ne-zero 12 (sym n ∙ z)))

cut_is : (bs : List ℕ) (n : ℕ) → longest_input < n → n ≤ length bs → (r s : Result (List Slot) Refusal) → FillGives (take n bs) r → FillGives bs s → r ≡ s
cut_is bs n h l r s g k =
    let a = thirteen (take n bs) r (omega (arith, length-take-le n bs l)) g in
    let b = thirteen bs s (omega arith) k in
    only_fill bs r s (a.0 ∙ sym b.0 ∙ k.0, a.1 ∙ sym b.1 ∙ k.1) k

pub workbooks_hold : Workbooks
workbooks_hold = record { entered = entered_all; longer = longer_is; cut = cut_is }
