-- A cell that holds an amount is read into its place, and one that holds none is the first bad one.
use Rattle.std.proofs.Common.{◌≡◌, ℕ, List, ◌++◌, ℤ, pos, ◌-◌, refl, sym, ap, ◌∙◌, arith, rules}
use Rattle.std.proofs.Math.ListN.{set, replicate}
use Rattle.std.specs.Prelude.{Option, Result, Ok, Err, unwrap_or, is_none, ok_or}
use Rattle.std.proofs.lemmas.Result.{err_from_is_err_and}
use mathlib.Core.List.{append-nil}
use mir.Syntax.{w64}
use mir.Val.{to_z, of_z}
use mir.Facts.{to_z-of_z}
use Rattle.refusals.specs.declared.RefusedAt.{RefusedAt}
use Rattle.lists.specs.Lists.{padded}
use Rattle.cells.specs.declared.Slot.{Slot}
use Rattle.cells.specs.Cells.{amount_in}
use Rattle.workbook_cells.specs.Workbook.{tabulated, cell_at}
use Rattle.workbook_cells.specs.Steps.{bad_number, first_bad_number}
use Rattle.workbook_cells.proofs.Tables.{tabulated_length, tabulated_more, stops, goes_on, ends}
use Rattle.workbook_cells.proofs.FirstBad.{number_refused, numbers_read}
use Rattle.workbook_cells.proofs.reading.read_amounts.Goals as goal

abbrev amount : List Slot → ℕ → ℤ
amount slots i = unwrap_or (amount_in i (cell_at slots i)) (pos 0)

same_err : {d e : RefusedAt} → ◌≡◌ {A = Result ℤ RefusedAt} (Err d) (Err e) → d ≡ e
same_err r = cc

pub loop-i-init : goal.loop-i-init
unfolding tabulated
loop-i-init c = (refl, refl)

pub returns-in_err-amounts : goal.returns-in_err-amounts
returns-in_err-amounts c =
    let slots = c.args.slots in
    let i = c.loop-i.i in
    let none = sym c.amount_in.ensures ∙ c.in_err-amounts.ensures.ok_part in
    let here : first_bad_number slots ≡ i = sym c.loop-i.invariant.0 ∙ stops (bad_number slots) 25 i c.loop-i-test.true (ap is_none none) in
    let p = err_from_is_err_and c.from_residual.result c.from_residual.ensures.1 in
    let was = c.in_err-amounts.ensures.value ∙ ap (λ (o : Option ℤ). ok_or o c.bad_at.result) c.in_err-amounts.ensures.ok_part in
    p.1
    ∙ ap Err (p.2 ∙ same_err was ∙ c.bad_at.ensures)
    ∙ sym (number_refused slots i here c.loop-i-test.true)

pub loop-i-preserved : goal.loop-i-preserved
loop-i-preserved c =
    let slots = c.args.slots in
    let i = c.loop-i.i in
    let z = c.in_ok-amounts.field-0 in
    let is = sym c.amount_in.ensures ∙ c.in_ok-amounts.ensures.ok_part in
    let back : to_z w64 (of_z w64 z) ≡ z = search (rules, to_z-of_z) in
    let put : to_z w64 (of_z w64 z) ≡ amount slots i = back ∙ sym (ap (λ (o : Option ℤ). unwrap_or o (pos 0)) is) in (
      goes_on (bad_number slots) 25 i c.loop-i-test.true (ap is_none is) ∙ c.loop-i.invariant.0,
      ap (λ (l : List ℤ). set l i (to_z w64 (of_z w64 z))) c.loop-i.invariant.1
          ∙ ap (set (padded 25 (pos 0) (tabulated (amount slots) i)) i) put
          ∙ tabulated_more (amount slots) 25 (pos 0) i c.loop-i-test.true,
    )

pub returns : goal.returns
returns c =
    let slots = c.args.slots in
    let e : c.loop-i.i ≡ 25 = omega (arith, c.loop-i.auto.i-end) in
    let all : first_bad_number slots ≡ 25 = sym c.loop-i.invariant.0 ∙ ends (bad_number slots) 25 c.loop-i.i c.loop-i.auto.i-end c.loop-i-test.false in
    ap Ok
    (c.loop-i.invariant.1
    ∙ ap (λ (k : ℕ). padded 25 (pos 0) (tabulated (amount slots) k)) e
    ∙ ap (λ (k : ℕ). tabulated (amount slots) 25 ++ replicate (25 - k) (pos 0)) (tabulated_length (amount slots) 25)
    ∙ append-nil (tabulated (amount slots) 25))
    ∙ sym (numbers_read slots all)
