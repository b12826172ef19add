-- One more cell is there, and the days are set behind the amounts.
use Rattle.std.proofs.Common.{◌≡◌, ℕ, List, refl, ap, ◌∙◌, arith, rules, get_or, pos}
use Rattle.std.proofs.Math.ListN.{set}
use mir.Syntax.{w64}
use mir.Val.{to_z, of_z}
use mir.Facts.{to_z-of_z}
use Rattle.lists.specs.Lists.{padded}
use Rattle.cells.specs.declared.Cell.{Cell}
use Rattle.cells.specs.declared.Cell.TheVariants.{Day}
use Rattle.cells.specs.declared.Slot.{Slot}
use Rattle.cells.specs.Cells.{slot_of, cell_of, empty_slot}
use Rattle.workbook_cells.specs.Workbook.{tabulated, amount_at}
use Rattle.workbook_cells.proofs.Tables.{tabulated_length, tabulated_more, three_set}
use Rattle.workbook_cells.proofs.exporting.all_slots.Goals as goal

pub loop-i-init : goal.loop-i-init
unfolding tabulated
loop-i-init c = refl

pub loop-i-preserved : goal.loop-i-preserved
loop-i-preserved c =
    let i = c.loop-i.i in
    let amounts = c.args.amounts in
    let f : ℕ → Slot = λ (k : ℕ). slot_of (cell_of k (amount_at amounts k)) in
    let back : to_z w64 (of_z w64 (get_or amounts i (pos 0))) ≡ get_or amounts i (pos 0) = search (rules, to_z-of_z) in
    ap (λ (l : List Slot). set l i (slot_of c.cell_of.result)) c.loop-i.invariant
    ∙ ap (λ (x : Cell). set (padded 28 empty_slot (tabulated f i)) i (slot_of x)) (c.cell_of.ensures ∙ ap (cell_of i) back)
    ∙ tabulated_more f 28 empty_slot i (omega arith)

pub returns : goal.returns
returns c =
    let p = c.args.period in
    let f : ℕ → Slot = λ (i : ℕ). slot_of (cell_of i (amount_at c.args.amounts i)) in
    let e : c.loop-i.i ≡ 25 = omega arith in
    ap (λ (l : List Slot). set (set (set l 25 (slot_of (Day p.first))) 26 (slot_of (Day p.last))) 27 (slot_of (Day p.median)))
    (c.loop-i.invariant ∙ ap (λ (n : ℕ). padded 28 empty_slot (tabulated f n)) e)
    ∙ three_set 28 empty_slot (tabulated f 25) (slot_of (Day p.first)) (slot_of (Day p.last)) (slot_of (Day p.median)) 25 (tabulated_length f 25) refl
