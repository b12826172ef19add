-- The call answers and no second answer fits. Assumes nothing.
use mathlib.Core.Path.{◌≡◌, refl, sym, ap, ◌∙◌}
use mathlib.Core.Bool.{Bool, cond}
use mathlib.Core.List.{List}
use Prim.Native.Nat.{ℕ}
use native.Mathlib.Nat.{not-suc-le-zero}
use native.Mathlib.Omega.{arith}
use borrow.Author.Tests.{ne_eqb}
use lib.ListN.{replicate}
use Rattle.std.specs.Prelude.{Result, Ok, Err, ⊤}
use Rattle.refusals.specs.declared.Refusal.{Refusal}
use Rattle.refusals.specs.Refusals.{refusal_number, answer_number}
use Rattle.refusals.specs.Answers.{One}
use Rattle.refusals.proofs.Laws.{never_zero}
use Rattle.refusals.proofs.Cases.{one_answer, same_case}
use Rattle.cells.specs.declared.Slot.{Slot}
use Rattle.cells.specs.Cells.{empty_slot}
use Rattle.workbook_cells.specs.Workbook.{exported}
use Rattle.workbook_cells.specs.Calls.{export_rows}
use Rattle.workbook_input.specs.Calls.{input_amounts}
use Rattle.workbook_input.proofs.Only.{answered, answered_or}
use Rattle.workbook_filling.specs.Filling.{measured, fill_number, filled_slots, FillGives}

pub only_fill : (bs : List ℕ) (r s : Result (List Slot) Refusal) → FillGives bs r → FillGives bs s → r ≡ s
only_fill bs r s a b = same_case (replicate 28 empty_slot) r s (a.0 ∙ sym b.0) (a.1 ∙ sym b.1)

-- where it is refused no cell is filled
none_filled : (bs : List ℕ) (why : Refusal) → refusal_number why ≡ fill_number bs → FillGives bs (Err why)
none_filled bs why n =
    let no = ne_eqb (fill_number bs) 0 (λ z. not-suc-le-zero {n = 0} (omega (arith, never_zero why))) in
    (n, sym (ap (λ (b : Bool). cond b (exported (input_amounts bs) (measured bs)) (replicate 28 empty_slot)) no))

pub one_fill : (bs : List ℕ) → One (FillGives bs)
one_fill bs =
    let out = one_answer (export_rows (input_amounts bs) (measured bs)) in
    let a = answered_or (answered bs) (record { answer = out.result; is = out.meets }) in
    by a.answer a.is
  where
    made : (r : Result (List Slot) Refusal) → FillGives bs r → One (FillGives bs)
    made r m = record { result = r; meets = m; alone = λ other h. only_fill bs other r h m }

    by : (a : Result ⊤ Refusal) → answer_number a ≡ fill_number bs → One (FillGives bs)
    by (Ok x) e = made (Ok (filled_slots bs)) (e, refl)
    by (Err why) e = made (Err why) (none_filled bs why e)
