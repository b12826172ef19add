-- The call answers and no second answer fits; a first and a last day are whole; and its rows stand in the order of refusals. Assumes nothing.
use mathlib.Core.Path.{◌≡◌, refl, sym, ap, ◌∙◌}
use mathlib.Core.Bool.{Bool, true, false, cond, not, ◌||◌}
use mathlib.Core.List.{[], ◌++◌, append-nil}
use Rattle.std.specs.Prelude.{Option, Some, None, is_none, Result, Ok, Err}
use Prim.Native.Nat.{ℕ, ◌*◌, ◌/◌, ◌%◌, ◌≤◌, ◌<◌}
use native.Mathlib.Omega.{arith}
use borrow.Author.Tests.{eq-eqb, ne_eqb}
use lib.Dec.{eqb}
use Rattle.refusals.specs.declared.Refusal.{Refusal}
use Rattle.refusals.specs.declared.Refusal.TheVariants.{BadCell}
use Rattle.refusals.specs.Answers.{One}
use Rattle.refusals.specs.Order.{in_cells, in_order_of}
use Rattle.refusals.proofs.Cases.{same_case}
use Rattle.cells.specs.declared.Cell.{Cell}
use Rattle.cells.specs.Cells.{day_in, twice_in}
use Rattle.text.specs.declared.Text.{Text}
use Rattle.text.specs.Text.{decimal, text_of}
use Rattle.text.proofs.Laws.{pushed_text}
use Rattle.cell_printout.specs.Printout.{cell_line, good_cell, half_word, halves_text, print_cell_rows, value_of, PrintCellGives}
use Rattle.cell_printout.proofs.Lines.{bad_given, day_bad, day_good, day_value, good_given, line_room}
use Rattle.cell_printout.proofs.Days.{day_of_twice, half_of, twice_of_day}

pub only_print_cell : (index : ℕ) (cell : Cell) (r s : Result Text Refusal) → PrintCellGives index cell r → PrintCellGives index cell s → r ≡ s
only_print_cell index cell r s p q = same_case (text_of []) r s (p.0 ∙ sym q.0) (p.1 ∙ sym q.1)

pub one_print_cell : (index : ℕ) (cell : Cell) → One (PrintCellGives index cell)
one_print_cell index cell = by (good_cell index cell) refl
  where
    given : (r : Result Text Refusal) → PrintCellGives index cell r → One (PrintCellGives index cell)
    given r m = record { result = r; meets = m; alone = λ other g. only_print_cell index cell other r g m }

    by : (good : Bool) → good_cell index cell ≡ good → One (PrintCellGives index cell)
    by true e =
        given (Ok (text_of (cell_line index cell)))
        (good_given index cell (text_of (cell_line index cell)) e (sym (pushed_text [] (cell_line index cell) (omega (arith, line_room index cell)))))
    by false e = given (Err BadCell) (bad_given index cell e)

-- ---- the first day and the last, at 25 and 26, are whole days by 19.2
pub good_whole : (index : ℕ) (cell : Cell) → 25 ≤ index → index < 27 → good_cell index cell ≡ not (is_none (day_in cell))
good_whole index cell l h = by (twice_in cell) refl
  where
    no : eqb index 27 ≡ false
    no = ne_eqb index 27 (λ e. omega arith)

    half : (k : ℕ) (even : Bool) → even ≡ not (is_none (cond even (Some (k / 2)) None))
    half k true = refl
    half k false = refl

    by : (twice : Option ℕ) → twice_in cell ≡ twice → good_cell index cell ≡ not (is_none (day_in cell))
    by None e = day_bad index cell l (omega arith) e ∙ sym (ap (λ (d : Option ℕ). not (is_none d)) (day_of_twice cell ∙ ap half_of e))
    by (Some k) e =
        day_good index cell l (omega arith) k (eqb (k % 2) 0) e (ap (λ (b : Bool). b || eqb (k % 2) 0) no)
        ∙ half k (eqb (k % 2) 0)
        ∙ sym (ap (λ (d : Option ℕ). not (is_none d)) (day_of_twice cell ∙ ap half_of e))

pub whole_value : (index : ℕ) (cell : Cell) (d : ℕ) → 25 ≤ index → index < 27 → day_in cell ≡ Some d → value_of index cell ≡ decimal d
unfolding halves_text
whole_value index cell d l h e =
    let n : d * 2 / 2 ≡ d = omega arith in
    let even : eqb (d * 2 % 2) 0 ≡ true = eq-eqb (d * 2 % 2) 0 (omega arith) in
    day_value index cell l (omega arith) (d * 2) (twice_of_day cell d e)
    ∙ ap (λ (b : Bool). decimal (d * 2 / 2) ++ cond b [] half_word) even
    ∙ append-nil (decimal (d * 2 / 2))
    ∙ ap decimal n

-- ---- its rows stand in the order of refusals
pub print_cell_in_turn : (index : ℕ) (cell : Cell) → in_order_of in_cells (print_cell_rows index cell) ≡ true
print_cell_in_turn index cell = refl
