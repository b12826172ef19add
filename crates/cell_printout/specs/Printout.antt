-- The line of a workbook's cell, in ASCII, or why there is none: rule 19.9.
use Rattle.std.specs.Prelude.{Bool, true, false, cond, not, ◌&&◌, ◌||◌, List, [], ◌∷◌, ◌++◌, ◌≡◌, ℕ, ◌/◌, ◌%◌, ◌≤◌, eqb, ltb, ℤ, Option, Some, None, is_none, Result}
use Rattle.refusals.specs.Refusals.{Rows, accepted, answer_number, first_applicable, given_or}
use Rattle.refusals.specs.declared.Refusal.{Refusal}
use Rattle.refusals.specs.declared.Refusal.TheVariants.{BadCell}
use Rattle.cells.specs.declared.Cell.{Cell}
use Rattle.cells.specs.declared.Cell.TheVariants.{Empty, Number, Day}
use Rattle.cells.specs.Cells.{amount_in, twice_in}
use Rattle.text.specs.declared.Text.{Text}
use Rattle.text.specs.Text.{decimal, room, signed_decimal, text_of}
use Rattle.cell_printout.specs.Names.{name_of}

-- ---- the value
abbrev pub is_empty : Cell → Bool
is_empty Empty = true
is_empty (Number x) = false
is_empty (Day x) = false

-- an amount in decimal, after a minus where it is negative; an empty cell has an empty value
abbrev pub amount_text : Cell → Option ℤ → List ℕ
amount_text c None = []
amount_text c (Some z) = cond (is_empty c) [] (signed_decimal z)

-- `.5`
abbrev pub half_word : List ℕ
half_word = 46 ∷ 53 ∷ []

-- k halves in decimal
unfoldable pub halves_text : ℕ → List ℕ
halves_text k = decimal (k / 2) ++ cond (eqb (k % 2) 0) [] half_word

-- a day, of twice it
abbrev pub day_text : Option ℕ → List ℕ
day_text None = []
day_text (Some k) = halves_text k

-- the cells from 25 on hold days, those before them amounts
abbrev pub value_of : ℕ → Cell → List ℕ
value_of i c = cond (ltb i 25) (amount_text c (amount_in i c)) (day_text (twice_in c))

-- name, comma (44), value and newline (10)
unfoldable pub cell_line : ℕ → Cell → List ℕ
cell_line i c = name_of i ++ (44 ∷ value_of i c ++ (10 ∷ []))

-- ---- whether a cell is good by itself
-- a day is whole where twice it is even: the first and the last day are, and the median, at 27, may end in a half
abbrev pub may_stand : ℕ → ℕ → Bool
may_stand i k = eqb i 27 || eqb (k % 2) 0

abbrev pub good_day : ℕ → Option ℕ → Bool
good_day i None = false
good_day i (Some k) = may_stand i k

-- an amount in the range of its index, or at 25 to 27 a day from 61 to 73,050; past 27 there is no cell
unfoldable pub good_cell : ℕ → Cell → Bool
good_cell i c = cond (ltb i 25) (not (is_none (amount_in i c))) (ltb i 28 && good_day i (twice_in c))

-- ---- the call
abbrev pub print_cell_rows : ℕ → Cell → Rows
print_cell_rows i c = (BadCell, not (good_cell i c)) ∷ []

-- what `print_cell` promises of its result
abbrev pub PrintCellGives : ℕ → Cell → Result Text Refusal → Type 0
PrintCellGives i c r =
    (answer_number r ≡ first_applicable (print_cell_rows i c))
    × (given_or (text_of []) r ≡ cond (accepted (print_cell_rows i c)) (text_of (cell_line i c)) (text_of []))
    × ((given_or (text_of []) r).length ≤ room)
