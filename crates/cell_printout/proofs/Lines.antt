-- Every line has room; and what a good cell and a bad one give. Assumes nothing.
use mathlib.Core.Path.{◌≡◌, refl, sym, ap, ◌∙◌}
use mathlib.Core.Bool.{Bool, true, false, cond, not, ◌&&◌}
use mathlib.Core.List.{List, [], ◌∷◌, ◌++◌, append_assoc}
use Rattle.std.specs.Prelude.{Option, Some, None, is_none, Ok, Err}
use Prim.Native.Nat.{ℕ, zero, suc, ◌+◌, ◌-◌, ◌/◌, ◌%◌, ◌≤◌, ◌<◌}
use native.Mathlib.Omega.{arith}
use borrow.Author.Tests.{ltb-true, lt-ltb, le-ltb}
use lib.Dec.{eqb, ltb}
use lib.IntN.{ℤ, pos}
use lib.ListN.{get_or, length, length-append}
use lib.Ieee.{Float}
use Rattle.refusals.specs.declared.Refusal.TheVariants.{BadCell}
use Rattle.floats.specs.Floats.{whole_pounds, half_days, times_of}
use Rattle.floats.proofs.Days.{between_is}
use Rattle.cells.specs.declared.Cell.{Cell}
use Rattle.cells.specs.declared.Cell.TheVariants.{Empty, Number, Day}
use Rattle.cells.specs.Cells.{amount_in, good_amount, is_within, ranged, twice_in}
use Rattle.cells.proofs.Laws.{at_most}
use Rattle.text.specs.declared.Text.{Text}
use Rattle.text.specs.Text.{decimal, pushed, room, text_of}
use Rattle.text.proofs.Laws.{digits_few, pushed_text, signed_few, then}
use Rattle.cell_printout.specs.Names.{name_of, period_name, period_words, year_name, year_word, year_words}
use Rattle.cell_printout.specs.Printout.{amount_text, cell_line, day_text, good_cell, good_day, half_word, halves_text, may_stand, value_of, PrintCellGives}

-- ---- a name has room: no word is longer than all of them together
abbrev all_bytes : List (List ℕ) → ℕ
all_bytes [] = 0
all_bytes (x ∷ xs) = length x + all_bytes xs

word_few : (xs : List (List ℕ)) (k : ℕ) → length (get_or xs k []) ≤ all_bytes xs
word_few [] k = omega arith
word_few (x ∷ xs) zero = omega arith
word_few (x ∷ xs) (suc k) = omega (arith, word_few xs k)

year_few : (i : ℕ) → i < 20 → length (year_name i) ≤ 44
unfolding year_name year_word
year_few i h =
    rw length-append (omega (arith, word_few year_words (i % 4), digits_few 20 (i / 4 + 1) 1 (omega arith) (omega arith)))

period_few : (i : ℕ) → length (period_name i) ≤ 44
unfolding period_name
period_few i = omega (arith, word_few period_words (i - 20))

name_few : (i : ℕ) → length (name_of i) ≤ 44
unfolding name_of
name_few i = by (ltb i 20) refl
  where
    by : (b : Bool) → ltb i 20 ≡ b → length (cond b (year_name i) (period_name i)) ≤ 44
    by true e = year_few i (ltb-true i 20 e)
    by false e = period_few i

-- ---- and a value: no amount is more than 3 x 10^10, no day past 73,050
ranged_few : (i : ℕ) (x : Float) (found : Option ℤ) → length (amount_text (Number x) (ranged i found)) ≤ 12
ranged_few i x None = omega arith
ranged_few i x (Some z) = by (good_amount i z) refl
  where
    by : (good : Bool) → good_amount i z ≡ good → length (amount_text (Number x) (cond good (Some z) None)) ≤ 12
    by true e = omega (arith, signed_few z 11 (omega arith) (omega (arith, at_most i z e)))
    by false e = omega arith

amount_few : (i : ℕ) (c : Cell) → length (amount_text c (amount_in i c)) ≤ 12
amount_few i Empty = by (is_within i)
  where
    by : (within : Bool) → length (amount_text Empty (cond within (Some (pos 0)) None)) ≤ 12
    by true = omega arith
    by false = omega arith
amount_few i (Number x) = ranged_few i x (whole_pounds x)
amount_few i (Day x) = omega arith

halves_few : (found : Option ℕ) → ((k : ℕ) → found ≡ Some k → k ≤ 146100) → length (day_text found) ≤ 12
unfolding halves_text
halves_few None most = omega arith
halves_few (Some k) most = by (eqb (k % 2) 0)
  where
    by : (even : Bool) → length (decimal (k / 2) ++ cond even [] half_word) ≤ 12
    by true = rw length-append (omega (arith, digits_few 20 (k / 2) 5 (omega arith) (omega (arith, most k refl))))
    by false = rw length-append (omega (arith, digits_few 20 (k / 2) 5 (omega arith) (omega (arith, most k refl))))

day_few : (c : Cell) → length (day_text (twice_in c)) ≤ 12
day_few Empty = omega arith
day_few (Number x) = omega arith
day_few (Day x) = halves_few (half_days x) (λ k e. (between_is 122 146100 (times_of 2 x) k e).high)

value_few : (i : ℕ) (c : Cell) → length (value_of i c) ≤ 12
value_few i c = by (ltb i 25)
  where
    by : (b : Bool) → length (cond b (amount_text c (amount_in i c)) (day_text (twice_in c))) ≤ 12
    by true = amount_few i c
    by false = day_few c

pub line_room : (i : ℕ) (c : Cell) → length (cell_line i c) ≤ room
unfolding cell_line
line_room i c = simp length-append (omega (arith, name_few i, value_few i c))

-- ---- an amount
module _ (i : ℕ) (c : Cell) (h : i < 25) where
  pub amount_good : (z : ℤ) → amount_in i c ≡ Some z → good_cell i c ≡ true
  unfolding good_cell
  amount_good z e = rw (lt-ltb i 25 h, e)

  pub amount_bad : amount_in i c ≡ None → good_cell i c ≡ false
  unfolding good_cell
  amount_bad e = rw (lt-ltb i 25 h, e)

  pub amount_value : (z : ℤ) → amount_in i c ≡ Some z → value_of i c ≡ amount_text c (Some z)
  amount_value z e = rw (lt-ltb i 25 h, e)

-- ---- a day
module _ (i : ℕ) (c : Cell) (l : 25 ≤ i) (h : i < 28) where
  pub day_good : (k : ℕ) (good : Bool) → twice_in c ≡ Some k → may_stand i k ≡ good → good_cell i c ≡ good
  unfolding good_cell
  day_good k good e f =
      ap (λ (b : Bool). cond b (not (is_none (amount_in i c))) (ltb i 28 && good_day i (twice_in c))) (le-ltb i 25 l)
      ∙ ap (λ (b : Bool). b && good_day i (twice_in c)) (lt-ltb i 28 h)
      ∙ ap (good_day i) e
      ∙ f

  pub day_bad : twice_in c ≡ None → good_cell i c ≡ false
  unfolding good_cell
  day_bad e =
      ap (λ (b : Bool). cond b (not (is_none (amount_in i c))) (ltb i 28 && good_day i (twice_in c))) (le-ltb i 25 l)
      ∙ ap (λ (b : Bool). b && good_day i (twice_in c)) (lt-ltb i 28 h)
      ∙ ap (good_day i) e

  pub day_value : (k : ℕ) → twice_in c ≡ Some k → value_of i c ≡ halves_text k
  day_value k e =
      ap (λ (b : Bool). cond b (amount_text c (amount_in i c)) (day_text (twice_in c))) (le-ltb i 25 l) ∙ ap day_text e

-- past the last cell there is none
pub none_past : (i : ℕ) (c : Cell) → 28 ≤ i → good_cell i c ≡ false
unfolding good_cell
none_past i c h = rw (le-ltb i 25 (omega arith), le-ltb i 28 h)

-- ---- a name and a comma, a value, a newline
pub line_made : (i : ℕ) (c : Cell) (v : List ℕ) {a b d : Text} → value_of i c ≡ v → a ≡ pushed (text_of []) (name_of i ++ (44 ∷ [])) → b ≡ pushed a v → d ≡ pushed b (10 ∷ [])
    → d ≡ pushed (text_of []) (cell_line i c)
unfolding cell_line
line_made i c v is e f g =
    then (text_of []) (name_of i ++ (44 ∷ [])) (v ++ (10 ∷ [])) e (then _ v (10 ∷ []) f g)
    ∙ ap (pushed (text_of []))
    (append_assoc (name_of i) (44 ∷ []) (v ++ (10 ∷ [])) ∙ ap (λ (w : List ℕ). name_of i ++ (44 ∷ w ++ (10 ∷ []))) (sym is))

-- ---- what the call gives
module _ (i : ℕ) (c : Cell) where
  pub good_given : (t : Text) → good_cell i c ≡ true → t ≡ pushed (text_of []) (cell_line i c) → PrintCellGives i c (Ok t)
  good_given t e p =
      let q : t ≡ text_of (cell_line i c) = p ∙ pushed_text [] (cell_line i c) (omega (arith, line_room i c)) in
      rw e (refl, q, omega (arith, line_room i c, ap (λ (x : Text). x.length) q))

  pub bad_given : good_cell i c ≡ false → PrintCellGives i c (Err BadCell)
  bad_given e = rw e (refl, refl, omega arith)
