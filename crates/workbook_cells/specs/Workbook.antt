-- The 28 cells of a period together: rules 19.4 to 19.6.
use Rattle.std.specs.Prelude.{Bool, false, cond, not, List, [], ◌∷◌, ◌++◌, map, ℕ, zero, suc, eqb, leb, ltb, get_or, ℤ, pos, Option, Some, None, is_none}
use Rattle.std.specs.List.{range_with_len}
use Rattle.median_period.specs.declared.MedianPeriod.{MedianPeriod}
use Rattle.median_period.specs.Medians.{days_agree}
use Rattle.cells.specs.declared.Cell.{Cell}
use Rattle.cells.specs.declared.Cell.TheVariants.{Day}
use Rattle.cells.specs.declared.Slot.{Slot}
use Rattle.cells.specs.Cells.{good_amount, cell_of, slot_of, empty_slot, amount_in, day_in, twice_in}

-- ---- lists by their index
-- f of 0 to before n
unfoldable pub tabulated : {A : Type 0} → (ℕ → A) → ℕ → List A
tabulated f n = map f (range_with_len 0 n)

-- the first of n indices, from one on, that a test holds at; the one behind them where it holds at none
unfoldable pub first_from : (ℕ → Bool) → ℕ → ℕ → ℕ
first_from bad zero at = at
first_from bad (suc n) at = cond (bad at) at (first_from bad n (suc at))

-- ---- rule 19.5: the amount at an index of a list of them, and the cells of all
abbrev pub amount_at : List ℤ → ℕ → ℤ
amount_at amounts i = get_or amounts i (pos 0)

abbrev pub bad_amount : List ℤ → ℕ → Bool
bad_amount amounts i = not (good_amount i (amount_at amounts i))

abbrev pub day_slots : MedianPeriod → List Slot
day_slots p = slot_of (Day p.first) ∷ slot_of (Day p.last) ∷ slot_of (Day p.median) ∷ []

abbrev pub exported : List ℤ → MedianPeriod → List Slot
exported amounts p = tabulated (λ (i : ℕ). slot_of (cell_of i (amount_at amounts i))) 25 ++ day_slots p

-- ---- rule 19.6: which cells are bad
-- the last day is there, and not before the first
abbrev pub last_fits : Option ℕ → Option ℕ → Bool
last_fits None last = false
last_fits (Some a) None = false
last_fits (Some a) (Some b) = leb a b

abbrev pub cell_at : List Slot → ℕ → Cell
cell_at slots i = (get_or slots i empty_slot).cell

abbrev pub bad_cell : List Slot → ℕ → Bool
bad_cell slots i =
    cond (ltb i 25) (is_none (amount_in i (cell_at slots i)))
    (cond (eqb i 25) (is_none (day_in (cell_at slots 25)))
    (cond (eqb i 26) (not (last_fits (day_in (cell_at slots 25)) (day_in (cell_at slots 26))))
    (not (days_agree (day_in (cell_at slots 25)) (day_in (cell_at slots 26)) (twice_in (cell_at slots 27))))))

-- the first bad one, 28 where there is none
abbrev pub first_bad : List Slot → ℕ
first_bad slots = first_from (bad_cell slots) 28 0
