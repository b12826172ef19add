-- A cell by itself, at its index: rules 19.4 to 19.6.
use Rattle.std.specs.Prelude.{Bool, false, cond, not, ◌&&◌, ◌||◌, ℕ, ◌%◌, eqb, leb, ltb, ℤ, pos, nat_abs, Float, Option, Some, None}
use Rattle.std.specs.Int.Signed.{non_neg}
use Rattle.std.specs.Float.{fin, binary64}
use Rattle.std.specs.Float.Ieee.{of_int}
use Rattle.floats.specs.Floats.{whole_pounds, whole_day, half_days}
use Rattle.cells.specs.declared.Cell.{Cell}
use Rattle.cells.specs.declared.Cell.TheVariants.{Empty, Number, Day}
use Rattle.cells.specs.declared.Slot.{Slot}

-- ---- rule 19.4: the first 20 are four for each year, revenue, cap, floor and W
abbrev pub is_yearly : ℕ → Bool
is_yearly i = ltb i 20

abbrev pub is_within : ℕ → Bool
is_within i = is_yearly i && eqb (i % 4) 3

abbrev pub is_level : ℕ → Bool
is_level i = is_yearly i && (eqb (i % 4) 1 || eqb (i % 4) 2)

-- then four balances, and the adjustment
unfoldable pub most_at : ℕ → ℕ
most_at i = cond (is_yearly i) 1000000000 (cond (ltb i 24) 10000000000 30000000000)

-- the amounts that may stand at an index
unfoldable pub good_amount : ℕ → ℤ → Bool
unfolding most_at
good_amount i z = leb (nat_abs z) (most_at i) && (not (is_level i) || non_neg z)

-- ---- rule 19.5: an amount as a cell
abbrev pub is_zero : ℤ → Bool
is_zero z = eqb (nat_abs z) 0

abbrev pub cell_of : ℕ → ℤ → Cell
cell_of i z = cond (is_within i && is_zero z) Empty (Number (of_int binary64 z))

abbrev pub slot_of : Cell → Slot
slot_of c = record { cell = c }

abbrev pub empty_slot : Slot
empty_slot = slot_of Empty

-- ---- rule 19.6: a cell as an amount
abbrev pub ranged : ℕ → Option ℤ → Option ℤ
ranged i None = None
ranged i (Some z) = cond (good_amount i z) (Some z) None

abbrev pub amount_in : ℕ → Cell → Option ℤ
amount_in i Empty = cond (is_within i) (Some (pos 0)) None
amount_in i (Number x) = ranged i (whole_pounds x)
amount_in i (Day x) = None

-- as a day, and as twice a median
abbrev pub day_in : Cell → Option ℕ
day_in (Day x) = whole_day x
day_in (Number x) = None
day_in Empty = None

abbrev pub twice_in : Cell → Option ℕ
twice_in (Day x) = half_days x
twice_in (Number x) = None
twice_in Empty = None

-- the float of a day's cell, 0.0 where it is none
abbrev pub day_float : Cell → Float
day_float (Day x) = x
day_float (Number x) = fin false 0 (pos 0)
day_float Empty = fin false 0 (pos 0)
