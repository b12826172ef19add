-- A balance over any number of years: rules 8.1 and 8.4 (SC3 9, 11 to 13 the sums, 16 to 18 the uplift).
use Rattle.std.specs.Prelude.{Bool, true, ◌&&◌, List, ℕ, zero, suc, ◌+◌, ◌*◌, leb, get_or, ℤ, pos, nat_abs, ◌+ℤ◌, ◌*ℤ◌}
use Rattle.money.specs.Rounding.{round_z}

-- the years of an assessment period, and of the room for what they bring: an assessment is over the first n of them
abbrev pub period_years : ℕ
period_years = 5

-- one year to five
abbrev pub good_count : ℕ → Bool
good_count n = leb 1 n && leb n period_years

-- ---- rule 8.1: one year's uplift, rounded (SC3 17, 18)
unfoldable pub carry_of : ℤ → ℕ → ℕ → ℤ
carry_of balance before now = round_z (balance *ℤ pos (10388 * now)) (10000 * before)

-- rule 8.1: the first year's amount; after a later year what was carried to it, and its amount. Years count from 0 here.
unfoldable pub balance_after : List ℕ → List ℤ → ℕ → ℤ
balance_after index amounts zero = get_or amounts 0 (pos 0)
balance_after index amounts (suc year) =
    carry_of (balance_after index amounts year) (get_or index year 0) (get_or index (suc year) 0) +ℤ get_or amounts (suc year) (pos 0)

-- ---- rule 8.4: the limit of a balance, after each of so many years past the year `from`
abbrev pub most_balance : ℕ
most_balance = 10000000000

unfoldable pub later_within : List ℕ → List ℤ → ℕ → ℕ → Bool
later_within index amounts from zero = true
later_within index amounts from (suc left) =
    leb (nat_abs (balance_after index amounts (from + 1))) most_balance && later_within index amounts (from + 1) left

-- ---- rule 8.4: yearly amounts and indices in range, of the first n years
abbrev pub good_index : ℕ → Bool
good_index i = leb 5000 i && leb i 50000

abbrev pub good_yearly_amount : ℤ → Bool
good_yearly_amount z = leb (nat_abs z) 1000000000

unfoldable pub good_amounts : List ℕ → List ℤ → ℕ → Bool
good_amounts index amounts zero = true
good_amounts index amounts (suc n) = (good_index (get_or index n 0) && good_yearly_amount (get_or amounts n (pos 0))) && good_amounts index amounts n
