-- The input of `workbook`: the two days of the measurement period, and five returns, each behind its length. Rule 20.1.
use Rattle.std.specs.Prelude.{Bool, ◌&&◌, List, [], ◌∷◌, map, ℕ, zero, suc, leb, length, take, drop}
use Rattle.std.specs.Prelude.{Option, Some, None}
use Rattle.lists.specs.Lists.{all}
use Rattle.refusals.specs.Refusals.{accepted}
use Rattle.year.specs.declared.Year.{Year}
use Rattle.balances.specs.Balance.{period_years}
use Rattle.assessment.specs.Period.{one_period}
use Rattle.codec.specs.Numbers.{spelled}
use Rattle.codec.specs.Format.{when, map_o, bind_o}
use Rattle.return_format.specs.Return.{read_rows, read_year}

-- ---- the first and the last day, 4 bytes each, high byte first
abbrev pub first_day : List ℕ → ℕ
first_day bs = spelled 0 (take 4 bs)

abbrev pub last_day : List ℕ → ℕ
last_day bs = spelled 0 (take 4 (drop 4 bs))

abbrev pub day_bytes : ℕ
day_bytes = 8

-- ---- the return that comes next: its length in two bytes, and so many bytes
abbrev pub next_length : List ℕ → ℕ
next_length bs = spelled 0 (take 2 bs)

-- neither the length nor the return is cut
abbrev pub next_uncut : List ℕ → Bool
next_uncut bs = leb 2 (length bs) && leb (next_length bs) (length (drop 2 bs))

abbrev pub next_return : List ℕ → List ℕ
next_return bs = take (next_length bs) (drop 2 bs)

abbrev pub behind_next : List ℕ → List ℕ
behind_next bs = drop (next_length bs) (drop 2 bs)

-- so many of them, and nothing behind the last
unfoldable pub returns_in : ℕ → List ℕ → Option (List (List ℕ))
returns_in zero [] = Some []
returns_in zero (b ∷ bs) = None
returns_in (suc n) bs = when (next_uncut bs) (map_o (λ rest. next_return bs ∷ rest) (returns_in n (behind_next bs)))

-- behind the two days, which are not cut either
abbrev pub input_returns : List ℕ → Option (List (List ℕ))
input_returns bs = when (leb day_bytes (length bs)) (returns_in period_years (drop day_bytes bs))

-- ---- each is a return, and their years are those of one assessment period, in order
abbrev pub is_return : List ℕ → Bool
is_return bs = accepted (read_rows bs)

abbrev pub years_of : List (List ℕ) → Option (List Year)
years_of returns = when (all is_return returns && one_period (map read_year returns)) (Some (map read_year returns))

unfoldable pub input_years : List ℕ → Option (List Year)
input_years bs = bind_o (input_returns bs) years_of
