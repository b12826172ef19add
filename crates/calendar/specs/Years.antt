-- The minutes of a Relevant Year, by the calendar: rules 2.1 and 2.2.
use Rattle.std.specs.Prelude.{Bool, false, cond, not, ◌&&◌, ◌||◌, [], ◌∷◌, ◌≡◌, ℕ, zero, suc, ◌+◌, ◌-◌, ◌*◌, ◌%◌, eqb, leb, Result}
use Rattle.refusals.specs.Refusals.{Rows, accepted, first_applicable, answer_number, given_or}
use Rattle.refusals.specs.declared.Refusal.{Refusal}
use Rattle.refusals.specs.declared.Refusal.TheVariants.{BadYear}
use Rattle.calendar.specs.declared.YearMinutes.{YearMinutes}

-- a leap year: 4 divides it, and 100 does not, unless 400 does
abbrev pub is_leap : ℕ → Bool
is_leap year = eqb (year % 400) 0 || (eqb (year % 4) 0 && not (eqb (year % 100) 0))

abbrev pub days_in : ℕ → ℕ
days_in year = cond (is_leap year) 366 365

-- the days from 1 January 2019 to 1 January n years later
unfoldable pub days_to : ℕ → ℕ
days_to zero = 0
days_to (suc n) = days_to n + days_in (2019 + n)

-- rules 1.4 and 2.1: year 1 starts on 31 January 2019, 30 days into the calendar's year, the others on 1 January
unfoldable pub year_start : ℕ → ℕ
unfolding days_to
year_start zero = 0
year_start (suc zero) = 0
year_start (suc (suc n)) = 1440 * (days_to (suc n) - 30)

abbrev pub last_year : ℕ
last_year = 25

-- rule 2.2: the last year ends at the regime end, another where the next starts
abbrev pub year_end : ℕ → ℕ → ℕ
year_end year regime_end = cond (eqb year last_year) regime_end (year_start (suc year))

-- rule 2.2: one of the first n years ends at a minute
abbrev pub one_ends_at : ℕ → ℕ → ℕ → Bool
one_ends_at regime_end minute zero = false
one_ends_at regime_end minute (suc n) = eqb minute (year_end (suc n) regime_end) || one_ends_at regime_end minute n

-- rule 2.2: a minute is a year end
unfoldable pub is_year_end : ℕ → ℕ → Bool
is_year_end regime_end minute = one_ends_at regime_end minute last_year

-- ---- a year's first minute and its end
abbrev pub good_year_number : ℕ → Bool
good_year_number year = leb 1 year && leb year last_year

abbrev pub minutes_rows : ℕ → Rows
minutes_rows year = (BadYear, not (good_year_number year)) ∷ []

-- what is given where no row applies, and beside a refusal
abbrev pub minutes_of : ℕ → ℕ → YearMinutes
minutes_of year regime_end = record { first = year_start year; end = year_end year regime_end }

abbrev pub no_minutes : YearMinutes
no_minutes = record { first = 0; end = 0 }

abbrev pub minutes_given : ℕ → ℕ → YearMinutes
minutes_given year regime_end = cond (accepted (minutes_rows year)) (minutes_of year regime_end) no_minutes

-- what `year_minutes` promises of its result
abbrev pub MinutesGives : ℕ → ℕ → Result YearMinutes Refusal → Type 0
MinutesGives year regime_end r = (answer_number r ≡ first_applicable (minutes_rows year)) × (given_or no_minutes r ≡ minutes_given year regime_end)
