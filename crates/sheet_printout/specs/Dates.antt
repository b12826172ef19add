-- The date and time of a minute, in UTC, and the line of an outage, in ASCII: rules 16.1 and 16.2.
use Rattle.std.specs.Prelude.{cond, ◌||◌, List, [], ◌∷◌, ◌++◌, ℕ, zero, suc, ◌+◌, ◌-◌, ◌/◌, ◌%◌, eqb, leb}
use Rattle.lists.specs.Lists.{sum_from}
use Rattle.calendar.specs.Years.{is_leap, days_to}
use Rattle.entries.specs.declared.Entry.{Entry}
use Rattle.text.specs.Text.{decimal, digits}

-- how many of f 1 to f n are at most x
unfoldable pub reached : (ℕ → ℕ) → ℕ → ℕ → ℕ
reached f n x = sum_from 1 n (λ (k : ℕ). cond (leb (f k) x) 1 0)

-- ---- the year
-- the days from 1 January 2019 to the day of a minute: minute 0 is 00:00 on 31 January 2019 (rule 1.4)
abbrev pub day_number : ℕ → ℕ
day_number minute = minute / 1440 + 30

-- how many calendar years have begun since 2019, at most 26: minute 13,632,480 is 00:00 on 1 January 2045
unfoldable pub years_on : ℕ → ℕ
years_on minute = reached days_to 26 (day_number minute)

abbrev pub year_on : ℕ → ℕ
year_on minute = 2019 + years_on minute

-- how many days of its year are past
abbrev pub day_in_year : ℕ → ℕ
day_in_year minute = day_number minute - days_to (years_on minute)

-- ---- the month and its day
-- the days of a month: February's 28 or 29; 30 in April, June, September and November; else 31
abbrev pub month_days : ℕ → ℕ → ℕ
month_days year month =
    cond (eqb month 2) (cond (is_leap year) 29 28) (cond (eqb month 4 || (eqb month 6 || (eqb month 9 || eqb month 11))) 30 31)

-- the days of a year's first n months
unfoldable pub days_to_month : ℕ → ℕ → ℕ
days_to_month year zero = 0
days_to_month year (suc n) = days_to_month year n + month_days year (suc n)

-- how many months have begun since January
unfoldable pub months_on : ℕ → ℕ
months_on minute = reached (days_to_month (year_on minute)) 11 (day_in_year minute)

abbrev pub month_on : ℕ → ℕ
month_on minute = 1 + months_on minute

abbrev pub day_on : ℕ → ℕ
day_on minute = 1 + (day_in_year minute - days_to_month (year_on minute) (months_on minute))

-- ---- the time: minute 0 is a midnight
abbrev pub hour_on : ℕ → ℕ
hour_on minute = minute / 60 % 24

abbrev pub minute_on : ℕ → ℕ
minute_on minute = minute % 60

-- ---- the bytes: 48 is the digit 0, 45 the hyphen, 58 the colon, 32 the space and 10 the newline
abbrev pub two_digits : ℕ → List ℕ
two_digits n = (48 + n / 10) ∷ (48 + n % 10) ∷ []

-- as `2024-03-30`
unfoldable pub date_of : ℕ → List ℕ
date_of minute = decimal (year_on minute) ++ (45 ∷ two_digits (month_on minute) ++ (45 ∷ two_digits (day_on minute)))

-- as `23:30`
unfoldable pub time_of : ℕ → List ℕ
time_of minute = two_digits (hour_on minute) ++ (58 ∷ two_digits (minute_on minute))

-- rule 16.1: as `2024-03-30 23:30`
unfoldable pub moment_of : ℕ → List ℕ
moment_of minute = date_of minute ++ (32 ∷ time_of minute)

-- rule 16.2: the cause behind a space, where it is not 1; a number of 8 bits has at most 3 digits
unfoldable pub named_cause : ℕ → List ℕ
named_cause cause = cond (eqb cause 1) [] (32 ∷ digits 3 cause)

-- rule 16.2: start, end, MW and cause, as `2024-03-30 23:30 2024-03-31 01:30 500 2`, and a newline
unfoldable pub outage_line : Entry → List ℕ
outage_line e = moment_of e.start ++ (32 ∷ moment_of e.end ++ (32 ∷ decimal e.mw ++ (named_cause e.cause ++ (10 ∷ []))))
