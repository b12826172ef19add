-- Minutes worked by hand: the first, a leap day, the last, and two lines. Assumes nothing.
use mathlib.Core.Path.{◌≡◌, refl}
use mathlib.Core.List.{[], ◌∷◌}
use Rattle.calendar.specs.Years.{days_to}
use Rattle.text.specs.Text.{digits}
use Rattle.sheet_printout.specs.Dates.{reached, years_on, days_to_month, months_on, date_of, time_of, moment_of, named_cause, outage_line}

-- `2019-01-31 00:00`
pub first_minute : moment_of 0 ≡ 50 ∷ 48 ∷ 49 ∷ 57 ∷ 45 ∷ 48 ∷ 49 ∷ 45 ∷ 51 ∷ 49 ∷ 32 ∷ 48 ∷ 48 ∷ 58 ∷ 48 ∷ 48 ∷ []
unfolding moment_of date_of time_of years_on months_on reached days_to_month days_to digits
first_minute = refl

-- `2024-02-29 23:59`
pub leap_day : moment_of 2672639 ≡ 50 ∷ 48 ∷ 50 ∷ 52 ∷ 45 ∷ 48 ∷ 50 ∷ 45 ∷ 50 ∷ 57 ∷ 32 ∷ 50 ∷ 51 ∷ 58 ∷ 53 ∷ 57 ∷ []
unfolding moment_of date_of time_of years_on months_on reached days_to_month days_to digits
leap_day = refl

-- `2045-01-01 00:00`
pub last_minute : moment_of 13632480 ≡ 50 ∷ 48 ∷ 52 ∷ 53 ∷ 45 ∷ 48 ∷ 49 ∷ 45 ∷ 48 ∷ 49 ∷ 32 ∷ 48 ∷ 48 ∷ 58 ∷ 48 ∷ 48 ∷ []
unfolding moment_of date_of time_of years_on months_on reached days_to_month days_to digits
last_minute = refl

-- `2024-03-30 23:30 2024-03-31 01:30 500`
pub night_out : outage_line (record { start = 2715810; end = 2715930; mw = 500; cause = 1 })
    ≡ 50 ∷ 48 ∷ 50 ∷ 52 ∷ 45 ∷ 48 ∷ 51 ∷ 45 ∷ 51 ∷ 48 ∷ 32 ∷ 50 ∷ 51 ∷ 58 ∷ 51 ∷ 48 ∷ 32
    ∷ 50 ∷ 48 ∷ 50 ∷ 52 ∷ 45 ∷ 48 ∷ 51 ∷ 45 ∷ 51 ∷ 49 ∷ 32 ∷ 48 ∷ 49 ∷ 58 ∷ 51 ∷ 48 ∷ 32
    ∷ 53 ∷ 48 ∷ 48 ∷ 10 ∷ []
unfolding outage_line named_cause moment_of date_of time_of years_on months_on reached days_to_month days_to digits
night_out = refl

-- `2024-03-30 23:30 2024-03-31 01:30 500 2`
pub named_out : outage_line (record { start = 2715810; end = 2715930; mw = 500; cause = 2 })
    ≡ 50 ∷ 48 ∷ 50 ∷ 52 ∷ 45 ∷ 48 ∷ 51 ∷ 45 ∷ 51 ∷ 48 ∷ 32 ∷ 50 ∷ 51 ∷ 58 ∷ 51 ∷ 48 ∷ 32
    ∷ 50 ∷ 48 ∷ 50 ∷ 52 ∷ 45 ∷ 48 ∷ 51 ∷ 45 ∷ 51 ∷ 49 ∷ 32 ∷ 48 ∷ 49 ∷ 58 ∷ 51 ∷ 48 ∷ 32
    ∷ 53 ∷ 48 ∷ 48 ∷ 32 ∷ 50 ∷ 10 ∷ []
unfolding outage_line named_cause moment_of date_of time_of years_on months_on reached days_to_month days_to digits
named_out = refl
