-- What it is for a date to be the right one, and for two minutes to show the same figures. No contract is stated by these definitions; theorems speak by them.
use Rattle.std.specs.Prelude.{◌≡◌, ℕ, ◌+◌, ◌-◌, ◌≤◌, ◌<◌}
use Rattle.calendar.specs.Years.{days_to}
use Rattle.sheet_printout.specs.Dates.{day_number, year_on, month_on, day_on, hour_on, minute_on, month_days, days_to_month}

-- the figures are a date's and a time's, and the days before the date are those before the minute
pub record RightDate (minute : ℕ) : Type 0 where
  pub from_year : 2019 ≤ year_on minute
  pub to_year : year_on minute ≤ 2045
  pub from_month : 1 ≤ month_on minute
  pub to_month : month_on minute ≤ 12
  pub from_day : 1 ≤ day_on minute
  pub to_day : day_on minute ≤ month_days (year_on minute) (month_on minute)
  pub to_hour : hour_on minute < 24
  pub to_minute : minute_on minute < 60
  pub days : days_to (year_on minute - 2019) + (days_to_month (year_on minute) (month_on minute - 1) + (day_on minute - 1)) ≡ day_number minute

pub record SameFigures (a b : ℕ) : Type 0 where
  pub year : year_on a ≡ year_on b
  pub month : month_on a ≡ month_on b
  pub day : day_on a ≡ day_on b
  pub hour : hour_on a ≡ hour_on b
  pub minute : minute_on a ≡ minute_on b
