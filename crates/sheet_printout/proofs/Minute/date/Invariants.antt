-- The days of the months that are past and the days left are those of the year. The measure is the days left.
use Rattle.std.proofs.Common.{◌≡◌, ◌+◌, ◌-◌, ◌≤◌}
use Rattle.sheet_printout.specs.Dates.{day_in_year, days_to_month, year_on}
use Rattle.sheet_printout.proofs.Minute.date.Given as goal

abbrev pub invariant-loop-day : goal.invariant-loop-day
invariant-loop-day l =
    (1 ≤ l.month) × (days_to_month (year_on l.fn.self.at) (l.month - 1) + l.day ≡ day_in_year l.fn.self.at)

abbrev pub decreases-loop-day : goal.decreases-loop-day
decreases-loop-day l = l.day
