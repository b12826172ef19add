-- The days of the years that are past and the days left are those of the minute. The measure is the days left.
use Rattle.std.proofs.Common.{◌≡◌, ◌+◌, ◌-◌, ◌≤◌}
use Rattle.calendar.specs.Years.{days_to}
use Rattle.sheet_printout.specs.Dates.{day_number}
use Rattle.sheet_printout.proofs.Minute.year.Given as goal

abbrev pub invariant-loop-day : goal.invariant-loop-day
invariant-loop-day l = (2019 ≤ l.year) × (days_to (l.year - 2019) + l.day ≡ day_number l.fn.self.at)

abbrev pub decreases-loop-day : goal.decreases-loop-day
decreases-loop-day l = l.day
