-- Year after year is passed, until the day is within one.
use Rattle.std.proofs.Common.{arith}
use Rattle.calendar.specs.Years.{days_to}
use Rattle.calendar.proofs.Laws.{least_days}
use Rattle.sheet_printout.proofs.Dates.{year_passed, year_few, year_found}
use Rattle.sheet_printout.proofs.Minute.year.Goals as goal

pub loop-day-init : goal.loop-day-init
unfolding days_to
loop-day-init c = (omega arith, omega arith)

pub overflow_add-year : goal.overflow_add-year
overflow_add-year c = omega (arith, year_few c.args.self.at c.args.self.in_range c.loop-day.year (omega arith))

pub loop-day-smaller : goal.loop-day-smaller
loop-day-smaller c = omega (arith, least_days c.loop-day.year)

pub loop-day-preserved : goal.loop-day-preserved
loop-day-preserved c =
    let l = c.loop-day in
    (omega arith, omega (arith, year_passed l.year l.invariant.0))

pub returns : goal.returns
returns c =
    let l = c.loop-day in
    year_found c.args.self.at c.args.self.in_range l.year l.day l.invariant.0 l.invariant.1 (omega arith)
