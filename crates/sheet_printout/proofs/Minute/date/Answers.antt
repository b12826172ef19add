-- Month after month is passed, until the day is within one.
use Rattle.std.proofs.Common.{◌≡◌, ℕ, ◌-◌, ap, ◌∙◌, arith}
use Rattle.sheet_printout.specs.Dates.{days_to_month, month_days, year_on}
use Rattle.sheet_printout.proofs.Dates.{month_found, month_passed, month_some, months_least}
use Rattle.sheet_printout.proofs.Minute.date.Goals as goal

-- the days of a month of the year that was found
of_year : (minute year month : ℕ) → year ≡ year_on minute → {n : ℕ} → n ≡ month_days year month → n ≡ month_days (year_on minute) month
of_year minute year month y e = e ∙ ap (λ (x : ℕ). month_days x month) y

pub loop-day-init : goal.loop-day-init
unfolding days_to_month
loop-day-init c = (omega arith, omega (arith, c.year-within.ensures.1))

pub overflow_add-month : goal.overflow_add-month
overflow_add-month c = omega (arith, months_least (year_on c.args.self.at) (c.loop-day.month - 1))

pub loop-day-smaller : goal.loop-day-smaller
loop-day-smaller c =
    let month = c.loop-day.month in
    omega (arith, (month_some (year_on c.args.self.at) month).0, of_year c.args.self.at _ month c.year-within.ensures.0 c.month_days-day.ensures)

pub loop-day-preserved : goal.loop-day-preserved
loop-day-preserved c =
    let l = c.loop-day in
    let year = year_on c.args.self.at in
    let days = of_year c.args.self.at _ l.month c.year-within.ensures.0 c.month_days.ensures in
    let same = of_year c.args.self.at _ l.month c.year-within.ensures.0 c.month_days-day.ensures in
    (omega arith, omega (arith, days, same, month_passed year l.month l.invariant.0))

pub returns : goal.returns
returns c =
    let l = c.loop-day in
    let days = of_year c.args.self.at _ l.month c.year-within.ensures.0 c.month_days.ensures in
    let m = month_found c.args.self.at c.args.self.in_range l.month l.day l.invariant.0 l.invariant.1 (omega (arith, days)) in
    (c.year-within.ensures.0, m.0, m.1)
