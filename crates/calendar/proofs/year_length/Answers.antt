-- From a year's start to the next are the days of its calendar year, without 30 of them in year 1.
use Rattle.std.proofs.Common.{ℕ, ◌+◌, ap, ◌∙◌, arith}
use Rattle.calendar.specs.Years.{days_in}
use Rattle.calendar.proofs.Laws.{first_passed, later_passed}
use Rattle.calendar.proofs.year_length.Goals as goal

pub returns-then-year-eq-FIRST_YEAR : goal.returns-then-year-eq-FIRST_YEAR
returns-then-year-eq-FIRST_YEAR c = first_passed c.args.year c.days_in-days.result (c.days_in-days.ensures ∙ ap (λ (y : ℕ). days_in (2018 + y)) c.from.ensures) c.if-year-eq-FIRST_YEAR.true

pub returns : goal.returns
returns c = later_passed c.args.year c.days_in-days.result (c.days_in-days.ensures ∙ ap (λ (y : ℕ). days_in (2018 + y)) c.from.ensures) (omega (arith, c.if-year-eq-FIRST_YEAR.false))
