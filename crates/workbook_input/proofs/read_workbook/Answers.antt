-- The years that are read, the log that is made of them and the assessment each answer by their own laws.
use Rattle.std.proofs.Common.{Ok, refl, sym, ◌∙◌, subst}
use Rattle.levels.specs.declared.Book.{Book}
use Rattle.assessment.specs.Period.{PeriodGives}
use Rattle.workbook_input.proofs.Said.{years_valid}
use Rattle.workbook_input.proofs.Answers.{gives_amounts, first_small, last_small}
use Rattle.workbook_input.proofs.read_workbook.Goals as goal

pub running_log-requires : goal.running_log-requires
running_log-requires c =
    years_valid c.args.s.now (λ i. (c.type_inv.s i).fits) c.in_ok-years.years (sym (sym c.in_ok-years.ensures.ok_part ∙ c.read_years.ensures))

pub overflow_cast-first : goal.overflow_cast-first
overflow_cast-first c =
    record { fits = first_small c.args.s.now (λ i. (c.type_inv.s i).fits) c.in_ok-years.years (sym c.in_ok-years.ensures.ok_part ∙ c.read_years.ensures) c.number-first.result c.number-first.ensures }

pub overflow_cast-last : goal.overflow_cast-last
overflow_cast-last c =
    record { fits = last_small c.args.s.now (λ i. (c.type_inv.s i).fits) c.in_ok-years.years (sym c.in_ok-years.ensures.ok_part ∙ c.read_years.ensures) c.number-last.result c.number-last.ensures }

pub returns : goal.returns
returns c =
    let s = c.args.s.now in
    let years = c.in_ok-years.years in
    let log = c.in_ok-log.log in
    let figures = c.in_ok-figures.figures in
    let assessed = subst (λ (b : Book). PeriodGives b years log (Ok figures)) c.published-book.ensures c.in_ok-figures.ensures in
    gives_amounts s years (sym c.in_ok-years.ensures.ok_part ∙ c.read_years.ensures) log (c.in_ok-log.ensures.log refl) figures assessed.0 assessed.1
    c.amounts_of-amounts.result c.number-first.result c.number-last.result c.amounts_of-amounts.ensures c.number-first.ensures c.number-last.ensures
