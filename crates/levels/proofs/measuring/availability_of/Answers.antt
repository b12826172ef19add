-- What the calendar and the log answered makes the figure.
use Rattle.std.proofs.Common.{rules, ◌≡◌, ◌∙◌, true, Err}
use Rattle.refusals.specs.Refusals.{given_or}
use Rattle.calendar.specs.Years.{no_minutes}
use Rattle.levels.specs.Book.{book_holds}
use Rattle.levels.proofs.Measured.{lost_within, gives_no_lost, gives_figure}
use Rattle.levels.proofs.measuring.availability_of.Goals as goal

pub returns-in_err-lost : goal.returns-in_err-lost
returns-in_err-lost c =
    let a = c.args in
    let why = c.in_err-lost.field-0.0 in
    let span : c.unwrap_or-span.result ≡ given_or no_minutes c.year_minutes-minutes.result = search rules in
    let e : c.from_residual.result ≡ Err why = search rules in
    let holds : book_holds a.book a.log.regime_end ≡ true = search rules in
    rw e (gives_no_lost a.book a.log a.number (span ∙ c.year_minutes-minutes.ensures.1) holds why c.in_err-lost.ensures)

pub overflow_sub-figure : goal.overflow_sub-figure
overflow_sub-figure c =
    let a = c.args in
    let span : c.unwrap_or-span.result ≡ given_or no_minutes c.year_minutes-minutes.result = search rules in
    rw c.from.ensures (lost_within a.book a.log a.number (span ∙ c.year_minutes-minutes.ensures.1) c.in_ok-lost.ensures).1

pub returns : goal.returns
returns c =
    let a = c.args in
    let span : c.unwrap_or-span.result ≡ given_or no_minutes c.year_minutes-minutes.result = search rules in
    let holds : book_holds a.book a.log.regime_end ≡ true = search rules in
    rw c.from.ensures (gives_figure a.book a.log a.number (span ∙ c.year_minutes-minutes.ensures.1) holds c.in_ok-lost.ensures c.in_ok-minutes.ensures.0)
