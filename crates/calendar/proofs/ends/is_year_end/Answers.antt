-- A minute is a year end where a year that is passed ends at it; where none of the first 24 does, the regime end decides.
use Rattle.std.proofs.Common.{◌≡◌, ◌-◌, refl, sym, ap, ◌∙◌, arith}
use Rattle.calendar.specs.Years.{one_ends_at}
use Rattle.calendar.proofs.Laws.{year_one, ends_next, year_ends, last_ends}
use Rattle.calendar.proofs.ends.is_year_end.Goals as goal

pub loop-passing-init : goal.loop-passing-init
loop-passing-init c = (sym year_one, refl)

pub returns-then-minute-start : goal.returns-then-minute-start
returns-then-minute-start c =
    let a = c.args in
    let l = c.loop-passing in
    sym (year_ends a.regime_end a.minute l.passing (omega arith) (omega arith)
    (c.if-minute-start.true ∙ c.next_start-start.ensures ∙ sym (ends_next l.passing a.regime_end (omega arith))))

pub returns : goal.returns
returns c =
    let a = c.args in
    let l = c.loop-passing in
    let n : 24 ≡ l.passing - 1 = omega arith in
    sym (last_ends a.regime_end a.minute (ap (one_ends_at a.regime_end a.minute) n ∙ l.invariant.1))
