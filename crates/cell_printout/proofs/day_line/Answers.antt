-- The line of a day that may stand at its index, and else none.
use Rattle.std.proofs.Common.{◌≡◌, Some, None, true, false, sym, arith}
use Rattle.std.proofs.lemmas.Result.{err_from_is_err_and}
use Rattle.refusals.specs.declared.Refusal.TheVariants.{BadCell}
use Rattle.cells.specs.Cells.{twice_in}
use Rattle.cell_printout.specs.Printout.{halves_text}
use Rattle.cell_printout.proofs.Lines.{bad_given, day_bad, day_good, day_value, good_given, line_made}
use Rattle.cell_printout.proofs.day_line.Goals as goal

pub returns-in_err-k : goal.returns-in_err-k
returns-in_err-k c =
    let i = c.args.index in
    let cell = c.args.cell in
    let p = err_from_is_err_and c.from_residual.result c.from_residual.ensures.1 in
    let why : c.in_err-k.field-0.0 ≡ BadCell = grind arith in
    let is : twice_in cell ≡ None = grind arith in
    rw (p.1, p.2, why) (bad_given i cell (day_bad i cell c.requires.0 c.requires.1 is))

pub returns-then-not-may_stand : goal.returns-then-not-may_stand
returns-then-not-may_stand c =
    let i = c.args.index in
    let cell = c.args.cell in
    let is : twice_in cell ≡ Some c.in_ok-k.k = grind arith in
    bad_given i cell (day_good i cell c.requires.0 c.requires.1 c.in_ok-k.k false is (sym c.if-not-may_stand.ensures))

pub returns : goal.returns
returns c =
    let i = c.args.index in
    let cell = c.args.cell in
    let k = c.in_ok-k.k in
    let is : twice_in cell ≡ Some k = grind arith in
    good_given i cell c.push.result (day_good i cell c.requires.0 c.requires.1 k true is (sym c.if-not-may_stand.ensures))
    (line_made i cell (halves_text k) (day_value i cell c.requires.0 c.requires.1 k is) c.begun.ensures c.push_halves-told.ensures c.push.ensures)
