-- The line of an amount that is in range, and else none.
use Rattle.std.proofs.Common.{◌≡◌, ℤ, Some, None, ap, sym, ◌∙◌, ◌^◌, ◌<◌, arith}
use lib.Signed.{mag}
use Rattle.std.proofs.lemmas.Result.{err_from_is_err_and}
use Rattle.refusals.specs.declared.Refusal.TheVariants.{BadCell}
use Rattle.money.proofs.Pounds.{wire}
use Rattle.cells.specs.Cells.{amount_in}
use Rattle.text.specs.Text.{pushed}
use Rattle.cell_printout.specs.Printout.{amount_text}
use Rattle.cell_printout.proofs.Lines.{amount_bad, amount_good, amount_value, bad_given, good_given, line_made}
use Rattle.cell_printout.proofs.amount_line.Goals as goal

pub returns-in_err-z : goal.returns-in_err-z
returns-in_err-z c =
    let i = c.args.index in
    let cell = c.args.cell in
    let p = err_from_is_err_and c.from_residual.result c.from_residual.ensures.1 in
    let why : c.in_err-z.field-0.0 ≡ BadCell = grind arith in
    let is : amount_in i cell ≡ None = grind arith in
    rw (p.1, p.2, why) (bad_given i cell (amount_bad i cell c.requires is))

pub returns : goal.returns
returns c =
    let i = c.args.index in
    let cell = c.args.cell in
    let z = c.in_ok-z.z in
    let is : amount_in i cell ≡ Some z = grind arith in
    let fits : mag z < 2 ^ 63 = omega arith in
    let pushes : c.push_amount-told.result ≡ pushed c.begun.result (amount_text cell (Some z)) =
    c.push_amount-told.ensures ∙ ap (λ (x : ℤ). pushed c.begun.result (amount_text cell (Some x))) (wire z fits) in
    good_given i cell c.push.result (amount_good i cell c.requires z is)
    (line_made i cell (amount_text cell (Some z)) (amount_value i cell c.requires z is) c.begun.ensures pushes c.push.ensures)
