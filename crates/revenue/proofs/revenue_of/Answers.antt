-- A year that its check refuses is refused for the same.
use Rattle.std.proofs.Common.{rules, ◌≡◌, Err, false, pos}
use Rattle.year.specs.Year.{good_year}
use Rattle.year.proofs.Says.{checked_bad}
use Rattle.refusals.proofs.Cases.{refused_meets}
use Rattle.revenue.specs.Revenue.{assessed_revenue, revenue_rows}
use Rattle.revenue.proofs.revenue_of.Goals as goal

pub returns-in_err-check_year : goal.returns-in_err-check_year
returns-in_err-check_year c =
    let why = c.in_err-check_year.field-0.0 in
    let e : c.from_residual.result ≡ Err why = search rules in
    let bad : good_year c.args.y ≡ false = checked_bad c.args.y c.check_year.result c.check_year.ensures why c.in_err-check_year.was in
    rw e (refused_meets (pos 0) (revenue_rows c.args.y) (assessed_revenue c.args.y) why (rw bad (rw bad at c.in_err-check_year.ensures)))
