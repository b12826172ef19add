-- `balances::assessing::good_amounts`: the years before, and this one.
use Rattle.std.proofs.Common.{sym, ◌∙◌, arith}
use lib.ListN.{get_or}
use lib.IntN.{pos}
use Rattle.money.proofs.Pounds.{wire}
use Rattle.balances.proofs.Ranges.{good_none, good_more, bad_at}
use Rattle.balances.proofs.assessing.good_amounts.Goals as goal

pub loop-k-init : goal.loop-k-init
loop-k-init c = good_none c.args.index c.args.amounts

pub loop-k-preserved : goal.loop-k-preserved
loop-k-preserved c =
    let tested = rw (wire (get_or c.args.amounts c.loop-k.k (pos 0)) (omega arith)) at c.good_year.ensures in
    good_more c.args.index c.args.amounts c.loop-k.k c.loop-k.invariant (sym tested ∙ c.if-not-good_year.false)

pub returns-then-not-good_year : goal.returns-then-not-good_year
returns-then-not-good_year c =
    let tested = rw (wire (get_or c.args.amounts c.loop-k.k (pos 0)) (omega arith)) at c.good_year.ensures in
    bad_at c.args.index c.args.amounts c.args.n c.loop-k.k (omega arith) (sym tested ∙ c.if-not-good_year.true)
