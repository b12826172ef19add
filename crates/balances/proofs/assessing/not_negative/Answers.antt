-- `balances::assessing::not_negative`: the amounts before, and this one.
use Rattle.std.proofs.Common.{sym, ◌∙◌, arith}
use lib.ListN.{get_or}
use lib.IntN.{pos}
use Rattle.money.proofs.Pounds.{wire}
use Rattle.balances.proofs.Ranges.{none_negative, more_positive, negative_at}
use Rattle.balances.proofs.assessing.not_negative.Goals as goal

pub loop-k-init : goal.loop-k-init
loop-k-init c = none_negative c.args.amounts

pub loop-k-preserved : goal.loop-k-preserved
loop-k-preserved c =
    let tested = rw (wire (get_or c.args.amounts c.loop-k.k (pos 0)) (omega arith)) at c.is_negative.ensures in
    more_positive c.args.amounts c.loop-k.k c.loop-k.invariant (sym tested ∙ c.if-is_negative.false)

pub returns-then-is_negative : goal.returns-then-is_negative
returns-then-is_negative c =
    let tested = rw (wire (get_or c.args.amounts c.loop-k.k (pos 0)) (omega arith)) at c.is_negative.ensures in
    negative_at c.args.amounts c.args.n c.loop-k.k (omega arith) (sym tested ∙ c.if-is_negative.true)
