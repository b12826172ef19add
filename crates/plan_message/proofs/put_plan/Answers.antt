-- Head and numbers are laid one after the other, and the cause behind them where it is not 1.
use Rattle.std.proofs.Common.{eq-eqb, ne_eqb}
use Rattle.plan_message.proofs.Laws.{head_room, plain_laid, caused_laid}
use Rattle.plan_message.proofs.put_plan.Goals as goal

pub put_numbers-requires : goal.put_numbers-requires
put_numbers-requires c =
    head_room c.args.plan _ c.args.out.now c.put_head-at.new.out c.put_head-at.result c.requires c.put_head-at.ensures

pub returns-then-plan-eq-PLAIN : goal.returns-then-plan-eq-PLAIN
returns-then-plan-eq-PLAIN c =
    let p = c.args.plan in
    plain_laid p (eq-eqb p.cause 1 c.if-plan-eq-PLAIN.true) c.requires c.put_head-at.ensures c.put_numbers.ensures

pub put_numbers-last-requires : goal.put_numbers-last-requires
put_numbers-last-requires c =
    head_room c.args.plan _ c.args.out.now c.put_head-at-2.new.out c.put_head-at-2.result c.requires c.put_head-at-2.ensures

pub returns : goal.returns
returns c =
    let p = c.args.plan in
    caused_laid p (ne_eqb p.cause 1 c.if-plan-eq-PLAIN.false) c.requires c.put_head-at-2.ensures c.put_numbers-last.ensures c.put.ensures
