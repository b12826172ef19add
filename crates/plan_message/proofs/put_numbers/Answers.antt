-- The five numbers are laid one after the other.
use Rattle.plan_message.proofs.Laws.{numbers_laid}
use Rattle.plan_message.proofs.put_numbers.Goals as goal

pub returns : goal.returns
returns c = numbers_laid c.args.plan c.requires c.put-b.ensures c.put-c.ensures c.put-d.ensures c.put-e.ensures c.put.ensures
