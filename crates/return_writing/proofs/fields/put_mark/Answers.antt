-- The mark of an Exceptional Event is one field.
use Rattle.return_writing.proofs.Laying.{mark_laid}
use Rattle.return_writing.proofs.fields.put_mark.Goals as goal

pub returns-then-exceptional : goal.returns-then-exceptional
returns-then-exceptional c = mark_laid c.if-exceptional.true c.requires c.put_number.ensures
