-- The word, the number and a newline are pushed.
use Rattle.return_printout.proofs.Lines.{line}
use Rattle.return_printout.proofs.with_line.Goals as goal

pub returns : goal.returns
returns c = line _ _ _ c.push_all-begun.ensures c.push_decimal-told.ensures c.push.ensures
