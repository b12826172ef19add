-- The returns before this one are read.
use Rattle.workbook_input.proofs.Reading.{Going}
use Rattle.workbook_input.proofs.returns.read_years.Given as goal

abbrev pub invariant-loop-y : goal.invariant-loop-y
invariant-loop-y l = Going l.s l.y-items l.at l.y-index
