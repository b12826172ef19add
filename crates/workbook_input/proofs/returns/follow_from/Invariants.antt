-- The years before this one follow.
use Rattle.std.proofs.Common.{◌≡◌, ◌+◌, drop}
use Rattle.assessment.specs.Period.{numbers_from}
use Rattle.workbook_input.proofs.returns.follow_from.Given as goal

abbrev pub invariant-loop-k : goal.invariant-loop-k
invariant-loop-k l = numbers_from l.fn.number l.fn.years ≡ numbers_from (l.fn.number + l.k) (drop l.k l.fn.years)
