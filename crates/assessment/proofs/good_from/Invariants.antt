-- The years to come decide.
use Rattle.std.proofs.Common.{◌≡◌}
use Rattle.assessment.specs.Steps.{good_from}
use Rattle.assessment.proofs.Years.{good_rest}
use Rattle.assessment.proofs.good_from.Given as goal

abbrev pub invariant-loop-k : goal.invariant-loop-k
invariant-loop-k l = good_from l.number l.years ≡ good_rest l.number l.k l.years
