-- None of the amounts before is negative.
use Rattle.std.proofs.Common.{◌≡◌, true}
use Rattle.balances.specs.Assessment.{not_negative}
use Rattle.balances.proofs.assessing.not_negative.Given as goal

abbrev pub invariant-loop-k : goal.invariant-loop-k
invariant-loop-k l = not_negative l.amounts l.k ≡ true
