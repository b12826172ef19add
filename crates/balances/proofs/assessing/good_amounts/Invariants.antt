-- The years before are in range.
use Rattle.std.proofs.Common.{◌≡◌, true}
use Rattle.balances.specs.Balance.{good_amounts}
use Rattle.balances.proofs.assessing.good_amounts.Given as goal

abbrev pub invariant-loop-k : goal.invariant-loop-k
invariant-loop-k l = good_amounts l.index l.amounts l.k ≡ true
