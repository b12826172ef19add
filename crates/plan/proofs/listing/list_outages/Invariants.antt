-- The first k outages are listed.
use Rattle.plan.proofs.Lists.{Lists}
use Rattle.plan.proofs.listing.list_outages.Given as goal

abbrev pub invariant-loop-k : goal.invariant-loop-k
invariant-loop-k l = Lists l.regime_end l.plan l.entries l.k
