-- The measure is the years left.
use Rattle.balances.proofs.carrying.+carried.Given as goal

abbrev pub decreases-carried : goal.decreases-carried
decreases-carried l = l.left
