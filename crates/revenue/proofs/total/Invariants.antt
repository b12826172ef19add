-- The lines passed are added up, those of kind 2 and the others.
use Rattle.std.proofs.Common.{true, false}
use Rattle.revenue.proofs.Sums.{Added}
use Rattle.revenue.proofs.total.Given as goal

abbrev pub invariant-loop-l : goal.invariant-loop-l
invariant-loop-l l = record {
  others : Added false l.rate l.lines l.l-index l.others;
  cmr : Added true l.rate l.lines l.l-index l.cmr;
}
