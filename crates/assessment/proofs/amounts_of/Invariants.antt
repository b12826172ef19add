-- The amounts of the first k years are there, and the years to come decide whether all fit.
use Rattle.std.proofs.Common.{◌≡◌, drop}
use Rattle.lists.specs.Lists.{all}
use Rattle.assessment.specs.Period.{year_fits, yearly_of}
use Rattle.assessment.proofs.amounts_of.Given as goal

abbrev pub invariant-loop-k : goal.invariant-loop-k
invariant-loop-k l = record {
  amounts : l.yearly ≡ yearly_of l.book l.years l.log l.k;
  rest : all (year_fits l.book l.log) l.years ≡ all (year_fits l.book l.log) (drop l.k l.years);
}
