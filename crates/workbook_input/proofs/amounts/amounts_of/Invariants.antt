-- The amounts of the years before this one are there.
use Rattle.std.proofs.Common.{◌≡◌, take}
use Rattle.workbook_input.specs.Calls.{yearly_amounts}
use Rattle.workbook_input.proofs.Filling.{held}
use Rattle.workbook_input.proofs.amounts.amounts_of.Given as goal

abbrev pub invariant-loop-k : goal.invariant-loop-k
invariant-loop-k l = l.amounts ≡ held (yearly_amounts l.fn.log (take l.k l.fn.years))
