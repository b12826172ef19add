-- Every turn: the bytes to come are still to be pushed.
use Rattle.std.proofs.Common.{◌≡◌, drop}
use Rattle.text.specs.Text.{pushed}
use Rattle.text.proofs.push_all.Given as goal

abbrev pub invariant-loop-b : goal.invariant-loop-b
invariant-loop-b l = pushed l.initial.next l.s ≡ pushed l.next (drop l.b-index l.s)
