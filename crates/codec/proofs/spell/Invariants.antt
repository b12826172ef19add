-- Every turn: v is what the first bytes spell, and is below that power of 256.
use Rattle.std.proofs.Common.{◌≡◌, ◌<◌, ◌^◌, take}
use Rattle.codec.specs.Numbers.{spelled}
use Rattle.codec.proofs.spell.Given as goal

abbrev pub invariant-loop-b : goal.invariant-loop-b
invariant-loop-b l = (l.v < 256 ^ l.b-index) × (l.v ≡ spelled 0 (take l.b-index l.bytes))
