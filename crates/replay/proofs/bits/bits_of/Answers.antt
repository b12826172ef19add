-- A float that is equal to itself is no NaN.
use Rattle.std.proofs.Common.{◌≡◌}
use mathlib.Core.Bool.{false, not, true≢false}
use lib.Dec.{T}
use lib.Ieee.{Float, nan, inf, fin, ne, eq, is_nan}
use Rattle.replay.proofs.bits.bits_of.Goals as goal

no_nan : (x : Float) → ne x x ≡ false → T (not (is_nan x))
unfolding is_nan ne eq
no_nan nan e = absurd (true≢false e)
no_nan (inf s) e = tt
no_nan (fin s m d) e = tt

pub float_to_bits-result : goal.float_to_bits-result
float_to_bits-result c = no_nan c.args.x c.if-x.false
