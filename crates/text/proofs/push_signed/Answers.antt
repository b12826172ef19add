-- Below zero the minus is pushed and then the magnitude.
use Rattle.std.proofs.Common.{◌≡◌, [], ◌∷◌, true, pos, nat_abs}
use lib.Signed.{lt_z}
use mir.Facts.{to_z-of_z}
use Rattle.text.specs.Text.{decimal}
use Rattle.text.proofs.Laws.{then, signed_below}
use Rattle.text.proofs.push_signed.Goals as goal

pub returns-then-z-lt0 : goal.returns-then-z-lt0
returns-then-z-lt0 c =
    let z = c.args.z in
    let below : lt_z z (pos 0) ≡ true = rw (to_z-of_z c.ranges.z) at c.if-z-lt0.true in
    let is : c.unsigned_abs.result ≡ nat_abs z = rw (to_z-of_z c.ranges.z) at c.unsigned_abs.ensures.value in
    rw (signed_below z below, ← is) (then c.args.t (45 ∷ []) (decimal c.unsigned_abs.result) c.push.ensures c.push_decimal.ensures)
