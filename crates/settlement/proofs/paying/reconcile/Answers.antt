-- `settlement::paying::reconcile`: a difference that does not fit is too large to settle.
use Rattle.std.proofs.Common.{◌≡◌, ap, ◌∙◌}
use lib.IntN.{ℤ, ◌-ℤ◌}
use mir.Facts.{to_z-of_z}
use mir.Syntax.{w64}
use mir.Val.{to_z, of_z}
use Rattle.refusals.specs.Refusals.{first_applicable}
use Rattle.money.specs.Pounds.{saturated}
use Rattle.money.proofs.Pounds.{wire}
use Rattle.settlement.specs.Calls.{settle_rows, settle_given}
use Rattle.settlement.proofs.Amounts.{saturated_rows, saturated_given}
use Rattle.settlement.proofs.paying.reconcile.Goals as goal

pub returns : goal.returns
returns c =
    let s = c.args.settled in
    let r = c.args.reconciled in
    let z = c.args.last -ℤ c.args.provisional in
    let difference : to_z w64 (of_z w64 c.minus.result) ≡ saturated z = wire c.minus.result c.minus.type_inv
    ∙ c.minus.ensures
    ∙ rw (to_z-of_z c.ranges.last, to_z-of_z c.ranges.provisional) in (
      c.settle.ensures.0 ∙ ap (λ (x : ℤ). first_applicable (settle_rows x s r)) difference ∙ saturated_rows z s r,
      c.settle.ensures.1 ∙ ap (λ (x : ℤ). settle_given x s r) difference ∙ saturated_given z s r,
    )
