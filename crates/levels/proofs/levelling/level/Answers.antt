-- The quotient in two parts rounds as the product does, and takes the sign of the sum.
use Rattle.std.proofs.Common.{◌∙◌, sym}
use mir.Facts.{to_z-of_z}
use Rattle.money.proofs.Pounds.{wire}
use Rattle.levels.proofs.Signs.{debit_level, credit_level}
use Rattle.levels.proofs.levelling.level.Goals as goal

pub returns-then-is_negative : goal.returns-then-is_negative
returns-then-is_negative c =
    let a = c.args in
    let r = c.requires in
    let w = to_z-of_z c.ranges.sum in
    wire c.debit.result c.debit.type_inv
    ∙ debit_level a.partial a.sum a.incentive a.pppi r.0 r.1 r.2 r.3 (rw w at c.magnitude.ensures) c.rounded-pounds.ensures (sym (rw w at c.is_negative.ensures) ∙ c.if-is_negative.true) c.debit.ensures

pub returns-else-is_negative : goal.returns-else-is_negative
returns-else-is_negative c =
    let a = c.args in
    let r = c.requires in
    let w = to_z-of_z c.ranges.sum in
    wire c.credit.result c.credit.type_inv
    ∙ credit_level a.partial a.sum a.incentive a.pppi r.0 r.1 r.2 r.3 (rw w at c.magnitude.ensures) c.rounded-pounds.ensures (sym (rw w at c.is_negative.ensures) ∙ c.if-is_negative.false) c.credit.ensures
