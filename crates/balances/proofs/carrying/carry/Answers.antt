-- `balances::carrying::carry` scales by one year's uplift, and what it answers is small.
use Rattle.std.proofs.Common.{◌≡◌, ◌*◌}
use mir.Facts.{to_z-of_z}
use Rattle.money.specs.Rounding.{scaled_of}
use Rattle.money.proofs.Pounds.{wire}
use Rattle.balances.proofs.Years.{carry_is, carry_small}
use Rattle.balances.proofs.carrying.carry.Goals as goal

pub returns : goal.returns
returns c =
    let a = c.args in
    let p = c.requires in
    let is : c.scaled.result ≡ scaled_of a.balance (10388 * a.now) (10000 * a.before) = rw (to_z-of_z c.ranges.balance) at c.scaled.ensures in
    rw (wire c.scaled.result c.scaled.type_inv, is)
    (carry_is a.balance a.before a.now p.0 p.1 p.3, carry_small a.balance a.before a.now p.0 p.1 p.3)
