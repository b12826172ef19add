-- `balances::assessing::figures_of`: the differences are small, so that nothing is saturated.
use Rattle.std.proofs.Common.{◌≡◌, ◌≤◌, ap, ◌∙◌, arith}
use lib.IntN.{nat_abs, ◌-ℤ◌}
use mir.Facts.{to_z-of_z}
use Rattle.money.specs.Pounds.{saturated}
use Rattle.money.proofs.Pounds.{wire, abs_sub, saturated_small}
use Rattle.balances.specs.Balance.{most_balance}
use Rattle.balances.specs.Assessment.{held_between}
use Rattle.balances.proofs.Answers.{same_less, between_small}
use Rattle.balances.proofs.assessing.figures_of.Goals as goal

pub returns : goal.returns
returns c =
    let a = c.args in
    let held = c.held_between-held.result in
    let less = c.minus.result in
    let held_is : held ≡ held_between a.revenue a.floor a.cap = rw (to_z-of_z c.ranges.revenue, to_z-of_z c.ranges.floor, to_z-of_z c.ranges.cap) at c.held_between-held.ensures in
    let held_most : nat_abs held ≤ most_balance = rw held_is (between_small a.revenue a.floor a.cap most_balance c.requires.0 c.requires.2 c.requires.1) in
    let less_is : less ≡ held -ℤ a.revenue =
    c.minus.ensures
    ∙ ap saturated (same_less (wire held c.held_between-held.type_inv) (to_z-of_z c.ranges.revenue))
    ∙ saturated_small (held -ℤ a.revenue) (omega (arith, abs_sub held a.revenue)) in
    let netted_is : c.minus-2.result ≡ less -ℤ a.paid =
    c.minus-2.ensures
    ∙ ap saturated (same_less (wire less c.minus.type_inv) (to_z-of_z c.ranges.paid))
    ∙ saturated_small (less -ℤ a.paid) (rw less_is (omega (arith, abs_sub held a.revenue, abs_sub (held -ℤ a.revenue) a.paid))) in
    rw (
      to_z-of_z c.ranges.revenue,
      to_z-of_z c.ranges.cap,
      to_z-of_z c.ranges.floor,
      to_z-of_z c.ranges.paid,
      wire held c.held_between-held.type_inv,
      wire c.minus-2.result c.minus-2.type_inv,
      netted_is,
      less_is,
      held_is,
    )
