-- `balances::carrying::next_balance`: what is carried on, with the year's amount.
use Rattle.std.proofs.Common.{◌≡◌, ◌+◌, sym, ap, ◌∙◌, arith}
use lib.ListN.{get_or}
use lib.IntN.{ℤ, pos, ◌+ℤ◌}
use mir.Facts.{to_z-of_z}
use Rattle.money.proofs.Pounds.{wire, abs_add, saturated_small}
use Rattle.balances.proofs.Ranges.{index_good, index_low, index_high, amount_small}
use Rattle.balances.proofs.Years.{after_next}
use Rattle.balances.proofs.carrying.next_balance.Goals as goal

pub carry-requires : goal.carry-requires
carry-requires c =
    let a = c.args in
    let p = c.requires in
    let before = index_good a.index a.amounts (a.at + 2) p.1 a.at (omega arith) in
    let now = index_good a.index a.amounts (a.at + 2) p.1 (a.at + 1) (omega arith) in
    (rw (to_z-of_z c.ranges.balance) p.2, index_low _ before, index_high _ before, index_high _ now)

pub returns : goal.returns
returns c =
    let a = c.args in
    let p = c.requires in
    let x = get_or a.amounts (a.at + 1) (pos 0) in
    let brought = c.carry.result in
    let small = amount_small a.index a.amounts (a.at + 2) p.1 (a.at + 1) (omega arith) in
    let sum : c.plus.result ≡ brought +ℤ x =
    (rw (wire brought c.carry.type_inv, wire x (omega arith)) at c.plus.ensures)
    ∙ saturated_small (brought +ℤ x) (omega (arith, abs_add brought x, c.carry.ensures.1)) in
    wire c.plus.result c.plus.type_inv
    ∙ sum
    ∙ ap (λ (b : ℤ). b +ℤ x) (rw (to_z-of_z c.ranges.balance, p.3) at c.carry.ensures.0)
    ∙ sym (after_next a.index a.amounts a.at)
