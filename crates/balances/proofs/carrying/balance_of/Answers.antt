-- `balances::carrying::balance_of` carries the first year's amount, which is in range, over the years after it.
use Rattle.std.proofs.Common.{◌≡◌, ℕ, ◌+◌, ◌-◌, ◌≤◌, sym, ◌∙◌, arith}
use lib.ListN.{get_or}
use lib.IntN.{pos}
use mir.Syntax.{w64}
use mir.Val.{to_z, of_z}
use Rattle.money.proofs.Pounds.{wire}
use Rattle.balances.proofs.Ranges.{amount_small}
use Rattle.balances.proofs.Years.{starts}
use Rattle.balances.proofs.carrying.balance_of.Goals as goal

all_years : (n : ℕ) → 1 ≤ n → 0 + (n - 1) + 1 ≡ n
all_years n h = omega arith

pub carried-requires : goal.carried-requires
carried-requires c =
    let a = c.args in
    let first = get_or a.amounts 0 (pos 0) in
    let first_is : to_z w64 (of_z w64 first) ≡ first = wire first (omega arith) in (
      omega arith,
      rw (all_years a.n c.requires.0) c.requires.2,
      rw first_is (omega (arith, amount_small a.index a.amounts a.n c.requires.2 0 c.requires.0)),
      first_is ∙ sym (starts a.index a.amounts),
    )
