-- `balances::carrying::carried`: the next balance, and those after it.
use Rattle.std.proofs.Common.{◌≡◌, ℕ, ◌+◌, ◌-◌, ◌^◌, ◌<◌, Bool, leb, sym, ap, ◌∙◌, arith}
use borrow.Author.Tests.{leb-true}
use lib.IntN.{ℤ, nat_abs}
use lib.Signed.{mag}
use mir.Facts.{to_z-of_z}
use mir.Syntax.{w64}
use mir.Val.{to_z, of_z}
use Rattle.std.specs.Prelude.{Some}
use Rattle.money.proofs.Pounds.{wire}
use Rattle.balances.specs.Balance.{most_balance}
use Rattle.balances.proofs.Ranges.{good_before}
use Rattle.balances.proofs.Years.{carried_done, carried_on, carried_over}
use Rattle.balances.proofs.carrying.+carried.Goals as goal

pub returns-then-left-eq0 : goal.returns-then-left-eq0
returns-then-left-eq0 t c =
    rw (to_z-of_z c.ranges.balance) (ap Some c.requires.3 ∙ carried_done c.args.index c.args.amounts c.args.at c.args.left c.if-left-eq0.true)

pub next_balance-next-requires : goal.next_balance-next-requires
next_balance-next-requires t c =
    let a = c.args in (
      omega (arith, c.if-left-eq0.false),
      good_before a.index a.amounts (a.at + a.left + 1) (a.at + 2) (omega (arith, c.if-left-eq0.false)) c.requires.1,
      rw (to_z-of_z c.ranges.balance) c.requires.2,
      to_z-of_z c.ranges.balance ∙ c.requires.3,
    )

-- the years are as many from the next one on
same_years : (at left : ℕ) → (left ≡ 0 → ⊥) → at + 1 + (left - 1) + 1 ≡ at + left + 1
same_years at left f = omega arith

pub carried-requires : goal.carried-requires
carried-requires t c =
    let a = c.args in
    let next = c.next_balance-next in (
      omega arith,
      (
        omega arith,
        rw (same_years a.at a.left c.if-left-eq0.false) c.requires.1,
        leb-true _ _ (sym c.within.ensures ∙ c.if-not-within.false),
        wire next.result next.type_inv ∙ next.ensures,
      ),
    )

-- the test of the next balance
test_is : (next now : ℤ) (r : Bool) → mag next < 2 ^ 63 → next ≡ now → r ≡ leb (nat_abs (to_z w64 (of_z w64 next))) most_balance → leb (nat_abs now) most_balance ≡ r
test_is next now r fits is e = sym (e ∙ ap (λ (z : ℤ). leb (nat_abs z) most_balance) (wire next fits ∙ is))

pub returns : goal.returns
returns t c =
    let a = c.args in
    let next = c.next_balance-next in
    carried_on a.index a.amounts c.carried.result a.at a.left c.if-left-eq0.false
    (test_is next.result _ c.within.result next.type_inv next.ensures c.within.ensures ∙ c.if-not-within.false)
    c.carried.ensures

pub returns-then-not-within : goal.returns-then-not-within
returns-then-not-within t c =
    let a = c.args in
    let next = c.next_balance-next in
    carried_over a.index a.amounts a.at a.left c.if-left-eq0.false
    (test_is next.result _ c.within.result next.type_inv next.ensures c.within.ensures ∙ c.if-not-within.true)
