-- `balances::assessing::assess_years`: what four balances give is what the call gives.
use Rattle.std.proofs.Common.{◌≡◌, ℕ, List, true, sym, ◌∙◌, subst}
use lib.IntN.{ℤ}
use Rattle.std.specs.Prelude.{Option}
use Rattle.balances.specs.Balance.{good_amounts}
use Rattle.balances.specs.Steps.{balance_of, Bounded}
use Rattle.balances.specs.Assessment.{assessable}
use Rattle.balances.proofs.Ranges.{CountSays, yearly_says}
use Rattle.balances.proofs.Answers.{balance_bounded, found_is}
use Rattle.balances.proofs.assessing.assess_years.Goals as goal

bounded : (index : List ℕ) (amounts : List ℤ) (n : ℕ) (b : Option ℤ) → CountSays n → good_amounts index amounts n ≡ true → b ≡ balance_of index amounts n → Bounded b
bounded index amounts n b k g e = subst Bounded (sym e) (balance_bounded index amounts n k.some g)

pub found-requires : goal.found-requires
found-requires c =
    let y = c.args.y in
    let n = c.args.n in
    let good : assessable y n ≡ true = sym c.can_be_assessed.ensures ∙ c.if-not-can_be_assessed.false in
    let s = yearly_says y n good in (
      bounded y.index y.revenue n c.balance_of.result s.count s.revenue c.balance_of.ensures,
      bounded y.index y.cap n c.balance_of-2.result s.count s.cap c.balance_of-2.ensures,
      bounded y.index y.floor n c.balance_of-3.result s.count s.floor c.balance_of-3.ensures,
      bounded y.index y.wpa n c.balance_of-4.result s.count s.wpa c.balance_of-4.ensures,
    )

pub returns : goal.returns
returns c =
    let good : assessable c.args.y c.args.n ≡ true = sym c.can_be_assessed.ensures ∙ c.if-not-can_be_assessed.false in
    found_is c.args.y c.args.n good c.found.result c.balance_of.result c.balance_of-2.result c.balance_of-3.result c.balance_of-4.result
    c.balance_of.ensures c.balance_of-2.ensures c.balance_of-3.ensures c.balance_of-4.ensures c.found.ensures
