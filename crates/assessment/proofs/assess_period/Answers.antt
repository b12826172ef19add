-- All five of the years.
use Rattle.std.proofs.Common.{rules, ◌≡◌, ℕ, subst, length}
use Rattle.balances.specs.Balance.{period_years}
use Rattle.assessment.specs.Steps.{FirstGives}
use Rattle.assessment.proofs.assess_period.Goals as goal

pub returns : goal.returns
returns c =
    let a = c.args in
    let five : length a.years ≡ period_years = search rules in
    subst (λ (n : ℕ). FirstGives a.book a.years a.log n c.assess_first.result) five c.assess_first.ensures
