-- An assessment is answered and no second answer fits, and its rows stand in the order of refusals. Assumes nothing.
use mathlib.Core.Path.{◌≡◌, refl, sym, ◌∙◌}
use mathlib.Core.Bool.{true}
use Prim.Native.Nat.{ℕ}
use Rattle.std.specs.Prelude.{Result}
use Rattle.refusals.specs.declared.Refusal.{Refusal}
use Rattle.refusals.specs.Order.{in_turn, in_order_of}
use Rattle.refusals.specs.Answers.{One}
use Rattle.refusals.proofs.Cases.{same_case, one_case}
use Rattle.balances.specs.declared.assessing.Yearly.{Yearly}
use Rattle.balances.specs.declared.assessing.Figures.{Figures}
use Rattle.balances.specs.Balance.{period_years}
use Rattle.balances.specs.Assessment.{figures_in, no_figures, assess_rows_of, assess_rows, YearsGives, AssessGives}

-- ---- over n years
pub only_years : (y : Yearly) (n : ℕ) (r s : Result Figures Refusal) → YearsGives y n r → YearsGives y n s → r ≡ s
only_years y n r s p q = same_case no_figures r s (p.0 ∙ sym q.0) (p.1 ∙ sym q.1)

pub one_years : (y : Yearly) (n : ℕ) → One (YearsGives y n)
one_years y n = one_case no_figures (assess_rows_of y n) (figures_in y n)

pub years_in_turn : (y : Yearly) (n : ℕ) → in_order_of in_turn (assess_rows_of y n) ≡ true
years_in_turn y n = refl

-- ---- over the years of a period
pub only_assess : (y : Yearly) (r s : Result Figures Refusal) → AssessGives y r → AssessGives y s → r ≡ s
only_assess y = only_years y period_years

pub one_assess : (y : Yearly) → One (AssessGives y)
one_assess y = one_years y period_years

pub assess_in_turn : (y : Yearly) → in_order_of in_turn (assess_rows y) ≡ true
assess_in_turn y = years_in_turn y period_years
