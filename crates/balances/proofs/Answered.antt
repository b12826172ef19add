-- What an assessment over n years that is answered comes to: rules 8.2 and 8.3. Assumes nothing.
use mathlib.Core.Path.{◌≡◌, sym, ◌∙◌, subst}
use Prim.Native.Nat.{ℕ}
use Rattle.lists.proofs.Tests.{not_no}
use Rattle.std.specs.Prelude.{Result}
use Rattle.refusals.specs.Refusals.{first_applicable, answer_number, given_or}
use Rattle.refusals.specs.declared.Refusal.{Refusal}
use Rattle.refusals.proofs.Laws.{all_clear, beside_accepted}
use Rattle.balances.specs.declared.assessing.Yearly.{Yearly}
use Rattle.balances.specs.declared.assessing.Figures.{Figures}
use Rattle.balances.specs.NetPresent.{NearLicence}
use Rattle.balances.specs.Assessment.{ARN, CLN, FLN, WPAN, assessable, figures_in, no_figures, assess_rows_of, YearsGives}
use Rattle.balances.specs.Licence.{CFA}
use Rattle.balances.proofs.Licence.{adjustment_is_CFA}
use Rattle.balances.proofs.NetPresent.{assessed_near}

module _ (y : Yearly) (n : ℕ) (r : Result Figures Refusal) (g : YearsGives y n r) (z : answer_number r ≡ 0) where
  none : first_applicable (assess_rows_of y n) ≡ 0
  none = sym g.0 ∙ z

  -- its figures are those of its balances
  pub answered_figures : given_or no_figures r ≡ figures_in y n
  answered_figures = beside_accepted (assess_rows_of y n) (answer_number r) (given_or no_figures r) (figures_in y n) no_figures g.0 g.1 z

  -- each balance is near its net present value
  pub answered_near : NearLicence y n
  answered_near = assessed_near y n (not_no (assessable y n) (all_clear (assess_rows_of y n) none).0)

  -- its adjustment is SC3 4's by its four cases
  pub answered_CFA : (let f = given_or no_figures r in f.adjustment ≡ CFA f.revenue f.cap f.floor f.wpa)
  answered_CFA =
      subst (λ (f : Figures). f.adjustment ≡ CFA f.revenue f.cap f.floor f.wpa) (sym answered_figures)
      (adjustment_is_CFA (ARN y n) (CLN y n) (FLN y n) (WPAN y n) (all_clear (assess_rows_of y n) none).1.1.0)
