-- The assessment of a period is answered and no second answer fits, and its rows stand in the order of refusals. Assumes nothing.
use mathlib.Core.Path.{◌≡◌, refl, sym, ◌∙◌}
use mathlib.Core.Bool.{true}
use mathlib.Core.List.{List}
use Prim.Native.Nat.{ℕ}
use Rattle.std.specs.Prelude.{Result}
use Rattle.refusals.specs.declared.Refusal.{Refusal}
use Rattle.refusals.specs.Order.{in_turn, in_order_of}
use Rattle.refusals.specs.Answers.{One}
use Rattle.refusals.proofs.Cases.{same_case, one_case}
use Rattle.outage.specs.declared.Log.{Log}
use Rattle.year.specs.declared.Year.{Year}
use Rattle.levels.specs.declared.Book.{Book}
use Rattle.balances.specs.declared.assessing.Figures.{Figures}
use Rattle.balances.specs.Balance.{period_years}
use Rattle.balances.specs.Assessment.{figures_in, no_figures}
use Rattle.assessment.specs.Period.{yearly_of, period_rows_of, period_rows, PeriodGives}
use Rattle.assessment.specs.Steps.{FirstGives}

-- ---- over the first n years
only_first : (book : Book) (years : List Year) (log : Log) (n : ℕ) (r s : Result Figures Refusal) → FirstGives book years log n r → FirstGives book years log n s → r ≡ s
only_first book years log n r s p q = same_case no_figures r s (p.0 ∙ sym q.0) (p.1 ∙ sym q.1)

one_first : (book : Book) (years : List Year) (log : Log) (n : ℕ) → One (FirstGives book years log n)
one_first book years log n = one_case no_figures (period_rows_of book years log n) (figures_in (yearly_of book years log n) n)

first_in_turn : (book : Book) (years : List Year) (log : Log) (n : ℕ) → in_order_of in_turn (period_rows_of book years log n) ≡ true
first_in_turn book years log n = refl

-- ---- over all of them
pub only_period : (book : Book) (years : List Year) (log : Log) (r s : Result Figures Refusal) → PeriodGives book years log r → PeriodGives book years log s → r ≡ s
only_period book years log = only_first book years log period_years

pub one_period : (book : Book) (years : List Year) (log : Log) → One (PeriodGives book years log)
one_period book years log = one_first book years log period_years

pub period_in_turn : (book : Book) (years : List Year) (log : Log) → in_order_of in_turn (period_rows book years log) ≡ true
period_in_turn book years log = first_in_turn book years log period_years
