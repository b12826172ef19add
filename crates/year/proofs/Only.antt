-- The check of a year answers and no second answer fits, and its rows stand in the order of refusals. Assumes nothing.
use mathlib.Core.Path.{◌≡◌, refl, sym, ◌∙◌}
use mathlib.Core.Bool.{true}
use Rattle.refusals.specs.declared.Refusal.{Refusal}
use Rattle.std.specs.Prelude.{Result, ⊤}
use Rattle.refusals.specs.Order.{in_turn, in_order_of}
use Rattle.refusals.specs.Answers.{One}
use Rattle.refusals.proofs.Laws.{same_answer}
use Rattle.refusals.proofs.Cases.{one_answer}
use Rattle.year.specs.declared.Year.{Year}
use Rattle.year.specs.Year.{check_year_rows, CheckYearGives}

pub only_check : (y : Year) (r s : Result ⊤ Refusal) → CheckYearGives y r → CheckYearGives y s → r ≡ s
only_check y r s p q = same_answer r s (p ∙ sym q)

pub one_check : (y : Year) → One (CheckYearGives y)
one_check y = one_answer (check_year_rows y)

pub check_in_turn : (y : Year) → in_order_of in_turn (check_year_rows y) ≡ true
check_in_turn y = refl
