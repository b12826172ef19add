-- Assessed revenue is answered and no second answer fits, and its rows stand in the order of refusals. Assumes nothing.
use mathlib.Core.Path.{◌≡◌, refl, sym, ◌∙◌}
use mathlib.Core.Bool.{true}
use lib.IntN.{ℤ, pos}
use Rattle.std.specs.Prelude.{Result}
use Rattle.refusals.specs.declared.Refusal.{Refusal}
use Rattle.refusals.specs.Order.{in_turn, in_order_of}
use Rattle.refusals.specs.Answers.{One}
use Rattle.refusals.proofs.Cases.{same_case, one_case}
use Rattle.year.specs.declared.Year.{Year}
use Rattle.revenue.specs.Revenue.{assessed_revenue, revenue_rows, RevenueGives}

pub only_revenue : (y : Year) (r s : Result ℤ Refusal) → RevenueGives y r → RevenueGives y s → r ≡ s
only_revenue y r s p q = same_case (pos 0) r s (p.0 ∙ sym q.0) (p.1 ∙ sym q.1)

pub one_revenue : (y : Year) → One (RevenueGives y)
one_revenue y = one_case (pos 0) (revenue_rows y) (assessed_revenue y)

pub revenue_in_turn : (y : Year) → in_order_of in_turn (revenue_rows y) ≡ true
revenue_in_turn y = refl
