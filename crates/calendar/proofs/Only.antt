-- `year_minutes` answers and no second answer fits, and its rows stand in the order of refusals. Assumes nothing.
use mathlib.Core.Path.{◌≡◌, refl, sym, ◌∙◌}
use mathlib.Core.Bool.{true}
use Prim.Native.Nat.{ℕ}
use Rattle.std.specs.Prelude.{Result}
use Rattle.refusals.specs.declared.Refusal.{Refusal}
use Rattle.refusals.specs.Order.{in_turn, in_order_of}
use Rattle.refusals.specs.Answers.{One}
use Rattle.refusals.proofs.Cases.{same_case, one_case}
use Rattle.calendar.specs.declared.YearMinutes.{YearMinutes}
use Rattle.calendar.specs.Years.{minutes_of, no_minutes, minutes_rows, MinutesGives}

pub only_minutes : (year regime_end : ℕ) (r s : Result YearMinutes Refusal) → MinutesGives year regime_end r → MinutesGives year regime_end s → r ≡ s
only_minutes year regime_end r s p q = same_case no_minutes r s (p.0 ∙ sym q.0) (p.1 ∙ sym q.1)

pub one_minutes : (year regime_end : ℕ) → One (MinutesGives year regime_end)
one_minutes year regime_end = one_case no_minutes (minutes_rows year) (minutes_of year regime_end)

-- the rows stand in the order of the refusals
pub in_turn_law : (year : ℕ) → in_order_of in_turn (minutes_rows year) ≡ true
in_turn_law year = refl
