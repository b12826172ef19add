-- Each call answers and no second answer fits, and its rows stand in the order of refusals; a period of two days is exact. Assumes nothing.
use mathlib.Core.Path.{◌≡◌, refl, sym, ◌∙◌}
use mathlib.Core.Bool.{true}
use Prim.Native.Nat.{ℕ}
use lib.IntN.{nat_abs}
use Rattle.std.specs.Prelude.{Result}
use Rattle.refusals.specs.Order.{in_turn, in_order_of}
use Rattle.refusals.specs.Answers.{One}
use Rattle.refusals.specs.declared.Refusal.{Refusal}
use Rattle.refusals.proofs.Cases.{same_case, one_case}
use Rattle.settlement.specs.Gap.{day_sum, hundredths}
use Rattle.median_period.specs.declared.MedianPeriod.{MedianPeriod}
use Rattle.median_period.specs.Medians.{days_of, medians_of, no_medians}
use Rattle.median_period.specs.Calls.{make_rows, MakeGives, medians_gap_rows, MediansGapGives}

-- ---- a period is made
pub only_make : (first last : ℕ) (r s : Result MedianPeriod Refusal) → MakeGives first last r → MakeGives first last s → r ≡ s
only_make first last r s a b = same_case no_medians r s (a.0 ∙ sym b.0) (a.1 ∙ sym b.1)

pub one_make : (first last : ℕ) → One (MakeGives first last)
one_make first last = one_case no_medians (make_rows first last) (medians_of first last)

pub make_in_turn : (first last : ℕ) → in_order_of in_turn (make_rows first last) ≡ true
make_in_turn first last = refl

-- ---- the gap of two
pub only_medians_gap : (earlier later : MedianPeriod) (r s : Result ℕ Refusal) → MediansGapGives earlier later r → MediansGapGives earlier later s → r ≡ s
only_medians_gap earlier later r s a b = same_case 0 r s (a.0 ∙ sym b.0) (a.1 ∙ sym b.1)

pub one_medians_gap : (earlier later : MedianPeriod) → One (MediansGapGives earlier later)
one_medians_gap earlier later = one_case 0 (medians_gap_rows earlier later) (nat_abs (hundredths (day_sum (days_of earlier)) (day_sum (days_of later))))

pub medians_gap_in_turn : (earlier later : MedianPeriod) → in_order_of in_turn (medians_gap_rows earlier later) ≡ true
medians_gap_in_turn earlier later = refl
