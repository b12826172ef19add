-- What making a period of two days checks and gives, and the gap of two: rules 12.4, 19.2 and 19.3.
use Rattle.std.specs.Prelude.{Bool, cond, not, ◌&&◌, [], ◌∷◌, ◌≡◌, ℕ, nat_abs, Result}
use Rattle.refusals.specs.Refusals.{Rows, accepted, answer_number, first_applicable, given_or}
use Rattle.refusals.specs.declared.Refusal.{Refusal}
use Rattle.refusals.specs.declared.Refusal.TheVariants.{BadPeriod}
use Rattle.settlement.specs.Gap.{good_period, day_sum, hundredths}
use Rattle.settlement.specs.Calls.{gap_holds}
use Rattle.median_period.specs.declared.MedianPeriod.{MedianPeriod}
use Rattle.median_period.specs.Medians.{days_of, good_medians, medians_of, no_medians}

-- ---- a period is made of two days
abbrev pub make_rows : ℕ → ℕ → Rows
make_rows first last = (BadPeriod, not (good_period (record { first = first; last = last }))) ∷ []

-- rule 12.3: beside a refusal three zeros
abbrev pub made_period : ℕ → ℕ → MedianPeriod
made_period first last = cond (accepted (make_rows first last)) (medians_of first last) no_medians

-- what `make_period` promises of its result
abbrev pub MakeGives : ℕ → ℕ → Result MedianPeriod Refusal → Type 0
MakeGives first last r = (answer_number r ≡ first_applicable (make_rows first last)) × (given_or no_medians r ≡ made_period first last)

-- ---- the gap of two periods is that of their days
abbrev pub medians_hold : MedianPeriod → MedianPeriod → Bool
medians_hold earlier later = good_medians earlier && (good_medians later && gap_holds (days_of earlier) (days_of later))

abbrev pub medians_gap_rows : MedianPeriod → MedianPeriod → Rows
medians_gap_rows earlier later = (BadPeriod, not (medians_hold earlier later)) ∷ []

abbrev pub medians_gap_given : MedianPeriod → MedianPeriod → ℕ
medians_gap_given earlier later =
    cond (accepted (medians_gap_rows earlier later)) (nat_abs (hundredths (day_sum (days_of earlier)) (day_sum (days_of later)))) 0

-- what `gap_of_medians` promises of its result
abbrev pub MediansGapGives : MedianPeriod → MedianPeriod → Result ℕ Refusal → Type 0
MediansGapGives earlier later r = (answer_number r ≡ first_applicable (medians_gap_rows earlier later)) × (given_or 0 r ≡ medians_gap_given earlier later)
