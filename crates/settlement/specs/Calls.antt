-- What each call of settlement checks, in order, and what comes back: rules 9.2 to 9.5 and 12.4.
use Rattle.std.specs.Prelude.{Bool, cond, not, ◌&&◌, [], ◌∷◌, ◌≡◌, ℕ, leb, ltb, ℤ, pos, nat_abs, ◌-ℤ◌, Result}
use Rattle.refusals.specs.Refusals.{Rows, accepted, first_applicable, answer_number, given_or}
use Rattle.refusals.specs.declared.Refusal.{Refusal}
use Rattle.refusals.specs.declared.Refusal.TheVariants.{BadPeriod, TooLarge}
use Rattle.settlement.specs.declared.medians.Period.{Period}
use Rattle.settlement.specs.Gap.{good_period, day_sum, hundredths, good_hundredths}
use Rattle.settlement.specs.Growth.{growth_entries, growth_of, paid_of}

-- ---- the gap of two periods
abbrev pub sums_figure : ℕ → ℕ → ℕ
sums_figure earlier later = cond (good_hundredths (hundredths earlier later)) (nat_abs (hundredths earlier later)) 0

abbrev pub gap_holds : Period → Period → Bool
gap_holds earlier later = good_period earlier && (good_period later && good_hundredths (hundredths (day_sum earlier) (day_sum later)))

abbrev pub gap_rows : Period → Period → Rows
gap_rows earlier later = (BadPeriod, not (gap_holds earlier later)) ∷ []

abbrev pub gap_given : Period → Period → ℕ
gap_given earlier later = cond (accepted (gap_rows earlier later)) (nat_abs (hundredths (day_sum earlier) (day_sum later))) 0

-- what `gap_between` promises of its result
abbrev pub GapGives : Period → Period → Result ℕ Refusal → Type 0
GapGives earlier later r = (answer_number r ≡ first_applicable (gap_rows earlier later)) × (given_or 0 r ≡ gap_given earlier later)

-- ---- growth at n
abbrev pub growth_rows : ℕ → Rows
growth_rows n = (BadPeriod, not (ltb n growth_entries)) ∷ []

abbrev pub growth_given : ℕ → ℕ
growth_given n = cond (accepted (growth_rows n)) (growth_of n) 0

-- what `growth_at` promises of its result
abbrev pub GrowthGives : ℕ → Result ℕ Refusal → Type 0
GrowthGives n r = (answer_number r ≡ first_applicable (growth_rows n)) × (given_or 0 r ≡ growth_given n)

-- ---- a payment of an amount over n hundredths of a year
abbrev pub too_large : ℤ → Bool
too_large amount = not (leb (nat_abs amount) 10000000000)

abbrev pub pay_rows : ℤ → ℕ → Rows
pay_rows amount n = (BadPeriod, not (ltb n growth_entries)) ∷ (TooLarge, too_large amount) ∷ []

abbrev pub pay_given : ℤ → ℕ → ℤ
pay_given amount n = cond (accepted (pay_rows amount n)) (paid_of amount n) (pos 0)

-- what `pay` promises of its result
abbrev pub PayGives : ℤ → ℕ → Result ℤ Refusal → Type 0
PayGives amount n r = (answer_number r ≡ first_applicable (pay_rows amount n)) × (given_or (pos 0) r ≡ pay_given amount n)

-- ---- equation 1: an adjustment measured over one period, paid in a later one
abbrev pub settle_rows : ℤ → Period → Period → Rows
settle_rows adjustment measured settled = (BadPeriod, not (gap_holds measured settled)) ∷ (TooLarge, too_large adjustment) ∷ []

abbrev pub settle_given : ℤ → Period → Period → ℤ
settle_given adjustment measured settled =
    cond (accepted (settle_rows adjustment measured settled)) (paid_of adjustment (nat_abs (hundredths (day_sum measured) (day_sum settled)))) (pos 0)

-- what `settle` promises of its result
abbrev pub SettleGives : ℤ → Period → Period → Result ℤ Refusal → Type 0
SettleGives adjustment measured settled r =
    (answer_number r ≡ first_applicable (settle_rows adjustment measured settled)) × (given_or (pos 0) r ≡ settle_given adjustment measured settled)

-- ---- equation 2: the final payment less the provisional one, over the later gap
abbrev pub reconcile_rows : ℤ → ℤ → Period → Period → Rows
reconcile_rows final provisional settled reconciled = settle_rows (final -ℤ provisional) settled reconciled

abbrev pub reconcile_given : ℤ → ℤ → Period → Period → ℤ
reconcile_given final provisional settled reconciled = settle_given (final -ℤ provisional) settled reconciled

-- what `reconcile` promises of its result
abbrev pub ReconcileGives : ℤ → ℤ → Period → Period → Result ℤ Refusal → Type 0
ReconcileGives final provisional settled reconciled r =
    (answer_number r ≡ first_applicable (reconcile_rows final provisional settled reconciled)) × (given_or (pos 0) r ≡ reconcile_given final provisional settled reconciled)
