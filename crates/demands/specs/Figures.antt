-- The figures of the rules, section 13, as what the calls give.
use Rattle.std.specs.Prelude.{◌≡◌, Bool, true, false, List, [], ◌∷◌, ◌++◌, map, ℕ, ◌+◌, ◌*◌, ℤ, pos, neg_ℤ, Some, Result, Ok, Err}
use Rattle.refusals.specs.declared.Refusal.{Refusal}
use Rattle.refusals.specs.declared.RefusedAt.{RefusedAt}
use Rattle.refusals.specs.Refusals.{answer_number, given_or, why_alone, part_number}
use Rattle.refusals.specs.declared.Refusal.TheVariants.{TooLarge, BadPeriod}
use Rattle.money.specs.Rounding.{round_div}
use Rattle.calendar.specs.Years.{year_end}
use Rattle.entries.specs.declared.Entry.{Entry}
use Rattle.outage.specs.declared.Log.{Log}
use Rattle.outage.specs.Log.{log_holding, last_regime_end}
use Rattle.year.specs.declared.Line.{Line}
use Rattle.year.specs.declared.Year.{Year}
use Rattle.year.specs.Year.{fresh_year}
use Rattle.levels.specs.declared.Book.{Book}
use Rattle.levels.specs.declared.levelling.Levels.{Levels}
use Rattle.levels.specs.Book.{published_book}
use Rattle.levels.specs.Availability.{TargetGives}
use Rattle.levels.specs.Levels.{LevelsGives}
use Rattle.revenue.specs.Revenue.{pounds_of}
use Rattle.balances.specs.declared.assessing.Yearly.{Yearly}
use Rattle.balances.specs.declared.assessing.Figures.{Figures}
use Rattle.balances.specs.Balance.{carry_of}
use Rattle.balances.specs.Assessment.{AssessGives}
use Rattle.settlement.specs.declared.medians.Period.{Period}
use Rattle.settlement.specs.Gap.{good_period, day_sum}
use Rattle.settlement.specs.Calls.{GapGives, GrowthGives, PayGives}
use Rattle.return_format.specs.Form.{left_out}
use Rattle.return_reading.specs.Reading.{ReturnGives}
use Rattle.demands.specs.Given.{assess_figures}

-- the whole cable out for some minutes from a start on
abbrev pub outage : ℕ → ℕ → Entry
outage start minutes = record { start = start; end = start + minutes; mw = 1000; cause = 1 }

abbrev pub out_for : ℕ → ℕ → Log
out_for start minutes = log_holding last_regime_end (outage start minutes ∷ [])

abbrev pub no_outage : Log
no_outage = log_holding last_regime_end []

-- a whole year with an AIC and a PPPI
abbrev pub whole_year : ℕ → ℕ → Year
whole_year aic pppi = record {
  number = 1;
  pppi = pppi;
  rate = 100000;
  aic = aic;
  pyc = 10000;
  pyf = 10000;
  lines = fresh_year.lines;
  line_count = 0;
  exceptional = false;
  wpa = pos 0;
  log = fresh_year.log;
}

-- the published book but for its preliminary cap
abbrev pub book_with : ℕ → Book
book_with pcl = record {
  regime_end = published_book.regime_end;
  first_target = published_book.first_target;
  last_target = published_book.last_target;
  pcl = pos pcl;
  pfl = published_book.pfl;
  pcac = published_book.pcac;
  pcaf = published_book.pcaf;
  orac = published_book.orac;
  oraf = published_book.oraf;
  miss_factor = published_book.miss_factor;
}

-- a line of so many euros
abbrev pub euro_line : ℤ → Line
euro_line amount = record { kind = 10; currency = 1; amount = amount }

-- rule 13.9: a return with its four required fields alone: index, rate and AIC of one
abbrev pub short_return : ℕ → List ℕ
short_return number =
    1 ∷ 0 ∷ 1 ∷ number ∷ 2 ∷ 0 ∷ 4 ∷ 0 ∷ 0 ∷ 39 ∷ 16 ∷ 3 ∷ 0 ∷ 4 ∷ 0 ∷ 1 ∷ 134 ∷ 160 ∷ 4 ∷ 0 ∷ 2 ∷ 39 ∷ 16 ∷ []

-- the same with both factors written out, in two bytes each
abbrev pub with_factors : ℕ → ℕ → ℕ → List ℕ
with_factors number high low = short_return number ++ (5 ∷ 0 ∷ 4 ∷ high ∷ low ∷ high ∷ low ∷ [])

-- rule 13.4: five years alike but for W, which the second alone has
abbrev pub five : {A : Type 0} → A → List A
five a = a ∷ a ∷ a ∷ a ∷ a ∷ []

abbrev pub five_years : Yearly
five_years = record {
  index = five 10000;
  revenue = five (pos 1000000);
  cap = five (pos 900000);
  floor = five (pos 500000);
  wpa = pos 0 ∷ neg_ℤ (pos 100000) ∷ pos 0 ∷ pos 0 ∷ pos 0 ∷ [];
}

pub record FiveFigures (r : Result Figures Refusal) : Type 0 where
  pub accepted : answer_number r ≡ 0
  -- A
  pub revenue : (assess_figures r).revenue ≡ pos 5403349
  -- C
  pub cap : (assess_figures r).cap ≡ pos 4863014
  -- W
  pub wpa : (assess_figures r).wpa ≡ neg_ℤ (pos 112098)
  -- the adjustment
  pub adjustment : (assess_figures r).adjustment ≡ neg_ℤ (pos 428237)

pub record MarkedFigures : Type 0 where
  -- rule 13.1: year 3, with so many minutes lost from its first on, meets its target
  pub met : (r : Result Bool Refusal) → TargetGives published_book (out_for 1009440 104832) 3 r → r ≡ Ok true
  -- a minute more, and it does not
  pub missed : (r : Result Bool Refusal) → TargetGives published_book (out_for 1009440 104833) 3 r → r ≡ Ok false
  -- year 2 is a leap year and has a day more to lose
  pub leap : (r : Result Bool Refusal) → TargetGives published_book (out_for 482400 106272) 2 r → r ≡ Ok true
  -- rule 13.2: cap and floor of the published book
  pub cap_and_floor : (r : Result Levels Refusal) → LevelsGives published_book (whole_year 10200 11000) no_outage r → r ≡ Ok (record { cap = pos 94030783; floor = pos 53688049 })
  -- a cap that a rounding on the way would take a pound from
  pub rounded_once : (r : Result Levels Refusal) → LevelsGives (book_with 83806406) (whole_year 10200 11000) no_outage r → r ≡ Ok (record { cap = pos 94030788; floor = pos 53688049 })
  -- 10^9 and 48 hundredths are 10^9
  pub cap_most : (r : Result Levels Refusal) → LevelsGives (book_with 961538462) (whole_year 10000 10400) no_outage r → r ≡ Ok (record { cap = pos 1000000000; floor = pos 50759610 })
  -- 10^9 and 61 hundredths are past it
  pub cap_past : (r : Result Levels Refusal) → LevelsGives (book_with 970873787) (whole_year 10300 10000) no_outage r → r ≡ Err TooLarge
  -- 10^9 and a half are 10^9, the even neighbour
  pub cap_half : (r : Result Levels Refusal) → LevelsGives (book_with 666666667) (whole_year 15000 10000) no_outage r → r ≡ Ok (record { cap = pos 1000000000; floor = pos 48807317 })
  -- rule 13.3: halves of either sign. No call carries alone, so this is of what every balance is carried by
  pub carry : carry_of (pos 1250) 10000 10000 ≡ pos 1298
  pub carry_back : carry_of (neg_ℤ (pos 1250)) 10000 10000 ≡ neg_ℤ (pos 1298)
  -- and to another index
  pub carry_index : carry_of (pos 50000000) 10000 10200 ≡ pos 52978800
  pub five_years_law : (r : Result Figures Refusal) → AssessGives five_years r → FiveFigures r
  -- rule 13.5: the first entry, and those of one, two and three years
  pub growth_0 : (r : Result ℕ Refusal) → GrowthGives 0 r → r ≡ Ok 1000000000
  pub growth_100 : (r : Result ℕ Refusal) → GrowthGives 100 r → r ≡ Ok 1038800000
  pub growth_200 : (r : Result ℕ Refusal) → GrowthGives 200 r → r ≡ Ok 1079105440
  pub growth_300 : (r : Result ℕ Refusal) → GrowthGives 300 r → r ≡ Ok 1120974731
  -- rule 13.6: 2023 against April 2024 to March 2025
  pub gap_years : (r : Result ℕ Refusal) → GapGives (record { first = 44927; last = 45291 }) (record { first = 45383; last = 45747 }) r → r ≡ Ok 125
  -- the greatest difference of day sums that is settled
  pub gap_most : (earlier later : Period) → good_period earlier ≡ true → good_period later ≡ true → day_sum later ≡ day_sum earlier + 3648
      → (r : Result ℕ Refusal) → GapGives earlier later r → r ≡ Ok 499
  -- a day more, and it is refused
  pub gap_past : (earlier later : Period) → good_period earlier ≡ true → good_period later ≡ true → day_sum later ≡ day_sum earlier + 3649
      → (r : Result ℕ Refusal) → GapGives earlier later r → r ≡ Err BadPeriod
  -- rule 13.7: a payment back, rounded toward zero
  pub pays_back : (r : Result ℤ Refusal) → PayGives (neg_ℤ (pos 10000001)) 100 r → r ≡ Ok (neg_ℤ (pos 10388001))
  -- rule 13.8: euro lines that are halves in pounds, of either sign. No call converts alone, so this is of what every line is converted by
  pub euros : map (λ (z : ℤ). pounds_of 50000 (euro_line z)) (pos 1 ∷ pos 3 ∷ pos 5 ∷ []) ≡ pos 0 ∷ pos 2 ∷ pos 2 ∷ []
  pub euros_back : map (λ (z : ℤ). pounds_of 50000 (euro_line z)) (neg_ℤ (pos 1) ∷ neg_ℤ (pos 3) ∷ neg_ℤ (pos 5) ∷ []) ≡ pos 0 ∷ neg_ℤ (pos 2) ∷ neg_ℤ (pos 2) ∷ []
  -- rule 13.9: year 1 has 335 days, and its factors are 335 of 365, to nearest
  pub first_days : year_end 1 last_regime_end ≡ 335 * 1440
  pub part_year : left_out 1 ≡ Some (round_div (335 * 10000) 365, round_div (335 * 10000) 365)
  -- what a return means that leaves them out, in years 1, 2 and 24; in year 25 it is none
  pub first_left_out : (r : Result Year RefusedAt) → ReturnGives (short_return 1) r → (answer_number (why_alone r) ≡ 0) × ((given_or fresh_year (why_alone r)).pyc ≡ 9178) × ((given_or fresh_year (why_alone r)).pyf ≡ 9178)
  pub second_left_out : (r : Result Year RefusedAt) → ReturnGives (short_return 2) r → (answer_number (why_alone r) ≡ 0) × ((given_or fresh_year (why_alone r)).pyc ≡ 10000) × ((given_or fresh_year (why_alone r)).pyf ≡ 10000)
  pub later_left_out : (r : Result Year RefusedAt) → ReturnGives (short_return 24) r → (answer_number (why_alone r) ≡ 0) × ((given_or fresh_year (why_alone r)).pyc ≡ 10000) × ((given_or fresh_year (why_alone r)).pyf ≡ 10000)
  pub last_left_out : (r : Result Year RefusedAt) → ReturnGives (short_return 25) r → (answer_number (why_alone r) ≡ 13) × (part_number r ≡ 23)
  -- written out, 9,178 (35 and 218) is refused in year 1 and 10,000 (39 and 16) taken; year 25 takes both
  pub first_default : (r : Result Year RefusedAt) → ReturnGives (with_factors 1 35 218) r → (answer_number (why_alone r) ≡ 13) × (part_number r ≡ 23)
  pub first_whole : (r : Result Year RefusedAt) → ReturnGives (with_factors 1 39 16) r → (answer_number (why_alone r) ≡ 0) × ((given_or fresh_year (why_alone r)).pyc ≡ 10000) × ((given_or fresh_year (why_alone r)).pyf ≡ 10000)
  pub last_part : (r : Result Year RefusedAt) → ReturnGives (with_factors 25 35 218) r → (answer_number (why_alone r) ≡ 0) × ((given_or fresh_year (why_alone r)).pyc ≡ 9178) × ((given_or fresh_year (why_alone r)).pyf ≡ 9178)
  pub last_whole : (r : Result Year RefusedAt) → ReturnGives (with_factors 25 39 16) r → (answer_number (why_alone r) ≡ 0) × ((given_or fresh_year (why_alone r)).pyc ≡ 10000) × ((given_or fresh_year (why_alone r)).pyf ≡ 10000)
