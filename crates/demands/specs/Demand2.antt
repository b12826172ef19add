-- Demand 2. Levels, assessed revenue, carried balances, adjustment, settlement and reconciliation equal the published licence formulas and
-- methodology, simplified and rounded only as the rules say. A return that is read and written again gives its own bytes, and a valid
-- year that is written reads back as itself.
-- Each part speaks of results that meet what the calls promise.
use Rattle.std.specs.Prelude.{◌≡◌, true, List, ◌++◌, ◌⊎◌, ℕ, suc, ◌+◌, ◌-◌, ◌*◌, ◌/◌, ◌^◌, ◌≤◌, ◌<◌, leb, length, get_or, take, drop, replicate, [], ℤ, pos, nat_abs, ◌+ℤ◌, ◌-ℤ◌, ◌*ℤ◌, Some, None, Bool, Result, Ok}
use Rattle.std.specs.Float.{binary64}
use Rattle.std.specs.Float.Ieee.{of_int}
use Rattle.lists.specs.Lists.{all}
use Rattle.refusals.specs.declared.Refusal.{Refusal}
use Rattle.refusals.specs.declared.RefusedAt.{RefusedAt}
use Rattle.refusals.specs.Refusals.{answer_number, given_or, why_alone, part_number}
use Rattle.money.specs.Rounding.{on_magnitude, round_z}
use Rattle.calendar.specs.declared.YearMinutes.{YearMinutes}
use Rattle.calendar.specs.Years.{MinutesGives}
use Rattle.outage.specs.declared.Log.{Log}
use Rattle.outage.specs.Log.{slots, most_mw, good_regime_end, last_regime_end, closed_at}
use Rattle.outage.specs.Calls.{empty_log, LostGives}
use Rattle.year.specs.declared.Year.{Year}
use Rattle.year.specs.Year.{fresh_year, line_slots}
use Rattle.levels.specs.declared.Book.{Book}
use Rattle.levels.specs.declared.levelling.Levels.{Levels}
use Rattle.levels.specs.Book.{target_of, published_book}
use Rattle.levels.specs.Availability.{AvailabilityGives, TargetGives}
use Rattle.levels.specs.Levels.{aif_of, LevelsGives}
use Rattle.revenue.specs.Revenue.{GCR, MRC, IAT, RevenueGives}
use Rattle.balances.specs.declared.assessing.Yearly.{Yearly}
use Rattle.balances.specs.declared.assessing.Figures.{Figures}
use Rattle.balances.specs.Balance.{period_years, carry_of, balance_after}
use Rattle.balances.specs.Assessment.{held_between, AssessGives}
use Rattle.balances.specs.Licence.{CFA}
use Rattle.balances.specs.NetPresent.{uplift_over, uplift_under, common_divisor, UF, net_present, exact_balance, FiveUplifts, Near}
use Rattle.assessment.specs.Period.{yearly_of, PeriodGives}
use Rattle.settlement.specs.declared.medians.Period.{Period}
use Rattle.settlement.specs.Gap.{day_sum, hundredths}
use Rattle.settlement.specs.Exact.{NearExact}
use Rattle.settlement.specs.Calls.{GapGives, GrowthGives, PayGives, SettleGives, ReconcileGives}
use Rattle.floats.specs.Floats.{whole_pounds}
use Rattle.median_period.specs.declared.MedianPeriod.{MedianPeriod}
use Rattle.median_period.specs.Medians.{days_of, good_medians, no_medians, medians_of}
use Rattle.median_period.specs.Calls.{MakeGives, MediansGapGives}
use Rattle.median_period.specs.Theorems.{ExactPeriod}
use Rattle.cells.specs.declared.Slot.{Slot}
use Rattle.cells.specs.Cells.{empty_slot}
use Rattle.workbook_cells.specs.declared.reading.CellsRead.{CellsRead}
use Rattle.workbook_cells.specs.Workbook.{exported}
use Rattle.workbook_cells.specs.Calls.{no_cells, ExportGives, ReadCellsGives}
use Rattle.workbook_cells.specs.Theorems.{CellsFit, ReadsBack, ComesOut}
use Rattle.workbook_input.specs.Input.{first_day, last_day, input_years}
use Rattle.workbook_input.specs.Calls.{running_log, yearly_amounts, period_amounts}
use Rattle.workbook_filling.specs.Filling.{FillGives}
use Rattle.codec.specs.Theorems.{Bytes}
use Rattle.codec.specs.Theorems.{is_whole, joined}
use Rattle.codec.specs.Format.{field, ReadAt}
use Rattle.text.specs.declared.Text.{Text}
use Rattle.text.specs.Text.{text_of}
use Rattle.sheet_printout.specs.Dates.{moment_of}
use Rattle.sheet_printout.specs.Printout.{PrintMinuteGives}
use Rattle.sheet_printout.specs.Theorems.{RightDate, SameFigures}
use Rattle.plan.specs.declared.Plan.{Plan}
use Rattle.plan.specs.Plan.{no_plan}
use Rattle.plan_message.specs.Calls.{ReadPlanGives, WritePlanGives}
use Rattle.plan_message.specs.Theorems.{plan_fits, IsPlanOf}
use Rattle.plan_message.specs.Theorems as plans
use Rattle.outage_field.specs.Field.{entry_bytes}
use Rattle.sheet_round_trip.specs.Sheets.{IsSheetOf, IsSheet, longest_sheet}
use Rattle.sheet_round_trip.specs.Sheets as sheets
use Rattle.sheet_reading.specs.Reading.{SheetGives}
use Rattle.sheet_writing.specs.Written.{WriteSheetGives}
use Rattle.return_format.specs.Form.{factors_value, required}
use Rattle.return_format.specs.Return.{most_bytes}
use Rattle.return_round_trip.specs.Flat.{fields_of, Ordered, FactorsWritten, longest, shortest}
use Rattle.return_round_trip.specs.Places.{IsReturnOf, IsReturn, RefusalPlace}
use Rattle.return_reading.specs.Reading.{ReturnGives}
use Rattle.return_writing.specs.Written.{WriteGives}
use Rattle.return_refiling.specs.Refiled.{RefileGives}
use Rattle.demands.specs.Given.{first_figure, end_figure, target_met, cap_figure, floor_figure, assess_figures}

-- ---- what a level is: a sum times three factors in ten-thousandths, exact and rounded once, so within half a pound
pub record IsLevel (level sum : ℤ) (factors : ℕ) : Type 0 where
  pub rounded : level ≡ round_z (sum *ℤ pos factors) 1000000000000
  pub near : 2 * nat_abs (level *ℤ pos 1000000000000 -ℤ sum *ℤ pos factors) ≤ 1000000000000

-- ---- what the figures of an assessment are
-- the balances after five years by rule 8.1, T, and the adjustment
pub record Carried (y : Yearly) (f : Figures) : Type 0 where
  pub revenue : f.revenue ≡ balance_after y.index y.revenue 4
  pub cap : f.cap ≡ balance_after y.index y.cap 4
  pub floor : f.floor ≡ balance_after y.index y.floor 4
  pub wpa : f.wpa ≡ balance_after y.index y.wpa 4
  pub held : f.held ≡ held_between f.revenue f.floor f.cap
  pub adjustment : f.adjustment ≡ f.held -ℤ f.revenue -ℤ f.wpa

-- each within half a pound for each rounding, with the uplifts after it, of the licence's sum of amounts times uplifts
pub record NearSums (y : Yearly) (f : Figures) : Type 0 where
  pub revenue : Near f.revenue y.index y.revenue 4
  pub cap : Near f.cap y.index y.cap 4
  pub floor : Near f.floor y.index y.floor 4
  pub wpa : Near f.wpa y.index y.wpa 4

-- SC3 4 by its four cases
abbrev pub IsCFA : Figures → Type 0
IsCFA f = f.adjustment ≡ CFA f.revenue f.cap f.floor f.wpa

pub record Demand2 : Type 0 where
  -- ---- levels
  -- SC4 18: what is available and what is lost make rated capacity times the year's minutes
  pub availability : (book : Book) (log : Log) (number : ℕ) (r : Result ℕ Refusal) → AvailabilityGives book log number r → answer_number r ≡ 0
      → (y : Result YearMinutes Refusal) → MinutesGives number log.regime_end y → (l : Result ℕ Refusal) → LostGives log (first_figure y) (end_figure y) l
      → given_or 0 r + given_or 0 l ≡ most_mw * (end_figure y - first_figure y)
  -- SC4 12, 16: the target is met where 60 times it is at most the availability
  pub target : (book : Book) (log : Log) (number : ℕ) (r : Result Bool Refusal) → TargetGives book log number r → answer_number r ≡ 0
      → (a : Result ℕ Refusal) → AvailabilityGives book log number a → target_met r ≡ leb (60 * target_of book number) (given_or 0 a)
  -- SC2 4(a): PYC x (PCL + PCAC + ORAC) x AIC x PPPI, rounded once
  pub cap : (book : Book) (y : Year) (log : Log) (r : Result Levels Refusal) → LevelsGives book y log r → answer_number r ≡ 0
      → IsLevel (cap_figure r) (book.pcl +ℤ book.pcac +ℤ book.orac) (y.pyc * y.aic * y.pppi)
  -- SC2 4(b): PYF x (PFL + PCAF + ORAF) x AIF x PPPI, with AIF by what the target is answered
  pub floor : (book : Book) (y : Year) (log : Log) (r : Result Levels Refusal) → LevelsGives book y log r → answer_number r ≡ 0
      → (t : Result Bool Refusal) → TargetGives book log y.number t
      → IsLevel (floor_figure r) (book.pfl +ℤ book.pcaf +ℤ book.oraf) (y.pyf * aif_of (target_met t) y.exceptional book.miss_factor * y.pppi)
  -- ---- assessed revenue: SC5 3 and SC7 27, of the lines that are counted
  pub revenue : (y : Year) (r : Result ℤ Refusal) → RevenueGives y r → answer_number r ≡ 0
      → given_or (pos 0) r
      ≡ GCR y.rate (take y.line_count y.lines) -ℤ MRC y.rate (take y.line_count y.lines) -ℤ IAT y.rate (take y.line_count y.lines)
  -- ---- carried balances
  -- rule 8.1, year by year
  pub starts : (index : List ℕ) (amounts : List ℤ) → balance_after index amounts 0 ≡ get_or amounts 0 (pos 0)
  pub goes_on : (n : ℕ) (index : List ℕ) (amounts : List ℤ)
      → balance_after index amounts (suc n) ≡ carry_of (balance_after index amounts n) (get_or index n 0) (get_or index (suc n) 0) +ℤ get_or amounts (suc n) (pos 0)
  pub carried : (y : Yearly) (r : Result Figures Refusal) → AssessGives y r → answer_number r ≡ 0 → Carried y (assess_figures r)
  -- SC3 9, 11 to 13, 16: without rounding the recursion is the licence's sum of amounts times products of uplifts, over any number of years
  pub exact : (index : List ℕ) (amounts : List ℤ) (n : ℕ) → exact_balance index amounts n ≡ net_present index amounts n
  pub uplifts : (factor : ℕ → ℕ) → FiveUplifts factor
  -- each term has its own uplift: what stands over the common divisor is the year's uplift over its own divisors
  pub each_term : (index : List ℕ) (t n : ℕ) → t ≤ n → UF index t n * uplift_under index t n ≡ uplift_over index t n * common_divisor index n
  -- and of five years the sum is the licence's
  pub five_terms : (index : List ℕ) (amounts : List ℤ)
      → net_present index amounts 4
      ≡ get_or amounts 0 (pos 0) *ℤ pos (UF index 0 4)
      +ℤ get_or amounts 1 (pos 0) *ℤ pos (UF index 1 4)
      +ℤ get_or amounts 2 (pos 0) *ℤ pos (UF index 2 4)
      +ℤ get_or amounts 3 (pos 0) *ℤ pos (UF index 3 4)
      +ℤ get_or amounts 4 (pos 0) *ℤ pos (UF index 4 4)
  -- with rounding each balance is near it
  pub near : (y : Yearly) (r : Result Figures Refusal) → AssessGives y r → answer_number r ≡ 0 → NearSums y (assess_figures r)
  -- ---- the adjustment, of five rows of amounts and of a period, which is assessed as its yearly amounts are
  pub adjustment : (y : Yearly) (r : Result Figures Refusal) → AssessGives y r → answer_number r ≡ 0 → IsCFA (assess_figures r)
  pub period : (book : Book) (years : List Year) (log : Log) (r : Result Figures Refusal) → length years ≡ 5 → PeriodGives book years log r → answer_number r ≡ 0
      → AssessGives (yearly_of book years log period_years) r × IsCFA (assess_figures r)
  -- ---- settlement and reconciliation
  -- rule 9.2: n is that of the two medians, nearer to 200g/1,461 than a half, and no other whole number is as near; g of either sign
  pub gap : (earlier later : Period) (r : Result ℕ Refusal) → GapGives earlier later r → answer_number r ≡ 0 → pos (given_or 0 r) ≡ hundredths (day_sum earlier) (day_sum later)
  pub no_half : (g k : ℤ) → g *ℤ pos 400 ≡ (k *ℤ pos 2 +ℤ pos 1) *ℤ pos 1461 → ⊥
  pub nearest : (earlier later : ℕ) → 2 * nat_abs (hundredths earlier later *ℤ pos 1461 -ℤ (pos later -ℤ pos earlier) *ℤ pos 200) < 1461
  pub only_nearest : (earlier later : ℕ) (z : ℤ) → 2 * nat_abs (z *ℤ pos 1461 -ℤ (pos later -ℤ pos earlier) *ℤ pos 200) ≤ 1461 → z ≡ hundredths earlier later
  -- rule 9.3: an entry passes the test, and none above it does
  pub growth : (n : ℕ) (r : Result ℕ Refusal) → GrowthGives n r → answer_number r ≡ 0
      → (given_or 0 r ^ 100 * 10000 ^ n ≤ 10 ^ 900 * 10388 ^ n) × ((e : ℕ) → e ^ 100 * 10000 ^ n ≤ 10 ^ 900 * 10388 ^ n → e ≤ given_or 0 r)
  -- rule 9.4: a payment, from the entry; and how near it is to the exact amount
  pub payment : (amount : ℤ) (n : ℕ) (r : Result ℤ Refusal) → PayGives amount n r → answer_number r ≡ 0 → (g : Result ℕ Refusal) → GrowthGives n g
      → given_or (pos 0) r ≡ on_magnitude (λ (m : ℕ). m * given_or 0 g / 1000000000) amount
  pub payment_near : (amount : ℤ) (n : ℕ) (r : Result ℤ Refusal) → PayGives amount n r → answer_number r ≡ 0 → NearExact (nat_abs amount) n (nat_abs (given_or (pos 0) r))
  -- rule 9.5, equation 1: an adjustment is paid over the gap of the two periods
  pub settled : (adjustment : ℤ) (measured settled : Period) (r : Result ℤ Refusal) → SettleGives adjustment measured settled r → answer_number r ≡ 0
      → (g : Result ℕ Refusal) → GapGives measured settled g → PayGives adjustment (given_or 0 g) r
  -- rule 9.5, equation 2: what is final less what was provisional, over the later gap
  pub reconciled : (final provisional : ℤ) (settled reconciled : Period) (r : Result ℤ Refusal)
      → ReconcileGives final provisional settled reconciled r → SettleGives (final -ℤ provisional) settled reconciled r
  -- ---- "a valid year that is written reads back as itself": a year, with its 64 line slots and 400 entry slots, that was written
  pub written_read : (y : Year) → length y.lines ≡ line_slots → length y.log.entries ≡ slots → (out o : List ℕ) (n : ℕ) → WriteGives y out (Ok n) o
      → (t : Result Year RefusedAt) → ReturnGives (take n o) t → t ≡ Ok y
  -- ---- "A return that is read and written again gives its own bytes", by two calls and by one
  pub read_written : (bs : List ℕ) → Bytes bs → (t : Result Year RefusedAt) → ReturnGives bs t → answer_number (why_alone t) ≡ 0
      → (out o : List ℕ) (r : Result ℕ Refusal) → WriteGives (given_or fresh_year (why_alone t)) out r o → length bs ≤ length out → (r ≡ Ok (length bs)) × (o ≡ bs ++ drop (length bs) out)
  pub refiled : (bs out : List ℕ) (r : Result ℕ Refusal) (o : List ℕ) → RefileGives bs out r o → answer_number r ≡ 0 → (r ≡ Ok (length bs)) × (o ≡ bs ++ drop (length bs) out)
  -- ---- a return is accepted exactly where some valid year has these bytes, and one year alone has them
  pub is_return : (bs : List ℕ) → Bytes bs → (t : Result Year RefusedAt) → ReturnGives bs t → (answer_number (why_alone t) ≡ 0 → IsReturn bs) × (IsReturn bs → answer_number (why_alone t) ≡ 0)
  pub same_bytes : (x y : Year) (bs : List ℕ) → IsReturnOf x bs → IsReturnOf y bs → x ≡ y
  -- what is written is the year's fields, one after the other, each whole
  pub whole_fields : (y : Year) → all is_whole (fields_of y) ≡ true
  pub flat : (y : Year) (out : List ℕ) (r : Result ℕ Refusal) (o : List ℕ) → WriteGives y out r o → answer_number r ≡ 0
      → o ≡ joined (fields_of y) ++ drop (length (joined (fields_of y))) out
  -- rule 10.1: the order of fields in an accepted return
  pub tags : (bs : List ℕ) → Bytes bs → (t : Result Year RefusedAt) → ReturnGives bs t → answer_number (why_alone t) ≡ 0
      → (fields : List (List ℕ)) → all is_whole fields ≡ true → bs ≡ joined fields → Ordered fields
  -- rule 10.2: field 05 is there exactly where the year's factors are not those that its return leaves out, and always in year 25
  pub factored : (bs : List ℕ) → Bytes bs → (t : Result Year RefusedAt) → ReturnGives bs t → answer_number (why_alone t) ≡ 0
      → (fields : List (List ℕ)) → all is_whole fields ≡ true → bs ≡ joined fields → FactorsWritten (given_or fresh_year (why_alone t)) fields
  -- rule 10.6: no return that is written is longer than the longest, nor shorter than the shortest of its year
  pub lengths : (y : Year) → length y.lines ≡ line_slots → length y.log.entries ≡ slots → (out o : List ℕ) (n : ℕ) → WriteGives y out (Ok n) o
      → (shortest y.number ≤ n) × (n ≤ longest)
  -- ---- rules 10.4 and 10.5: the one place of a refused return
  pub place : (bs : List ℕ) → Bytes bs → (t : Result Year RefusedAt) → ReturnGives bs t → (answer_number (why_alone t) ≡ 0 → ⊥) → length bs ≤ most_bytes
      → RefusalPlace bs (part_number t) × ((other : ℕ) → RefusalPlace bs other → other ≡ part_number t)
  pub one_place : (bs : List ℕ) (place other : ℕ) → RefusalPlace bs place → RefusalPlace bs other → place ≡ other
  -- in year 25 behind the four required fields, where no factors are found: at another field, at one that is wrong, or at the end
  pub no_factors : (bs : List ℕ) → length bs ≤ most_bytes → (t : Result Year RefusedAt) → ReturnGives bs t
      → (pppi rate aic : ℕ) → ReadAt required bs 0 (25, (pppi, (rate, aic))) 23 → field 5 (factors_value 25) (drop 23 bs) ≡ None → (answer_number (why_alone t) ≡ 13) × (part_number t ≡ 23)
  pub longer : (bs : List ℕ) (t : Result Year RefusedAt) → ReturnGives bs t → most_bytes < length bs → (answer_number (why_alone t) ≡ 13) × (part_number t ≡ most_bytes)
  -- ---- rule 15.6: day sheets. A log that is written reads back with all of it open, to its own regime end: as itself where it is open
  pub sheet_written_read : (log : Log) → length log.entries ≡ slots → (out o : List ℕ) (n : ℕ) → WriteSheetGives log out (Ok n) o
      → (t : Result Log RefusedAt) → SheetGives log.regime_end (take n o) t → (t ≡ Ok (closed_at log 0)) × (log.closed ≡ 0 → t ≡ Ok log)
  -- a sheet that is read and written again gives its own bytes, where there is room, and nothing else changes
  pub sheet_read_written : (regime_end : ℕ) (bs : List ℕ) → Bytes bs → (t : Result Log RefusedAt) → SheetGives regime_end bs t → answer_number (why_alone t) ≡ 0
      → (out o : List ℕ) (r : Result ℕ Refusal) → WriteSheetGives (given_or (empty_log regime_end) (why_alone t)) out r o → length bs ≤ length out → (r ≡ Ok (length bs)) × (o ≡ bs ++ drop (length bs) out)
  -- a sheet is accepted exactly where some valid log to the regime end that a sheet shows, all of it open, has these bytes, and one log alone has them
  pub is_sheet : (regime_end : ℕ) (bs : List ℕ) → Bytes bs → (t : Result Log RefusedAt) → SheetGives regime_end bs t
      → (answer_number (why_alone t) ≡ 0 → IsSheet regime_end bs) × (IsSheet regime_end bs → answer_number (why_alone t) ≡ 0)
  pub sheet_same_bytes : (regime_end : ℕ) (x y : Log) (bs : List ℕ) → IsSheetOf regime_end x bs → IsSheetOf regime_end y bs → x ≡ y
  -- rule 15.4: the one place of a refused sheet
  pub sheet_place : (regime_end : ℕ) (bs : List ℕ) → Bytes bs → good_regime_end regime_end ≡ true → (t : Result Log RefusedAt) → SheetGives regime_end bs t → (answer_number (why_alone t) ≡ 0 → ⊥)
      → sheets.RefusalPlace regime_end bs (part_number t) × ((other : ℕ) → sheets.RefusalPlace regime_end bs other → other ≡ part_number t)
  -- no sheet that is written is longer
  pub sheet_longest : (log : Log) → length log.entries ≡ slots → (out o : List ℕ) (n : ℕ) → WriteSheetGives log out (Ok n) o → n ≤ longest_sheet
  -- rule 17.1: of longer bytes those of the longest sheet and one piece more say all
  pub sheet_cut : (regime_end : ℕ) (bs : List ℕ) → longest_sheet + entry_bytes ≤ length bs → (t u : Result Log RefusedAt)
      → SheetGives regime_end (take (longest_sheet + entry_bytes) bs) t → SheetGives regime_end bs u → t ≡ u
  -- ---- rule 18.9: a plan that is written reads back as itself, where each of its numbers fits into its bytes, as in a program it does
  pub plan_written_read : (p : Plan) → plan_fits p ≡ true → (out o : List ℕ) (n : ℕ) → WritePlanGives p out (Ok n) o
      → (t : Result Plan RefusedAt) → ReadPlanGives (take n o) t → t ≡ Ok p
  -- a plan that is read and written again gives its own bytes, where there is room, and nothing else changes
  pub plan_read_written : (bs : List ℕ) → Bytes bs → (t : Result Plan RefusedAt) → ReadPlanGives bs t → answer_number (why_alone t) ≡ 0
      → (out o : List ℕ) (r : Result ℕ Refusal) → WritePlanGives (given_or no_plan (why_alone t)) out r o → length bs ≤ length out → (r ≡ Ok (length bs)) × (o ≡ bs ++ drop (length bs) out)
  -- a message is accepted exactly where some plan has these bytes, and one plan alone has them
  pub is_plan : (bs : List ℕ) → Bytes bs → (t : Result Plan RefusedAt) → ReadPlanGives bs t
      → (answer_number (why_alone t) ≡ 0 → IsPlanOf (given_or no_plan (why_alone t)) bs) × ((p : Plan) → IsPlanOf p bs → answer_number (why_alone t) ≡ 0)
  pub plan_same_bytes : (p q : Plan) (bs : List ℕ) → IsPlanOf p bs → IsPlanOf q bs → p ≡ q
  -- rule 18.8: the one place of a refused message, which is 0, the length of the plan that it begins with, or 8,192
  pub plan_place : (bs : List ℕ) → Bytes bs → (t : Result Plan RefusedAt) → ReadPlanGives bs t → (answer_number (why_alone t) ≡ 0 → ⊥) → length bs ≤ most_bytes
      → plans.RefusalPlace bs (part_number t) × ((other : ℕ) → plans.RefusalPlace bs other → other ≡ part_number t)
  pub plan_places : (bs : List ℕ) → Bytes bs → (t : Result Plan RefusedAt) → ReadPlanGives bs t → (answer_number (why_alone t) ≡ 0 → ⊥) → (part_number t ≡ 0) ⊎ (plans.FollowedAt bs (part_number t) ⊎ (part_number t ≡ 8192))
  pub plan_longer : (bs : List ℕ) (t : Result Plan RefusedAt) → ReadPlanGives bs t → most_bytes < length bs → (answer_number (why_alone t) ≡ 13) × (part_number t ≡ most_bytes)
  -- ---- rules 19.2 and 19.3: the period of two days is exact, its median too, and the gap of two periods is that of their days
  pub period_exact : (first last : ℕ) (r : Result MedianPeriod Refusal) → MakeGives first last r → answer_number r ≡ 0 → (given_or no_medians r ≡ medians_of first last) × ExactPeriod first last
  pub medians_gap : (earlier later : MedianPeriod) → good_medians earlier ≡ true → good_medians later ≡ true → (r s : Result ℕ Refusal)
      → MediansGapGives earlier later r → GapGives (days_of earlier) (days_of later) s → r ≡ s
  -- ---- rule 19.5: whole pounds go out and come back without loss
  pub whole_pounds_law : (z : ℤ) → nat_abs z ≤ 30000000000 → whole_pounds (of_int binary64 z) ≡ Some z
  -- ---- rule 19.8: what is exported reads back as itself, and what is read and exported gives the same cells, but for zeros
  pub exported_read : (amounts : List ℤ) → length amounts ≡ 25 → (p : MedianPeriod) (e : Result (List Slot) Refusal) → ExportGives amounts p e → answer_number e ≡ 0
      → (r : Result CellsRead RefusedAt) → ReadCellsGives (given_or (replicate 28 empty_slot) e) r → ReadsBack amounts p r
  pub read_exported : (cells : List Slot) → CellsFit cells → (r : Result CellsRead RefusedAt) → ReadCellsGives cells r → answer_number (why_alone r) ≡ 0
      → (e : Result (List Slot) Refusal) → ExportGives (given_or no_cells (why_alone r)).amounts (given_or no_cells (why_alone r)).period e → ComesOut cells e
  -- ---- rule 20.2: a filled workbook has the figures of the assessment of its five years, and each year's
  pub filled : (bs : List ℕ) (years : List Year) → input_years bs ≡ Some years → (r : Result (List Slot) Refusal) → FillGives bs r → answer_number r ≡ 0
      → (a : Result Figures Refusal) → PeriodGives published_book years (running_log years) a
      → (answer_number a ≡ 0)
      × (given_or (replicate 28 empty_slot) r ≡ exported (yearly_amounts (running_log years) years ++ period_amounts (assess_figures a)) (medians_of (first_day bs) (last_day bs)))
  -- rule 16.1: what is printed of a minute is its date and time, and that of no other minute
  pub date : (minute : ℕ) (r : Result Text Refusal) → PrintMinuteGives minute r → answer_number r ≡ 0 → (given_or (text_of []) r ≡ text_of (moment_of minute)) × RightDate minute
  pub one_minute : (a b : ℕ) → a ≤ last_regime_end → b ≤ last_regime_end → SameFigures a b → a ≡ b
