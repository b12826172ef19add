-- What reading the input of `workbook` gives: rules 12.3, 20.2 and 20.3.
use Rattle.std.specs.Prelude.{cond, List, [], ◌∷◌, ◌++◌, ◌≡◌, ℕ, zero, suc, eqb, ℤ, pos, replicate, Option, Some, None, Result}
use Rattle.refusals.specs.declared.Refusal.{Refusal}
use Rattle.refusals.specs.declared.Refusal.TheVariants.{Malformed}
use Rattle.refusals.specs.Refusals.{refusal_number, first_applicable, answer_number, given_or}
use Rattle.entries.specs.declared.Entry.{Entry}
use Rattle.outage.specs.declared.Log.{Log}
use Rattle.outage.specs.Log.{last_regime_end, log_entries}
use Rattle.outage.specs.Calls.{empty_log, enter_rows, enter_log}
use Rattle.plan.specs.Calls.{Outcome, why_in, stands_in, one_by_one}
use Rattle.year.specs.declared.Year.{Year}
use Rattle.levels.specs.Book.{published_book}
use Rattle.levels.specs.Levels.{cap_level, floor_of}
use Rattle.revenue.specs.Revenue.{assessed_revenue}
use Rattle.balances.specs.declared.assessing.Figures.{Figures}
use Rattle.assessment.specs.Period.{period_rows, period_given}
use Rattle.workbook_input.specs.declared.WorkbookInput.{WorkbookInput}
use Rattle.workbook_input.specs.Input.{first_day, last_day, input_years}

-- ---- rule 20.2: every outage of the returns, in order, is entered from the empty log on
abbrev pub outages_in : List Year → List Entry
outages_in [] = []
outages_in (y ∷ ys) = log_entries y.log ++ outages_in ys

abbrev pub entering : List Year → Outcome Log
entering years = one_by_one enter_rows enter_log 1 (empty_log last_regime_end) (outages_in years)

abbrev pub running_log : List Year → Log
running_log years = stands_in (empty_log last_regime_end) (entering years)

-- ---- rule 20.3: the first that refuses decides
abbrev pub or_else : ℕ → ℕ → ℕ
or_else zero later = later
or_else (suc n) later = suc n

-- the entering of an outage, or else the assessment
abbrev pub years_number : List Year → ℕ
years_number years = or_else (why_in (entering years)) (first_applicable (period_rows published_book years (running_log years)))

-- before both the reading: 13 where the input is not that of rule 20.1
abbrev pub number_of : Option (List Year) → ℕ
number_of None = refusal_number Malformed
number_of (Some years) = years_number years

abbrev pub input_number : List ℕ → ℕ
input_number bs = number_of (input_years bs)

-- ---- rules 19.4 and 20.2: the amounts in the order of the cells
abbrev pub year_amounts : Log → Year → List ℤ
year_amounts log y = assessed_revenue y ∷ cap_level published_book y ∷ floor_of published_book y log ∷ y.wpa ∷ []

abbrev pub yearly_amounts : Log → List Year → List ℤ
yearly_amounts log [] = []
yearly_amounts log (y ∷ ys) = year_amounts log y ++ yearly_amounts log ys

abbrev pub period_amounts : Figures → List ℤ
period_amounts f = f.revenue ∷ f.cap ∷ f.floor ∷ f.wpa ∷ f.adjustment ∷ []

abbrev pub amounts_in : List Year → List ℤ
amounts_in years = yearly_amounts (running_log years) years ++ period_amounts (period_given published_book years (running_log years))

-- rule 12.3: zeros beside a refusal
abbrev pub no_amounts : List ℤ
no_amounts = replicate 25 (pos 0)

abbrev pub amounts_of : Option (List Year) → List ℤ
amounts_of None = no_amounts
amounts_of (Some years) = cond (eqb (years_number years) 0) (amounts_in years) no_amounts

abbrev pub input_amounts : List ℕ → List ℤ
input_amounts bs = amounts_of (input_years bs)

abbrev pub day_given : List ℕ → ℕ → ℕ
day_given bs day = cond (eqb (input_number bs) 0) day 0

abbrev pub input_given : List ℕ → WorkbookInput
input_given bs = record { amounts = input_amounts bs; first = day_given bs (first_day bs); last = day_given bs (last_day bs) }

abbrev pub no_input : WorkbookInput
no_input = record { amounts = no_amounts; first = 0; last = 0 }

-- what `read_workbook` promises of its result
abbrev pub ReadWorkbookGives : List ℕ → Result WorkbookInput Refusal → Type 0
ReadWorkbookGives bs r = (answer_number r ≡ input_number bs) × (given_or no_input r ≡ input_given bs)
