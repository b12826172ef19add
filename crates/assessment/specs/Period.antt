-- The assessment of a period: rules 2.3 and 8.5 (SC3 22).
use Rattle.std.specs.Prelude.{Bool, true, cond, not, ◌&&◌, List, [], ◌∷◌, ◌++◌, map, ◌≡◌, ℕ, suc, ◌%◌, eqb, take, drop, replicate, Result, pos}
use Rattle.std.specs.Int.Signed.{lt_z}
use Rattle.lists.specs.Lists.{all}
use Rattle.refusals.specs.Refusals.{Rows, accepted, first_applicable, answer_number, given_or}
use Rattle.refusals.specs.declared.Refusal.{Refusal}
use Rattle.refusals.specs.declared.Refusal.TheVariants.{BadBook, BrokenLog, BadYear, TooLarge, FloorAboveCap}
use Rattle.outage.specs.declared.Log.{Log}
use Rattle.outage.specs.Log.{valid_log}
use Rattle.year.specs.declared.Year.{Year}
use Rattle.year.specs.Year.{good_year}
use Rattle.levels.specs.declared.Book.{Book}
use Rattle.levels.specs.Book.{book_holds}
use Rattle.levels.specs.Levels.{cap_level, floor_of, level_fits}
use Rattle.revenue.specs.Revenue.{assessed_revenue}
use Rattle.balances.specs.declared.assessing.Yearly.{Yearly}
use Rattle.balances.specs.declared.assessing.Figures.{Figures}
use Rattle.balances.specs.Balance.{period_years}
use Rattle.balances.specs.Assessment.{CLN, FLN, balances_within, figures_in, no_figures}

-- ---- rule 2.3: the numbers follow one another, from the first year of a period on
abbrev pub numbers_from : ℕ → List Year → Bool
numbers_from number [] = true
numbers_from number (y ∷ ys) = eqb y.number number && numbers_from (suc number) ys

abbrev pub starts_period : ℕ → Bool
starts_period number = eqb (number % period_years) 1

abbrev pub one_period : List Year → Bool
one_period [] = true
one_period (y ∷ ys) = starts_period y.number && numbers_from y.number (y ∷ ys)

-- the first n years are in range and those of one period
unfoldable pub good_period_years : List Year → ℕ → Bool
good_period_years years n = all good_year (take n years) && one_period (take n years)

-- ---- the yearly amounts
-- the first n of a row, and nothing in the others of a period
abbrev pub first_rows : {A : Type 0} → A → ℕ → List A → List A
first_rows nothing n row = take n row ++ drop n (replicate period_years nothing)

-- of the first n years
abbrev pub yearly_of : Book → List Year → Log → ℕ → Yearly
yearly_of book years log n = record {
  index = first_rows 0 n (map (λ (y : Year). y.pppi) years);
  revenue = first_rows (pos 0) n (map assessed_revenue years);
  cap = first_rows (pos 0) n (map (cap_level book) years);
  floor = first_rows (pos 0) n (map (λ (y : Year). floor_of book y log) years);
  wpa = first_rows (pos 0) n (map (λ (y : Year). y.wpa) years);
}

-- rule 12.1, 11: no level and no assessed revenue is above 10^9 in magnitude
abbrev pub year_fits : Book → Log → Year → Bool
year_fits book log y = level_fits (cap_level book y) && (level_fits (floor_of book y log) && level_fits (assessed_revenue y))

-- ---- the call, over the first n years
abbrev pub period_rows_of : Book → List Year → Log → ℕ → Rows
period_rows_of book years log n =
    (BadBook, not (book_holds book log.regime_end))
    ∷ (BrokenLog, not (valid_log log))
    ∷ (BadYear, not (good_period_years years n))
    ∷ (TooLarge, not (all (year_fits book log) (take n years) && balances_within (yearly_of book years log n) n))
    ∷ (FloorAboveCap, lt_z (CLN (yearly_of book years log n) n) (FLN (yearly_of book years log n) n))
    ∷ []

abbrev pub period_given_of : Book → List Year → Log → ℕ → Figures
period_given_of book years log n = cond (accepted (period_rows_of book years log n)) (figures_in (yearly_of book years log n) n) no_figures

-- ---- the call, over all five
abbrev pub period_rows : Book → List Year → Log → Rows
period_rows book years log = period_rows_of book years log period_years

abbrev pub period_given : Book → List Year → Log → Figures
period_given book years log = period_given_of book years log period_years

-- what `assess_period` promises of its result
abbrev pub PeriodGives : Book → List Year → Log → Result Figures Refusal → Type 0
PeriodGives book years log r = (answer_number r ≡ first_applicable (period_rows book years log)) × (given_or no_figures r ≡ period_given book years log)
