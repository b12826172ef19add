-- What the functions inside are stated by: the assessment of the first n years, and the same year by year.
use Rattle.std.specs.Prelude.{Bool, cond, ◌&&◌, List, ◌≡◌, ℕ, replicate, set, Result, Ok, Err, pos}
use Rattle.lists.specs.Lists.{all}
use Rattle.refusals.specs.Refusals.{first_applicable, answer_number, given_or}
use Rattle.refusals.specs.declared.Refusal.{Refusal}
use Rattle.refusals.specs.declared.Refusal.TheVariants.{TooLarge}
use Rattle.outage.specs.declared.Log.{Log}
use Rattle.year.specs.declared.Year.{Year}
use Rattle.year.specs.Year.{good_year}
use Rattle.levels.specs.declared.Book.{Book}
use Rattle.levels.specs.Levels.{cap_level, floor_of}
use Rattle.revenue.specs.Revenue.{assessed_revenue}
use Rattle.balances.specs.declared.assessing.Yearly.{Yearly}
use Rattle.balances.specs.declared.assessing.Figures.{Figures}
use Rattle.balances.specs.Balance.{period_years}
use Rattle.balances.specs.Assessment.{no_figures}
use Rattle.assessment.specs.declared.Row.{Row}
use Rattle.assessment.specs.Period.{numbers_from, year_fits, period_rows_of, period_given_of}

-- what `assess_first` promises of its result
abbrev pub FirstGives : Book → List Year → Log → ℕ → Result Figures Refusal → Type 0
FirstGives book years log n r = (answer_number r ≡ first_applicable (period_rows_of book years log n)) × (given_or no_figures r ≡ period_given_of book years log n)

-- ---- the same year by year
-- the years are in range and follow one another from a number on
abbrev pub good_from : ℕ → List Year → Bool
good_from number years = all good_year years && numbers_from number years

-- what one year brings, or 11
abbrev pub row_of : Book → Year → Log → Result Row Refusal
row_of book y log =
    cond (year_fits book log y)
    (Ok (record { index = y.pppi; revenue = assessed_revenue y; cap = cap_level book y; floor = floor_of book y log; wpa = y.wpa }))
    (Err TooLarge)

abbrev pub no_amounts : Yearly
no_amounts = record {
  index = replicate period_years 0;
  revenue = replicate period_years (pos 0);
  cap = replicate period_years (pos 0);
  floor = replicate period_years (pos 0);
  wpa = replicate period_years (pos 0);
}

abbrev pub with_row : Yearly → ℕ → Row → Yearly
with_row yearly k row = record {
  index = set yearly.index k row.index;
  revenue = set yearly.revenue k row.revenue;
  cap = set yearly.cap k row.cap;
  floor = set yearly.floor k row.floor;
  wpa = set yearly.wpa k row.wpa;
}
