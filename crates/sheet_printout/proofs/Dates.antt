-- The date of a minute, for every minute up to the last regime end. Assumes nothing.
use mathlib.Core.Path.{◌≡◌, refl, ap, ◌∙◌}
use mathlib.Core.Bool.{Bool, true, false, cond, ◌||◌}
use mathlib.Core.Logic.{⊎_elim}
use Prim.Native.Nat.{ℕ, zero, suc, ◌+◌, ◌-◌, ◌*◌, ◌≤◌, ◌<◌}
use native.Mathlib.Omega.{arith}
use native.Mathlib.Numerals.{one-add}
use lib.Dec.{eqb}
use Rattle.lists.proofs.Tests.{le_or_lt}
use Rattle.calendar.specs.Years.{is_leap, days_in, days_to}
use Rattle.calendar.proofs.Laws.{least_days}
use Rattle.entries.specs.Row.{last_regime_end}
use Rattle.sheet_printout.specs.Dates.{day_number, years_on, year_on, day_in_year, month_days, days_to_month, months_on, month_on, day_on}
use Rattle.sheet_printout.specs.Theorems.{RightDate, SameFigures}
use Rattle.sheet_printout.proofs.Reached.{Lies, climbs, counted, at_reached}

-- ---- years
years_rise : (n : ℕ) → days_to n ≤ days_to (suc n)
unfolding days_to
years_rise n = omega arith

years_least : (n : ℕ) → 365 * n ≤ days_to n
unfolding days_to
years_least zero = omega arith
years_least (suc n) = omega (arith, years_least n, least_days (2019 + n))

-- the days up to the end of a year
pub year_passed : (year : ℕ) → 2019 ≤ year → days_to (year + 1 - 2019) ≡ days_to (year - 2019) + days_in year
unfolding days_to
year_passed year h =
    let n : year + 1 - 2019 ≡ suc (year - 2019) = omega arith in
    let y : 2019 + (year - 2019) ≡ year = omega arith in
    ap days_to n ∙ ap (λ (x : ℕ). days_to (year - 2019) + days_in x) y

-- ---- months
-- a month has at least 28 days and at most 31
pub month_some : (year month : ℕ) → (28 ≤ month_days year month) × (month_days year month ≤ 31)
month_some year month = by (eqb month 2) (is_leap year) (eqb month 4 || (eqb month 6 || (eqb month 9 || eqb month 11)))
  where
    by : (a b d : Bool) → (28 ≤ cond a (cond b 29 28) (cond d 30 31)) × (cond a (cond b 29 28) (cond d 30 31) ≤ 31)
    by true true d = (omega arith, omega arith)
    by true false d = (omega arith, omega arith)
    by false b true = (omega arith, omega arith)
    by false b false = (omega arith, omega arith)

months_rise : (year n : ℕ) → days_to_month year n ≤ days_to_month year (suc n)
unfolding days_to_month
months_rise year n = omega arith

pub months_least : (year n : ℕ) → 28 * n ≤ days_to_month year n
unfolding days_to_month
months_least year zero = omega arith
months_least year (suc n) = omega (arith, months_least year n, (month_some year (suc n)).0)

-- the twelve months are the year
months_all : (year : ℕ) → days_to_month year 12 ≡ days_in year
unfolding days_to_month
months_all year = by (is_leap year)
  where
    by : (leap : Bool) → 0 + 31 + cond leap 29 28 + 31 + 30 + 31 + 30 + 31 + 31 + 30 + 31 + 30 + 31 ≡ cond leap 366 365
    by true = refl
    by false = refl

-- the days up to the end of a month
pub month_passed : (year month : ℕ) → 1 ≤ month → days_to_month year (month + 1 - 1) ≡ days_to_month year (month - 1) + month_days year month
unfolding days_to_month
month_passed year month h =
    let n : month + 1 - 1 ≡ suc (month - 1) = omega arith in
    let m : suc (month - 1) ≡ month = omega arith in
    ap (days_to_month year) n ∙ ap (λ (x : ℕ). days_to_month year (month - 1) + month_days year x) m

-- ---- a year and a day of it that add up are those of the minute
module _ (minute : ℕ) (h : minute ≤ last_regime_end) where
  pub year_few : (year : ℕ) → days_to (year - 2019) ≤ day_number minute → year ≤ 2045
  year_few year l = omega (arith, years_least (year - 2019))

  pub year_found : (year day : ℕ) → 2019 ≤ year → days_to (year - 2019) + day ≡ day_number minute → day < days_in year → (year ≡ year_on minute) × (day ≡ day_in_year minute)
  unfolding years_on
  year_found year day l e w =
      let n : year + 1 - 2019 ≡ suc (year - 2019) = omega arith in
      let lies : Lies days_to (day_number minute) 26 (year - 2019) = record {
        within = omega (arith, years_least (year - 2019));
        from = omega arith;
        before = omega (arith, year_passed year l, ap days_to n);
      } in
      let is = counted days_to years_rise (day_number minute) 26 (year - 2019) lies in
      (omega arith, omega (arith, ap days_to is))

  -- the minute lies in its year
  year_lies : Lies days_to (day_number minute) 26 (years_on minute)
  unfolding years_on days_to
  year_lies = at_reached days_to years_rise (day_number minute) 26 (omega arith) (omega (arith, years_least 27))

  pub in_year : day_in_year minute < days_in (year_on minute)
  unfolding days_to
  in_year = omega (arith, year_lies.from, year_lies.before)

  -- ---- a month and a day of it that add up are those of the minute
  pub month_found : (month day : ℕ) → 1 ≤ month → days_to_month (year_on minute) (month - 1) + day ≡ day_in_year minute → day < month_days (year_on minute) month → (month ≡ month_on minute) × (day + 1 ≡ day_on minute)
  unfolding months_on
  month_found month day l e w =
      let year = year_on minute in
      let n : month + 1 - 1 ≡ suc (month - 1) = omega arith in
      let few : month - 1 ≤ 11 =
      ⊎_elim
      (λ (k : month - 1 ≤ 11). k)
      (λ (k : 11 < month - 1). let p : 12 + (month - 1 - 12) ≡ month - 1 = omega arith in
      absurd (omega (arith, climbs (days_to_month year) (months_rise year) 0 12 (month - 1 - 12), ap (days_to_month year) p, months_all year, in_year)))
      (le_or_lt (month - 1) 11) in
      let lies : Lies (days_to_month year) (day_in_year minute) 11 (month - 1) = record {
        within = few;
        from = omega arith;
        before = omega (arith, month_passed year month l, ap (days_to_month year) n);
      } in
      let is = counted (days_to_month year) (months_rise year) (day_in_year minute) 11 (month - 1) lies in
      (omega arith, omega (arith, ap (days_to_month year) is))

  -- the minute lies in its month
  month_lies : Lies (days_to_month (year_on minute)) (day_in_year minute) 11 (months_on minute)
  unfolding months_on days_to_month
  month_lies =
      at_reached (days_to_month (year_on minute)) (months_rise (year_on minute)) (day_in_year minute) 11 (omega arith) (omega (arith, months_all (year_on minute), in_year))

  in_month : day_on minute ≤ month_days (year_on minute) (month_on minute)
  unfolding days_to_month
  in_month = omega (arith, month_lies.from, month_lies.before, ap (month_days (year_on minute)) (one-add (months_on minute)))

  -- ---- the date is the right one
  pub right_date : RightDate minute
  right_date =
      let y : year_on minute - 2019 ≡ years_on minute = omega arith in
      let m : month_on minute - 1 ≡ months_on minute = omega arith in
      record {
        from_year = omega arith;
        to_year = omega (arith, year_lies.within);
        from_month = omega arith;
        to_month = omega (arith, month_lies.within);
        from_day = omega arith;
        to_day = in_month;
        to_hour = omega arith;
        to_minute = omega arith;
        days = omega (arith, ap days_to y, ap (days_to_month (year_on minute)) m, year_lies.from, month_lies.from);
      }

  pub date_small : (month_on minute < 100) × (day_on minute < 100)
  date_small = (omega (arith, month_lies.within), omega (arith, in_month, (month_some (year_on minute) (month_on minute)).1))

-- no two minutes show the same figures
pub one_minute : (a b : ℕ) → a ≤ last_regime_end → b ≤ last_regime_end → SameFigures a b → a ≡ b
one_minute a b h k s =
    let y = s.year in
    let m = s.month in
    let p : days_to (year_on a - 2019) ≡ days_to (year_on b - 2019) = ap (λ (x : ℕ). days_to (x - 2019)) y in
    let q : days_to_month (year_on a) (month_on a - 1) ≡ days_to_month (year_on b) (month_on b - 1) =
    ap (λ (x : ℕ). days_to_month x (month_on a - 1)) y ∙ ap (λ (x : ℕ). days_to_month (year_on b) (x - 1)) m in
    let d : day_number a ≡ day_number b = omega (arith, (right_date a h).days, (right_date b k).days, s.day) in
    omega (arith, s.hour, s.minute)
