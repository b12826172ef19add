-- Where the Relevant Years start. Assumes nothing.
use mathlib.Core.Path.{◌≡◌, refl, ap, ◌∙◌}
use mathlib.Core.Logic.{◌⊎◌, inl, inr}
use mathlib.Core.Bool.{Bool, true, false, cond, ◌||◌}
use Prim.Native.Nat.{ℕ, zero, suc, ◌+◌, ◌-◌, ◌*◌, ◌%◌, ◌≤◌, ◌<◌}
use native.Mathlib.Omega.{arith}
use borrow.Author.Tests.{eqb-false, eq-eqb, ne_eqb}
use lib.Dec.{eqb}
use Rattle.lists.proofs.Tests.{le_or_lt, or_false}
use Rattle.calendar.specs.Years.{is_leap, days_in, days_to, year_start, year_end, last_year, one_ends_at, is_year_end}

-- a century is a leap year where 400 divides it, and not else
pub leap_2000 : is_leap 2000 ≡ true
leap_2000 = refl

pub plain_2100 : is_leap 2100 ≡ false
plain_2100 = refl

-- a calendar year has 365 or 366 days
pub some_days : (year : ℕ) → (365 ≤ days_in year) × (days_in year ≤ 366)
some_days year = by (is_leap year)
  where
    by : (leap : Bool) → (365 ≤ cond leap 366 365) × (cond leap 366 365 ≤ 366)
    by true = (omega arith, omega arith)
    by false = (omega arith, omega arith)

pub least_days : (year : ℕ) → 365 ≤ days_in year
least_days year = (some_days year).0

-- a year starts before the next
pub starts : (year : ℕ) → 1 ≤ year → year_start year < year_start (suc year)
unfolding year_start days_to
starts zero l = absurd (omega arith)
starts (suc zero) l = omega arith
starts (suc (suc n)) l = omega (arith, least_days (2019 + suc n))

-- each year starts at a midnight
pub at_midnight : (year : ℕ) → year_start year % 1440 ≡ 0
unfolding year_start
at_midnight zero = refl
at_midnight (suc zero) = refl
at_midnight (suc (suc n)) = omega arith

-- year 1 starts at minute 0
pub year_one : year_start 1 ≡ 0
unfolding year_start
year_one = refl

-- year 2 starts 335 days after year 1
pub year_two : year_start 2 ≡ 482400
unfolding year_start days_to
year_two = refl

-- year 3 starts 366 days after year 2
pub year_three : year_start 3 ≡ 1009440
unfolding year_start days_to
year_three = refl

-- year 25 starts on 1 January 2043
pub last_start : year_start 25 ≡ 12579840
unfolding year_start days_to
last_start = refl

-- ---- from a year's start to the next are the days of its calendar year, without 30 of them in year 1
passed : (year : ℕ) → 2 ≤ year → year_start year + days_in (2018 + year) * 1440 ≡ year_start (suc year)
unfolding year_start days_to
passed zero l = absurd (omega arith)
passed (suc zero) l = absurd (omega arith)
passed (suc (suc n)) l =
    let f : 2018 + suc (suc n) ≡ 2019 + suc n = omega arith in
    let e : days_in (2018 + suc (suc n)) ≡ days_in (2019 + suc n) = ap days_in f in
    omega (arith, e, least_days (2019 + n))

module _ (year days : ℕ) (are : days ≡ days_in (2018 + year)) where
  pub first_passed : year ≡ 1 → year_start year + (days - 30) * 1440 ≡ year_start (suc year)
  first_passed e =
      let d : days ≡ 365 = are ∙ ap (λ (y : ℕ). days_in (2018 + y)) e in
      let s : year_start year ≡ 0 = ap year_start e ∙ year_one in
      let t : year_start (suc year) ≡ 482400 = ap (λ (y : ℕ). year_start (suc y)) e ∙ year_two in
      omega arith

  pub later_passed : 2 ≤ year → year_start year + days * 1440 ≡ year_start (suc year)
  later_passed l = ap (λ (d : ℕ). year_start year + d * 1440) are ∙ passed year l

-- ---- a year ends within a regime that lasts into year 25
start_by : (k year : ℕ) → year + k ≡ 25 → 1 ≤ year → year_start year ≤ 12579840
start_by zero year e h = let f : year ≡ 25 = omega arith in omega (arith, ap year_start f, last_start)
start_by (suc k) year e h = omega (arith, starts year h, start_by k (suc year) (omega arith) (omega arith))

pub latest_start : (year : ℕ) → 1 ≤ year → year ≤ 25 → year_start year ≤ 12579840
latest_start year l m = start_by (25 - year) year (omega arith) l

module _ (regime_end year : ℕ) (first : 12579840 ≤ regime_end) (l : 1 ≤ year) (m : year ≤ 25) where
  earlier : (25 ≤ year) ⊎ (year < 25) → eqb year last_year ≡ false → year < 25
  earlier (inl h) e = absurd (eqb-false year last_year e (omega arith))
  earlier (inr h) e = h

  by_last : (b : Bool) → eqb year last_year ≡ b → (year_start year ≤ cond b regime_end (year_start (suc year))) × (cond b regime_end (year_start (suc year)) ≤ regime_end)
  by_last true e = (omega (arith, latest_start year l m), omega arith)
  by_last false e =
      let w = earlier (le_or_lt 25 year) e in
      (omega (arith, starts year l), omega (arith, latest_start (suc year) (omega arith) (omega arith)))

  pub year_within : (year_start year ≤ year_end year regime_end) × (year_end year regime_end ≤ regime_end)
  year_within = by_last (eqb year last_year) refl

-- ---- year ends
-- a year before the last ends where the next starts
pub ends_next : (year regime_end : ℕ) → year < 25 → year_end year regime_end ≡ year_start (suc year)
ends_next year regime_end h = ap (λ (b : Bool). cond b regime_end (year_start (suc year))) (ne_eqb year last_year (λ e. omega arith))

module _ (regime_end minute : ℕ) where
  -- the end of one of the first n years
  pub one_ends : (n year : ℕ) → 1 ≤ year → year ≤ n → minute ≡ year_end year regime_end → one_ends_at regime_end minute n ≡ true
  one_ends zero year l m e = absurd (omega arith)
  one_ends (suc n) year l m e = by (le_or_lt (suc n) year) (λ h. one_ends n year l h e)
    where
      either : (b : Bool) {c : Bool} → c ≡ true → (b || c) ≡ true
      either true h = refl
      either false h = h

      by : (suc n ≤ year) ⊎ (year < suc n) → (year ≤ n → one_ends_at regime_end minute n ≡ true) → (eqb minute (year_end (suc n) regime_end) || one_ends_at regime_end minute n) ≡ true
      by (inl h) earlier =
          let is : year ≡ suc n = omega arith in
          rw (eq-eqb minute (year_end (suc n) regime_end) (e ∙ ap (λ (y : ℕ). year_end y regime_end) is)) refl
      by (inr h) earlier = either (eqb minute (year_end (suc n) regime_end)) (earlier (omega arith))

  pub year_ends : (year : ℕ) → 1 ≤ year → year ≤ 25 → minute ≡ year_end year regime_end → is_year_end regime_end minute ≡ true
  unfolding is_year_end
  year_ends year l m e = one_ends 25 year l m e

  -- where none of the first 24 years ends, the regime end decides
  pub last_ends : one_ends_at regime_end minute 24 ≡ false → is_year_end regime_end minute ≡ eqb minute regime_end
  unfolding is_year_end
  last_ends e = ap (λ (b : Bool). eqb minute regime_end || b) e ∙ or_false (eqb minute regime_end)
