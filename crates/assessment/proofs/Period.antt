-- What the assessment of the first n years of a period comes to, from what the calls made on the way answer. Assumes nothing.
use mathlib.Core.Path.{◌≡◌, refl, sym, ap, ◌∙◌}
use mathlib.Core.Bool.{Bool, true, false, cond, not, ◌&&◌}
use mathlib.Core.List.{List, [], ◌∷◌, map}
use Prim.Native.Nat.{ℕ, zero, suc, ◌≤◌, ◌<◌}
use native.Mathlib.Omega.{arith}
use lib.Dec.{eqb}
use lib.ListN.{length, take, drop, get_or}
use lib.IntN.{ℤ, pos}
use lib.Signed.{lt_z, non_neg}
use Rattle.std.specs.Prelude.{Result, Ok, Err}
use Rattle.lists.specs.Lists.{all}
use Rattle.lists.proofs.Tests.{and_left, and_right, and_made, not_no}
use Rattle.refusals.specs.declared.Refusal.TheVariants.{BadBook, BrokenLog, BadYear, TooLarge, FloorAboveCap}
use Rattle.refusals.specs.declared.Refusal.{Refusal}
use Rattle.refusals.specs.Refusals.{Rows, refusal_number, answer_number, first_applicable}
use Rattle.refusals.proofs.Laws.{all_clear, never_zero}
use Rattle.refusals.proofs.Cases.{refused_meets}
use Rattle.outage.specs.declared.Log.{Log}
use Rattle.outage.specs.Log.{valid_log}
use Rattle.year.specs.declared.Year.{Year}
use Rattle.year.specs.Year.{good_year}
use Rattle.year.proofs.Says.{year_says}
use Rattle.levels.specs.declared.Book.{Book}
use Rattle.levels.specs.Book.{book_holds, good_book}
use Rattle.levels.specs.Availability.{availability_rows, AvailabilityGives}
use Rattle.levels.specs.Levels.{cap_level, floor_of, level_fits}
use Rattle.levels.proofs.Says.{holds_good}
use Rattle.levels.proofs.Ranges.{cap_good, floor_good}
use Rattle.revenue.specs.Revenue.{assessed_revenue}
use Rattle.balances.specs.declared.assessing.Yearly.{Yearly}
use Rattle.balances.specs.declared.assessing.Figures.{Figures}
use Rattle.balances.specs.Balance.{good_count, good_index, good_yearly_amount, good_amounts}
use Rattle.balances.specs.Assessment.{CLN, FLN, assess_rows_of, balances_within, figures_in, assessable, no_figures, not_negative, YearsGives}
use Rattle.assessment.specs.Period.{period_rows_of, year_fits, first_rows, yearly_of, good_period_years, one_period}
use Rattle.assessment.specs.Steps.{FirstGives}
use Rattle.assessment.proofs.Years.{no_year, first_at, row_at}

-- years that are those of one period are in range
pub good_records : (years : List Year) (n : ℕ) → good_period_years years n ≡ true → all good_year (take n years) ≡ true
unfolding good_period_years
good_records years n g = and_left (all good_year (take n years)) (one_period (take n years)) g

-- ---- amounts taken year by year, of the first n years
module _ (f : Year → ℤ) (years : List Year) (n : ℕ) (fits : n ≤ length years) where
  amounts_good : (m : ℕ) → m ≤ n → all good_year (take n years) ≡ true → ((k : ℕ) → k < n → good_yearly_amount (f (get_or years k no_year)) ≡ true)
      → good_amounts (first_rows 0 n (map (λ (y : Year). y.pppi) years)) (first_rows (pos 0) n (map f years)) m ≡ true
  unfolding good_amounts
  amounts_good zero h g a = refl
  amounts_good (suc m) h g a =
      and_made
      (and_made
      (ap good_index (row_at no_year years n fits (λ (y : Year). y.pppi) 0 m h) ∙ (year_says (get_or years m no_year) (first_at no_year years n fits good_year g m h)).pppi)
      (ap good_yearly_amount (row_at no_year years n fits f (pos 0) m h) ∙ a m h))
      (amounts_good m (omega arith) g a)

  amounts_positive : (m : ℕ) → m ≤ n → ((k : ℕ) → k < n → non_neg (f (get_or years k no_year)) ≡ true) → not_negative (first_rows (pos 0) n (map f years)) m ≡ true
  unfolding not_negative
  amounts_positive zero h a = refl
  amounts_positive (suc m) h a = and_made (ap non_neg (row_at no_year years n fits f (pos 0) m h) ∙ a m h) (amounts_positive m (omega arith) a)

-- what a year that fits says
record FitsSays (book : Book) (log : Log) (y : Year) : Type 0 where
  pub cap : level_fits (cap_level book y) ≡ true
  pub floor : level_fits (floor_of book y log) ≡ true
  pub revenue : level_fits (assessed_revenue y) ≡ true

fits_says : (book : Book) (log : Log) (y : Year) → year_fits book log y ≡ true → FitsSays book log y
fits_says book log y g =
    let c = level_fits (cap_level book y) in
    let f = level_fits (floor_of book y log) in
    let r = level_fits (assessed_revenue y) in
    let rest = and_right c (f && r) g in
    record { cap = and_left c (f && r) g; floor = and_left f r rest; revenue = and_right f r rest }

module _ (book : Book) (years : List Year) (log : Log) (n : ℕ) where
  -- the amounts of years in range that fit are in range for the balances
  amounts_in_range : good_count n ≡ true → n ≤ length years → good_book book ≡ true → all good_year (take n years) ≡ true → all (year_fits book log) (take n years) ≡ true
      → assessable (yearly_of book years log n) n ≡ true
  amounts_in_range count fits b g f =
      let all_of : n ≤ n = omega arith in
      let year : ℕ → Year = λ k. get_or years k no_year in
      let says : (k : ℕ) → k < n → FitsSays book log (year k) = λ k h. fits_says book log (year k) (first_at no_year years n fits (year_fits book log) f k h) in
      and_made count
      (and_made (amounts_good assessed_revenue years n fits n all_of g (λ k h. (says k h).revenue))
      (and_made (amounts_good (cap_level book) years n fits n all_of g (λ k h. (says k h).cap))
      (and_made (amounts_positive (cap_level book) years n fits n all_of (λ k h. cap_good book b (year k)))
      (and_made (amounts_good (λ (y : Year). floor_of book y log) years n fits n all_of g (λ k h. (says k h).floor))
      (and_made (amounts_positive (λ (y : Year). floor_of book y log) years n fits n all_of (λ k h. floor_good book b (year k) log))
      (amounts_good (λ (y : Year). y.wpa) years n fits n all_of g (λ k h. (year_says (year k) (first_at no_year years n fits good_year g k h)).wpa)))))))

  -- ---- what is given
  abbrev yearly : Yearly
  yearly = yearly_of book years log n

  gives_none : (why : Refusal) → refusal_number why ≡ first_applicable (period_rows_of book years log n) → FirstGives book years log n (Err why)
  gives_none = refused_meets no_figures (period_rows_of book years log n) (figures_in yearly n)

  -- a row that stops the availability of year 1 stops the period
  pub gives_no_start : (why : Refusal) → refusal_number why ≡ first_applicable (availability_rows book log 1) → FirstGives book years log n (Err why)
  gives_no_start why g = gives_none why (g ∙ same_stop (book_holds book log.regime_end) (valid_log log) (drop 2 (period_rows_of book years log n)) (omega (arith, never_zero why)))
    where
      same_stop : (b v : Bool) (rest : Rows) → 0 < first_applicable ((BadBook, not b) ∷ (BrokenLog, not v) ∷ [])
          → first_applicable ((BadBook, not b) ∷ (BrokenLog, not v) ∷ []) ≡ first_applicable ((BadBook, not b) ∷ (BrokenLog, not v) ∷ rest)
      same_stop false v rest h = refl
      same_stop true false rest h = refl
      same_stop true true rest h = absurd (omega arith)

  module _ {x : ℕ} (told : AvailabilityGives book log 1 (Ok x)) where
    pub book_told : book_holds book log.regime_end ≡ true
    book_told = not_no (book_holds book log.regime_end) (all_clear (availability_rows book log 1) (sym told.0)).0

    pub log_told : valid_log log ≡ true
    log_told = not_no (valid_log log) (all_clear (availability_rows book log 1) (sym told.0)).1.0

    pub gives_no_years : good_period_years years n ≡ false → FirstGives book years log n (Err BadYear)
    gives_no_years g = gives_none BadYear (simp (book_told, log_told, g))

    pub gives_no_amounts : good_period_years years n ≡ true → all (year_fits book log) (take n years) ≡ false → FirstGives book years log n (Err TooLarge)
    gives_no_amounts g f = gives_none TooLarge (simp (book_told, log_told, g, f))

    -- the balances' answer is the period's
    pub gives_assessed : good_count n ≡ true → n ≤ length years → good_period_years years n ≡ true → all (year_fits book log) (take n years) ≡ true
        → (r : Result Figures Refusal) → YearsGives yearly n r → FirstGives book years log n r
    gives_assessed count fits g f r a =
        let range = amounts_in_range count fits (holds_good book log.regime_end book_told) (good_records years n g) f in
        let m : first_applicable (assess_rows_of yearly n) ≡ first_applicable (period_rows_of book years log n) =
        same_rows (book_holds book log.regime_end) (valid_log log) (good_period_years years n) (all (year_fits book log) (take n years)) (assessable yearly n) (balances_within yearly n) (lt_z (CLN yearly n) (FLN yearly n)) book_told log_told g f range in
        (a.0 ∙ m, a.1 ∙ ap (λ (k : ℕ). cond (eqb k 0) (figures_in yearly n) no_figures) m)
      where
        same_rows : (b v g f r w t : Bool) → b ≡ true → v ≡ true → g ≡ true → f ≡ true → r ≡ true
            → first_applicable ((BadYear, not r) ∷ (TooLarge, not w) ∷ (FloorAboveCap, t) ∷ [])
            ≡ first_applicable ((BadBook, not b) ∷ (BrokenLog, not v) ∷ (BadYear, not g) ∷ (TooLarge, not (f && w)) ∷ (FloorAboveCap, t) ∷ [])
        same_rows b v g f r w t i j k l m = simp (i, j, k, l, m)

  -- what is not refused is assessed as its yearly amounts are
  pub period_assessed : (r : Result Figures Refusal) → good_count n ≡ true → n ≤ length years → FirstGives book years log n r → answer_number r ≡ 0 → YearsGives yearly n r
  period_assessed r count fits g z =
      let none : first_applicable (period_rows_of book years log n) ≡ 0 = sym g.0 ∙ z in
      let clear = all_clear (period_rows_of book years log n) none in
      let w = balances_within yearly n in
      let a = all (year_fits book log) (take n years) in
      let b : book_holds book log.regime_end ≡ true = not_no (book_holds book log.regime_end) clear.0 in
      let f : (a && w) ≡ true = not_no (a && w) clear.1.1.1.0 in
      let range = amounts_in_range count fits (holds_good book log.regime_end b) (good_records years n (not_no (good_period_years years n) clear.1.1.0)) (and_left a w f) in
      let zero-too : first_applicable (assess_rows_of yearly n) ≡ 0 = simp (range, and_right a w f, clear.1.1.1.1.0) in (
        z ∙ sym zero-too,
        g.1 ∙ ap (λ (k : ℕ). cond (eqb k 0) (figures_in yearly n) no_figures) (none ∙ sym zero-too),
      )
