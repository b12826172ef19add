-- A period's years, one after the other, and the first n of them. Assumes nothing.
use mathlib.Core.Path.{◌≡◌, refl, sym, ap, ◌∙◌}
use mathlib.Core.Bool.{Bool, true, false, cond, ◌&&◌}
use mathlib.Core.List.{List, [], ◌∷◌, map}
use Prim.Native.Nat.{ℕ, zero, suc, ◌+◌, ◌%◌, ◌≤◌, ◌<◌}
use native.Mathlib.Nat.{not-suc-le-zero, le_of_suc-le-suc}
use native.Mathlib.Omega.{arith}
use borrow.Author.Tests.{eq-eqb, ne_eqb}
use lib.ListN.{length, get_or, take, drop, set, replicate, length-map, get_or-append}
use lib.Seq.{get_or-take, length-take-le}
use lib.IntN.{pos}
use Rattle.std.specs.Prelude.{Ok, Err}
use Rattle.std.proofs.lemmas.List.{take_all}
use Rattle.refusals.specs.declared.Refusal.{Refusal}
use Rattle.refusals.specs.declared.Refusal.TheVariants.{TooLarge}
use Rattle.lists.specs.Lists.{all}
use Rattle.lists.proofs.Lists.{all_at}
use Rattle.lists.proofs.Places.{drop_next, replaced_next}
use Rattle.outage.specs.declared.Log.{Log}
use Rattle.outage.specs.Log.{log_made}
use Rattle.year.specs.declared.Year.{Year}
use Rattle.year.specs.Year.{good_year}
use Rattle.levels.specs.declared.Book.{Book}
use Rattle.levels.specs.Levels.{cap_level, floor_of}
use Rattle.revenue.specs.Revenue.{assessed_revenue}
use Rattle.balances.specs.Balance.{period_years}
use Rattle.assessment.specs.declared.Row.{Row}
use Rattle.assessment.specs.Period.{numbers_from, starts_period, good_period_years, first_rows, yearly_of, year_fits}
use Rattle.assessment.specs.Steps.{good_from, with_row}

-- what stands for a year past the end of a list
abbrev pub no_year : Year
no_year = record {
  number = 0;
  pppi = 0;
  rate = 0;
  aic = 0;
  pyc = 0;
  pyf = 0;
  lines = [];
  line_count = 0;
  exceptional = false;
  wpa = pos 0;
  log = log_made [] 0 0;
}

-- ---- a list's element, whatever stands for a missing one
pub map_at : {A B : Type 0} (f : A → B) (l : List A) (n : ℕ) (d : A) (e : B) → n < length l → get_or (map f l) n e ≡ f (get_or l n d)
map_at f [] n d e h = absurd (not-suc-le-zero h)
map_at f (x ∷ xs) zero d e h = refl
map_at f (x ∷ xs) (suc n) d e h = map_at f xs n d e (le_of_suc-le-suc h)

and_false : (b : Bool) → (b && false) ≡ false
and_false true = refl
and_false false = refl

-- ---- the first n of a list
module _ {A : Type 0} (d : A) (l : List A) (n : ℕ) (fits : n ≤ length l) where
  -- what holds of all of them holds of each
  pub first_at : (p : A → Bool) → all p (take n l) ≡ true → (k : ℕ) → k < n → p (get_or l k d) ≡ true
  first_at p g k h = ap p (sym (get_or-take n l k d h)) ∙ all_at p d (take n l) g k (omega (arith, length-take-le n l fits))

  -- a row of theirs, with nothing after it
  pub row_at : {B : Type 0} (f : A → B) (e : B) (k : ℕ) → k < n → get_or (first_rows e n (map f l)) k e ≡ f (get_or l k d)
  row_at f e k h =
      get_or-append (take n (map f l)) (drop n (replicate period_years e)) e k (omega (arith, length-take-le n (map f l) (omega (arith, length-map l f))))
      ∙ get_or-take n (map f l) k e h
      ∙ map_at f l k d e (omega arith)

-- ---- the years from place k on
abbrev pub good_rest : ℕ → ℕ → List Year → Bool
good_rest number k years = all good_year (drop k years) && numbers_from (number + k) (drop k years)

-- ---- one period
period_first : (years : List Year) (d : Year) → 1 ≤ length years
    → good_period_years years (length years) ≡ (all good_year years && (starts_period (get_or years 0 d).number && numbers_from (get_or years 0 d).number years))
unfolding good_period_years
period_first [] d h = absurd (not-suc-le-zero h)
period_first (y ∷ ys) d h = ap (λ (l : List Year). all good_year (y ∷ l) && (starts_period y.number && numbers_from y.number (y ∷ l))) (take_all (length ys) ys (omega arith))

module _ (years : List Year) (d : Year) (some : 1 ≤ length years) where
  pub period_other : ((get_or years 0 d).number % period_years ≡ 1 → ⊥) → good_period_years years (length years) ≡ false
  period_other f =
      period_first years d some ∙ simp (ne_eqb ((get_or years 0 d).number % period_years) 1 f) (and_false (all good_year years))

  pub period_start : (get_or years 0 d).number % period_years ≡ 1 → good_period_years years (length years) ≡ good_from (get_or years 0 d).number years
  period_start f = period_first years d some ∙ simp (eq-eqb ((get_or years 0 d).number % period_years) 1 f)

-- ---- what is given says that all of it fits, and a refusal that it does not
pub fits_found : {A : Type 0} (b : Bool) (x y : A) → Ok x ≡ cond b (Ok y) (Err TooLarge) → (b ≡ true) × (x ≡ y)
fits_found true x y e = (refl, cc)
fits_found false x y e = cc

pub fits_refused : {A : Type 0} (b : Bool) (y : A) (why : Refusal) → Err why ≡ cond b (Ok y) (Err TooLarge) → (b ≡ false) × (why ≡ TooLarge)
fits_refused true y why e = cc
fits_refused false y why e = (refl, cc)

-- ---- the amounts, a year more a turn
module _ (book : Book) (years : List Year) (log : Log) where
  -- what one year brings
  abbrev pub brought : Year → Row
  brought y = record { index = y.pppi; revenue = assessed_revenue y; cap = cap_level book y; floor = floor_of book y log; wpa = y.wpa }

  module _ (k : ℕ) (d : Year) (h : k < length years) (room : length years ≤ period_years) where
    cell : {B : Type 0} (f : Year → B) (e : B) → set (first_rows e k (map f years)) k (f (get_or years k d)) ≡ first_rows e (k + 1) (map f years)
    cell {B} f e =
        ap (set (first_rows e k (map f years)) k) (sym (map_at f years k d e h))
        ∙ replaced_next e (map f years) (replicate period_years e) k (omega (arith, length-map years f)) (omega arith)

    pub yearly_on : with_row (yearly_of book years log k) k (brought (get_or years k d)) ≡ yearly_of book years log (k + 1)
    yearly_on =
        cc (
          cell (λ (y : Year). y.pppi) 0,
          cell assessed_revenue (pos 0),
          cell (cap_level book) (pos 0),
          cell (λ (y : Year). floor_of book y log) (pos 0),
          cell (λ (y : Year). y.wpa) (pos 0),
        )

  -- ---- whether the years fit, by those to come
  pub fits_next : (k : ℕ) (d : Year) → k < length years → {b : Bool} → year_fits book log (get_or years k d) ≡ b
      → all (year_fits book log) (drop k years) ≡ (b && all (year_fits book log) (drop (k + 1) years))
  fits_next k d h f = ap (all (year_fits book log)) (drop_next d years k h) ∙ ap (λ (b : Bool). b && all (year_fits book log) (drop (k + 1) years)) f
