-- The amounts of an accepted period, year by year. Assumes nothing.
use mathlib.Core.Path.{◌≡◌, refl, sym, ap, ◌∙◌}
use mathlib.Core.Bool.{Bool, true, cond, ◌&&◌}
use mathlib.Core.List.{List, [], ◌∷◌, ◌++◌, append_assoc, append-nil}
use Prim.Native.Nat.{ℕ, ◌+◌, ◌*◌, ◌-◌, ◌≤◌, ◌<◌}
use native.Mathlib.Numerals.{add-one}
use native.Mathlib.Omega.{arith}
use borrow.Author.Tests.{eq-eqb}
use lib.IntN.{ℤ, pos}
use borrow.Rule.Slice.PartMut.{put_mid}
use lib.ListN.{length, get_or, take, drop, replicate, length-append}
use lib.Seq.{take-suc, take_all, length-take-le}
use Rattle.std.proofs.Common.{take_at, drop_at}
use Rattle.std.proofs.lemmas.List.{drop-replicate}
use Rattle.std.specs.Prelude.{Result, Ok}
use Rattle.lists.specs.Lists.{all, padded}
use Rattle.lists.proofs.Tests.{and_left, and_right, and_made, not_no}
use Rattle.refusals.specs.Refusals.{first_applicable}
use Rattle.refusals.specs.declared.Refusal.{Refusal}
use Rattle.refusals.proofs.Laws.{all_clear}
use Rattle.refusals.proofs.Cases.{same_case}
use Rattle.outage.specs.declared.Log.{Log}
use Rattle.outage.specs.Log.{valid_log}
use Rattle.year.specs.declared.Year.{Year}
use Rattle.year.specs.Year.{good_year}
use Rattle.levels.specs.declared.Book.{Book}
use Rattle.levels.specs.declared.levelling.Levels.{Levels}
use Rattle.levels.specs.Book.{book_holds}
use Rattle.levels.specs.Levels.{cap_level, floor_of, level_fits, levels_rows, no_levels, LevelsGives}
use Rattle.revenue.specs.Revenue.{assessed_revenue, revenue_rows, RevenueGives}
use Rattle.balances.specs.declared.assessing.Figures.{Figures}
use Rattle.balances.specs.Balance.{period_years}
use Rattle.balances.specs.Assessment.{balances_within}
use Rattle.assessment.specs.Period.{good_period_years, year_fits, yearly_of, period_rows}
use Rattle.assessment.proofs.Years.{no_year, first_at}
use Rattle.assessment.proofs.Period.{good_records}
use Rattle.workbook_input.specs.Calls.{year_amounts, yearly_amounts, period_amounts}

-- ---- a year of an accepted period: its levels and its revenue are accepted too
pub record YearGiven (book : Book) (log : Log) (y : Year) : Type 0 where
  pub levels : first_applicable (levels_rows book y log) ≡ 0
  pub revenue : first_applicable (revenue_rows y) ≡ 0

module _ (book : Book) (years : List Year) (log : Log) (len : length years ≡ period_years) (z : first_applicable (period_rows book years log) ≡ 0) where
  pub year_given : (k : ℕ) → k < period_years → YearGiven book log (get_or years k no_year)
  year_given k h =
      let y = get_or years k no_year in
      let clear = all_clear (period_rows book years log) z in
      let b : book_holds book log.regime_end ≡ true = not_no (book_holds book log.regime_end) clear.0 in
      let v : valid_log log ≡ true = not_no (valid_log log) clear.1.0 in
      let room : period_years ≤ length years = omega arith in
      let d : good_year y ≡ true = first_at no_year years period_years room good_year (good_records years period_years (not_no (good_period_years years period_years) clear.1.1.0)) k h in
      let w = balances_within (yearly_of book years log period_years) period_years in
      let a = all (year_fits book log) (take period_years years) in
      let f : year_fits book log y ≡ true = first_at no_year years period_years room (year_fits book log) (and_left a w (not_no (a && w) clear.1.1.1.0)) k h in
      let c = level_fits (cap_level book y) in
      let l = level_fits (floor_of book y log) in
      let r = level_fits (assessed_revenue y) in
      let rest : (l && r) ≡ true = and_right c (l && r) f in
      let both : (c && l) ≡ true = and_made (and_left c (l && r) f) (and_left l r rest) in
      let one : r ≡ true = and_right l r rest in
      record { levels = rw (b, v, d, both); revenue = rw (d, one) }

module _ (book : Book) (log : Log) (y : Year) (g : YearGiven book log y) where
  pub levels_are : (r : Result Levels Refusal) → LevelsGives book y log r → r ≡ Ok (record { cap = cap_level book y; floor = floor_of book y log })
  levels_are r h =
      same_case no_levels r _ (h.0 ∙ g.levels)
      (h.1 ∙ ap (λ (b : Bool). cond b (record { cap = cap_level book y; floor = floor_of book y log }) no_levels) (eq-eqb (first_applicable (levels_rows book y log)) 0 g.levels))

  pub revenue_is : (r : Result ℤ Refusal) → RevenueGives y r → r ≡ Ok (assessed_revenue y)
  revenue_is r h = same_case (pos 0) r _ (h.0 ∙ g.revenue) (h.1 ∙ ap (λ (b : Bool). cond b (assessed_revenue y) (pos 0)) (eq-eqb (first_applicable (revenue_rows y)) 0 g.revenue))

-- ---- amounts more
pub held : List ℤ → List ℤ
held = padded 25 (pos 0)

pub none_held : replicate 25 (pos 0) ≡ held []
unfolding held
none_held = refl

module _ (l m : List ℤ) (at k : ℕ) (e : length l ≡ at) (f : length m ≡ k) (h : at + k ≤ 25) where
  pub more_held : put_mid at k (held l) m ≡ held (l ++ m)
  unfolding held
  more_held =
      let rest = replicate (25 - length l) (pos 0) in
      let left : (25 - length l) - k ≡ 25 - length (l ++ m) = omega (arith, length-append l m) in
      let behind : drop k (drop at (l ++ rest)) ≡ replicate (25 - length (l ++ m)) (pos 0) =
      ap (drop k) (drop_at l rest at e) ∙ drop-replicate k (25 - length l) (pos 0) ∙ ap (λ (n : ℕ). replicate n (pos 0)) left in
      ap (λ (x : List ℤ). x ++ (m ++ drop k (drop at (l ++ rest)))) (take_at l rest at e)
      ∙ ap (λ (x : List ℤ). l ++ (m ++ x)) behind
      ∙ sym (append_assoc l m (replicate (25 - length (l ++ m)) (pos 0)))

-- ---- year by year
yearly_length : (log : Log) (years : List Year) → length (yearly_amounts log years) ≡ length years * 4
yearly_length log [] = refl
yearly_length log (y ∷ ys) = omega (arith, yearly_length log ys)

yearly_append : (log : Log) (xs ys : List Year) → yearly_amounts log (xs ++ ys) ≡ yearly_amounts log xs ++ yearly_amounts log ys
yearly_append log [] ys = refl
yearly_append log (x ∷ xs) ys = ap (λ (l : List ℤ). year_amounts log x ++ l) (yearly_append log xs ys)

module _ (log : Log) (years : List Year) (len : length years ≡ period_years) where
  first_length : (k : ℕ) → k ≤ period_years → length (yearly_amounts log (take k years)) ≡ k * 4
  first_length k h = yearly_length log (take k years) ∙ ap (λ (n : ℕ). n * 4) (length-take-le k years (omega arith))

  pub year_more : (k : ℕ) → k < period_years → (amounts own : List ℤ) → amounts ≡ held (yearly_amounts log (take k years)) → own ≡ year_amounts log (get_or years k no_year)
      → put_mid (k * 4) 4 amounts own ≡ held (yearly_amounts log (take (k + 1) years))
  year_more k h amounts own e f =
      let y = get_or years k no_year in
      let l = yearly_amounts log (take k years) in
      ap (λ (x : List ℤ). put_mid (k * 4) 4 x own) e
      ∙ ap (put_mid (k * 4) 4 (held l)) f
      ∙ more_held l (year_amounts log y) (k * 4) 4 (first_length k (omega arith)) refl (omega arith)
      ∙ ap held (sym (yearly_append log (take k years) (y ∷ [])))
      ∙ ap (λ (x : List Year). held (yearly_amounts log x)) (sym (take-suc years k no_year (omega arith)) ∙ ap (λ (n : ℕ). take n years) (sym (add-one k)))

  -- and then the balances and the adjustment
  pub figures_more : (k : ℕ) → k ≡ period_years → (f : Figures) (amounts : List ℤ) → amounts ≡ held (yearly_amounts log (take k years))
      → put_mid 20 5 amounts (period_amounts f) ≡ yearly_amounts log years ++ period_amounts f
  unfolding held
  figures_more k e f amounts is =
      let l = yearly_amounts log years in
      let all : take k years ≡ years = take_all k years (omega arith) in
      let n : length l ≡ 20 = yearly_length log years ∙ omega arith in
      let none : 25 - length (l ++ period_amounts f) ≡ 0 = omega (arith, length-append l (period_amounts f)) in
      ap (λ (x : List ℤ). put_mid 20 5 x (period_amounts f)) (is ∙ ap (λ (x : List Year). held (yearly_amounts log x)) all)
      ∙ more_held l (period_amounts f) 20 5 n refl (omega arith)
      ∙ ap (λ (j : ℕ). (l ++ period_amounts f) ++ replicate j (pos 0)) none
      ∙ append-nil (l ++ period_amounts f)
