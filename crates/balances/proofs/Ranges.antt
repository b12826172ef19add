-- Laws on the ranges of the first n years. Assumes nothing.
use mathlib.Core.Path.{◌≡◌, refl, sym, ap, ◌∙◌}
use mathlib.Core.Bool.{Bool, true, false, not, ◌&&◌}
use mathlib.Core.Logic.{⊎_elim}
use mathlib.Core.List.{List}
use Prim.Native.Nat.{ℕ, zero, suc, ◌+◌, ◌≤◌, ◌<◌}
use native.Mathlib.Numerals.{add-one}
use native.Mathlib.Omega.{arith}
use native.Mathlib.Nat.{eq-or-lt_of_le, le_of_suc-le-suc, not-suc-le-zero}
use lib.Dec.{leb}
use lib.ListN.{get_or}
use lib.IntN.{ℤ, pos, nat_abs}
use lib.Signed.{lt_z, non_neg}
use borrow.Author.Tests.{leb-true}
use Rattle.money.proofs.Pounds.{non_neg_is}
use Rattle.lists.proofs.Tests.{and_left, and_right, and_made}
use Rattle.balances.specs.declared.assessing.Yearly.{Yearly}
use Rattle.balances.specs.Balance.{period_years, good_count, good_index, good_yearly_amount, good_amounts}
use Rattle.balances.specs.Assessment.{not_negative, assessable}

-- ---- a test of each of the first n years, the last one first
module _ (each : ℕ → Bool) (first : ℕ → Bool) (more : (n : ℕ) → first (suc n) ≡ (each n && first n)) where
  one_more : (k : ℕ) → first k ≡ true → each k ≡ true → first (k + 1) ≡ true
  one_more k e here = rw add-one (more k ∙ and_made here e)

  each_of : (n k : ℕ) → first n ≡ true → k < n → each k ≡ true
  each_of zero k e h = absurd (not-suc-le-zero h)
  each_of (suc m) k e h =
      let both : (each m && first m) ≡ true = sym (more m) ∙ e in
      ⊎_elim
      (λ (q : k ≡ m). rw q (and_left (each m) (first m) both))
      (λ (lt : k < m). each_of m k (and_right (each m) (first m) both) lt)
      (eq-or-lt_of_le (le_of_suc-le-suc h))

  one_fails : (n k : ℕ) → k < n → each k ≡ false → false ≡ first n
  one_fails n k h e = by (first n) refl
    where
      by : (b : Bool) → first n ≡ b → false ≡ b
      by true g = sym e ∙ each_of n k g h
      by false g = refl

-- ---- indices and amounts
module _ (index : List ℕ) (amounts : List ℤ) where
  abbrev pub year_good : ℕ → Bool
  year_good k = good_index (get_or index k 0) && good_yearly_amount (get_or amounts k (pos 0))

  next_year : (n : ℕ) → good_amounts index amounts (suc n) ≡ (year_good n && good_amounts index amounts n)
  unfolding good_amounts
  next_year n = refl

  pub good_none : good_amounts index amounts 0 ≡ true
  unfolding good_amounts
  good_none = refl

  pub good_more : (k : ℕ) → good_amounts index amounts k ≡ true → year_good k ≡ true → good_amounts index amounts (k + 1) ≡ true
  good_more = one_more year_good (good_amounts index amounts) next_year

  pub bad_at : (n k : ℕ) → k < n → year_good k ≡ false → false ≡ good_amounts index amounts n
  bad_at = one_fails year_good (good_amounts index amounts) next_year

  -- the years before a year in range are in range
  pub good_before : (n m : ℕ) → m ≤ n → good_amounts index amounts n ≡ true → good_amounts index amounts m ≡ true
  good_before n zero h e = good_none
  good_before n (suc m) h e =
      next_year m
      ∙ and_made (each_of year_good (good_amounts index amounts) next_year n m e (omega arith)) (good_before n m (omega arith) e)

  module _ (n : ℕ) (good : good_amounts index amounts n ≡ true) (k : ℕ) (h : k < n) where
    here : year_good k ≡ true
    here = each_of year_good (good_amounts index amounts) next_year n k good h

    pub index_good : good_index (get_or index k 0) ≡ true
    index_good = and_left (good_index (get_or index k 0)) (good_yearly_amount (get_or amounts k (pos 0))) here

    pub amount_small : nat_abs (get_or amounts k (pos 0)) ≤ 1000000000
    amount_small = leb-true (nat_abs (get_or amounts k (pos 0))) 1000000000 (and_right (good_index (get_or index k 0)) (good_yearly_amount (get_or amounts k (pos 0))) here)

-- what a good index says
pub index_low : (i : ℕ) → good_index i ≡ true → 5000 ≤ i
index_low i e = leb-true 5000 i (and_left (leb 5000 i) (leb i 50000) e)

pub index_high : (i : ℕ) → good_index i ≡ true → i ≤ 50000
index_high i e = leb-true i 50000 (and_right (leb 5000 i) (leb i 50000) e)

-- ---- not negative
module _ (amounts : List ℤ) where
  positive : ℕ → Bool
  positive k = non_neg (get_or amounts k (pos 0))

  next_amount : (n : ℕ) → not_negative amounts (suc n) ≡ (positive n && not_negative amounts n)
  unfolding not_negative positive
  next_amount n = refl

  sign : (k : ℕ) → positive k ≡ not (lt_z (get_or amounts k (pos 0)) (pos 0))
  unfolding positive
  sign k = non_neg_is (get_or amounts k (pos 0))

  pub none_negative : not_negative amounts 0 ≡ true
  unfolding not_negative
  none_negative = refl

  pub more_positive : (k : ℕ) → not_negative amounts k ≡ true → lt_z (get_or amounts k (pos 0)) (pos 0) ≡ false → not_negative amounts (k + 1) ≡ true
  more_positive k e here = one_more positive (not_negative amounts) next_amount k e (sign k ∙ ap not here)

  pub negative_at : (n k : ℕ) → k < n → lt_z (get_or amounts k (pos 0)) (pos 0) ≡ true → false ≡ not_negative amounts n
  negative_at n k h e = one_fails positive (not_negative amounts) next_amount n k h (sign k ∙ ap not e)

-- ---- how many years there are
pub record CountSays (n : ℕ) : Type 0 where
  pub some : 1 ≤ n
  pub room : n ≤ period_years

pub count_says : (n : ℕ) → good_count n ≡ true → CountSays n
count_says n g = record {
  some = leb-true 1 n (and_left (leb 1 n) (leb n period_years) g);
  room = leb-true n period_years (and_right (leb 1 n) (leb n period_years) g);
}

-- ---- what years in range say
pub record YearlySays (y : Yearly) (n : ℕ) : Type 0 where
  pub count : CountSays n
  pub revenue : good_amounts y.index y.revenue n ≡ true
  pub cap : good_amounts y.index y.cap n ≡ true
  pub floor : good_amounts y.index y.floor n ≡ true
  pub wpa : good_amounts y.index y.wpa n ≡ true

pub yearly_says : (y : Yearly) (n : ℕ) → assessable y n ≡ true → YearlySays y n
yearly_says y n good =
    let a = good_amounts y.index y.revenue n in
    let b = good_amounts y.index y.cap n in
    let c = not_negative y.cap n in
    let d = good_amounts y.index y.floor n in
    let e = not_negative y.floor n in
    let f = good_amounts y.index y.wpa n in
    let h = and_right (good_count n) (a && (b && (c && (d && (e && f))))) good in
    let i = and_right a (b && (c && (d && (e && f)))) h in
    let j = and_right c (d && (e && f)) (and_right b (c && (d && (e && f))) i) in
    record {
      count = count_says n (and_left (good_count n) (a && (b && (c && (d && (e && f))))) good);
      revenue = and_left a (b && (c && (d && (e && f)))) h;
      cap = and_left b (c && (d && (e && f))) i;
      floor = and_left d (e && f) j;
      wpa = and_right e f (and_right d (e && f) j);
    }
