-- What a book in range says of its entries. Assumes nothing.
use mathlib.Core.Path.{◌≡◌}
use mathlib.Core.Bool.{true, ◌&&◌}
use Prim.Native.Nat.{ℕ, ◌≤◌}
use borrow.Author.Tests.{leb-true}
use lib.Dec.{eqb}
use lib.IntN.{ℤ, nat_abs, ◌+ℤ◌}
use lib.Signed.{non_neg}
use Rattle.lists.proofs.Tests.{and_left, and_right}
use Rattle.outage.specs.Log.{good_regime_end}
use Rattle.levels.specs.declared.Book.{Book}
use Rattle.levels.specs.Book.{good_target, good_factor, good_book_amount, good_sum, good_book, book_holds}

-- ---- a preliminary level with its two adjustments
pub record SumSays (preliminary construction opex : ℤ) : Type 0 where
  pub level : nat_abs preliminary ≤ 1000000000
  pub built : nat_abs construction ≤ 1000000000
  pub run : nat_abs opex ≤ 1000000000
  pub all : nat_abs (preliminary +ℤ construction +ℤ opex) ≤ 1000000000
  pub sign : non_neg (preliminary +ℤ construction +ℤ opex) ≡ true

sum_says : (p c o : ℤ) → good_sum p c o ≡ true → SumSays p c o
sum_says p c o g =
    let s = p +ℤ c +ℤ o in
    let rest = good_book_amount o && (non_neg s && good_book_amount s) in
    let q = and_left (non_neg p && good_book_amount p) (good_book_amount c && rest) g in
    let r = and_right (non_neg p && good_book_amount p) (good_book_amount c && rest) g in
    let t = and_right (good_book_amount c) rest r in
    let u = and_right (good_book_amount o) (non_neg s && good_book_amount s) t in
    record {
      level = leb-true (nat_abs p) 1000000000 (and_right (non_neg p) (good_book_amount p) q);
      built = leb-true (nat_abs c) 1000000000 (and_left (good_book_amount c) rest r);
      run = leb-true (nat_abs o) 1000000000 (and_left (good_book_amount o) (non_neg s && good_book_amount s) t);
      all = leb-true (nat_abs s) 1000000000 (and_right (non_neg s) (good_book_amount s) u);
      sign = and_left (non_neg s) (good_book_amount s) u;
    }

-- ---- the book
pub record BookSays (b : Book) : Type 0 where
  pub end : good_regime_end b.regime_end ≡ true
  pub first : b.first_target ≤ 20000000
  pub last : b.last_target ≤ 20000000
  pub factor : b.miss_factor ≤ 10000
  pub cap : SumSays b.pcl b.pcac b.orac
  pub floor : SumSays b.pfl b.pcaf b.oraf

pub book_says : (b : Book) → good_book b ≡ true → BookSays b
unfolding good_book
book_says b g =
    let e = good_regime_end b.regime_end in
    let t = good_target b.first_target in
    let u = good_target b.last_target in
    let f = good_factor b.miss_factor in
    let c = good_sum b.pcl b.pcac b.orac in
    let d = good_sum b.pfl b.pcaf b.oraf in
    let n = and_left (e && (t && (u && f))) (c && d) g in
    let m = and_right (e && (t && (u && f))) (c && d) g in
    let q = and_right e (t && (u && f)) n in
    let r = and_right t (u && f) q in
    record {
      end = and_left e (t && (u && f)) n;
      first = leb-true b.first_target 20000000 (and_left t (u && f) q);
      last = leb-true b.last_target 20000000 (and_left u f r);
      factor = leb-true b.miss_factor 10000 (and_right u f r);
      cap = sum_says b.pcl b.pcac b.orac (and_left c d m);
      floor = sum_says b.pfl b.pcaf b.oraf (and_right c d m);
    }

-- a book that holds for a log is in range
pub holds_good : (b : Book) (regime_end : ℕ) → book_holds b regime_end ≡ true → good_book b ≡ true
holds_good b regime_end h = and_left (good_book b) (eqb b.regime_end regime_end) h
