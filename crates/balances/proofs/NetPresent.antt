-- Balances beside the licence's sums: SC3 9, 11 to 13 and 16 to 18. Over any number of years. Assumes nothing.
use mathlib.Core.Path.{◌≡◌, refl, sym, ap, ◌∙◌}
use mathlib.Core.Bool.{true}
use mathlib.Core.Logic.{⊎_elim}
use mathlib.Core.List.{List}
use Prim.Native.Nat.{ℕ, zero, suc, ◌+◌, ◌*◌, ◌-◌, ◌≤◌, ◌<◌}
use native.Mathlib.Nat.{eq-or-lt_of_le, le_of_suc-le-suc, mul_comm, mul-one, one-mul, mul_assoc, mul_right_comm, add-mul, mul-le-mul_right}
use native.Mathlib.Omega.{arith}
use lib.ListN.{get_or}
use lib.IntN.{ℤ, pos, nat_abs, ◌+ℤ◌, ◌-ℤ◌, ◌*ℤ◌, +ℤ_invr}
use borrow.Author.Tests.{lt-ltb, le-ltb}
use Rattle.money.specs.Rounding.{round_z}
use Rattle.money.proofs.Pounds.{abs_add}
use Rattle.money.proofs.Parts.{sum, diff, times_over, times_under, times_sum, times_neg, times_times, to_eq}
use Rattle.money.proofs.Nearest.{abs_times, round_near}
use Rattle.balances.specs.declared.assessing.Yearly.{Yearly}
use Rattle.balances.specs.Balance.{carry_of, balance_after, good_amounts}
use Rattle.balances.specs.NetPresent.{growth_over, growth_under, product_later, uplift_over, uplift_under, common_divisor, UF, sum_to, net_present, exact_balance, sum_later, roundings, Near, FiveUplifts, NearLicence}
use Rattle.balances.specs.Assessment.{assessable}
use Rattle.balances.proofs.Ranges.{index_good, index_low, yearly_says}

-- ---- products over the later years
module _ (factor : ℕ → ℕ) where
  -- one year more
  later_next : (t n : ℕ) → t ≤ n → product_later factor t (suc n) ≡ product_later factor t n * factor (suc n)
  unfolding product_later
  later_next t n h = rw (lt-ltb t (suc n) (omega arith))

  -- no year is later
  later_none : (t n : ℕ) → n ≤ t → product_later factor t n ≡ 1
  unfolding product_later
  later_none t zero h = refl
  later_none t (suc n) h = rw (le-ltb t (suc n) h, later_none t n (omega arith))

  -- the years up to t, and those later than t
  later_meet : (t n : ℕ) → t ≤ n → product_later factor 0 t * product_later factor t n ≡ product_later factor 0 n
  later_meet t zero h = let e : t ≡ 0 = omega arith in rw (e, later_none 0 0 (omega arith))
  later_meet t (suc n) h =
      ⊎_elim
      (λ (e : t ≡ suc n). rw (e, later_none (suc n) (suc n) (omega arith), mul-one))
      (λ (lt : t < suc n).
      let le : t ≤ n = le_of_suc-le-suc lt in
      rw (later_next t n le, later_next 0 n (omega arith), ← mul_assoc, later_meet t n le))
      (eq-or-lt_of_le h)

-- ---- SC3 16: each year's uplift, over the common divisor
module _ (index : List ℕ) where
  -- the divisors up to a year and those after it are all the divisors
  pub divisors_meet : (t n : ℕ) → t ≤ n → uplift_under index 0 t * uplift_under index t n ≡ common_divisor index n
  divisors_meet t n h = later_meet (growth_under index) t n h

  -- so `UF` over the common divisor is the year's own uplift, `uplift_over` over `uplift_under`
  pub each_term : (t n : ℕ) → t ≤ n → UF index t n * uplift_under index t n ≡ uplift_over index t n * common_divisor index n
  each_term t n h = mul_assoc (uplift_over index t n) (uplift_under index 0 t) (uplift_under index t n) ∙ ap (λ (d : ℕ). uplift_over index t n * d) (divisors_meet t n h)

  -- one year more
  divisor_next : (n : ℕ) → common_divisor index (suc n) ≡ common_divisor index n * (10000 * get_or index n 0)
  divisor_next n = let before : suc n - 1 ≡ n = omega arith in rw before at (later_next (growth_under index) 0 n (omega arith))

  uplift_next : (t n : ℕ) → t ≤ n → UF index t (suc n) ≡ UF index t n * growth_over index (suc n)
  uplift_next t n h =
      rw (later_next (growth_over index) t n h) (mul_right_comm (uplift_over index t n) (growth_over index (suc n)) (uplift_under index 0 t))

  uplift_last : (n : ℕ) → UF index n n ≡ common_divisor index n
  uplift_last n = rw (later_none (growth_over index) n n (omega arith), one-mul)

-- ---- sums over the years
sum_grown : (f g : ℕ → ℤ) (by n : ℕ) → ((t : ℕ) → t ≤ n → g t ≡ f t *ℤ pos by) → sum_to g n ≡ sum_to f n *ℤ pos by
unfolding sum_to
sum_grown f g by zero h = h 0 (omega arith)
sum_grown f g by (suc n) h =
    rw (sum_grown f g by n (λ (t : ℕ) (l : t ≤ n). h t (omega arith)), h (suc n) (omega arith)) (sym (times_sum (sum_to f n) (f (suc n)) by))

later_grown : (f g : ℕ → ℕ) (by n : ℕ) → ((t : ℕ) → t ≤ n → g t ≡ f t * by) → sum_later g n ≡ sum_later f n * by
unfolding sum_later
later_grown f g by zero h = omega arith
later_grown f g by (suc n) h =
    rw (later_grown f g by n (λ (t : ℕ) (l : t ≤ n). h t (omega arith)), h (suc n) (omega arith)) (sym (add-mul (sum_later f n) (f (suc n)) by))

as_it_is : (a : ℤ) → a *ℤ pos 1 ≡ a
as_it_is a = to_eq (a *ℤ pos 1) a (omega (arith, times_over a 1, times_under a 1))

module _ (index : List ℕ) where
  -- one year more uplifts every rounding, and there is one rounding more
  roundings_next : (n : ℕ) → roundings index (suc n) ≡ roundings index n * growth_over index (suc n) + common_divisor index (suc n)
  unfolding roundings sum_later
  roundings_next n =
      rw (
        later_grown (λ (t : ℕ). UF index t n) (λ (t : ℕ). UF index t (suc n)) (growth_over index (suc n)) n (λ (t : ℕ) (h : t ≤ n). uplift_next index t n h),
        uplift_last index (suc n),
      )

  module _ (amounts : List ℤ) where
    -- one year more uplifts every amount, and there is that year's amount
    net_next : (n : ℕ)
        → net_present index amounts (suc n)
        ≡ net_present index amounts n *ℤ pos (growth_over index (suc n)) +ℤ get_or amounts (suc n) (pos 0) *ℤ pos (common_divisor index (suc n))
    unfolding net_present sum_to
    net_next n =
        rw (
          sum_grown
              (λ (t : ℕ). get_or amounts t (pos 0) *ℤ pos (UF index t n))
              (λ (t : ℕ). get_or amounts t (pos 0) *ℤ pos (UF index t (suc n)))
              (growth_over index (suc n))
              n
              (λ (t : ℕ) (h : t ≤ n).
              rw (uplift_next index t n h) (sym (times_times (get_or amounts t (pos 0)) (UF index t n) (growth_over index (suc n))))),
          uplift_last index (suc n),
        )

    -- with nothing rounded the balance is the licence's sum
    pub exact_is_sum : (n : ℕ) → exact_balance index amounts n ≡ net_present index amounts n
    unfolding exact_balance net_present sum_to product_later
    exact_is_sum zero = sym (as_it_is (get_or amounts 0 (pos 0)))
    exact_is_sum (suc n) = rw (exact_is_sum n) (sym (net_next n))

-- ---- the licence's own formulas, of five years
pub five_uplifts : (factor : ℕ → ℕ) → FiveUplifts factor
unfolding product_later
five_uplifts factor =
    record { t1 = simp one-mul; t2 = simp one-mul; t3 = simp one-mul; t4 = simp one-mul; t5 = refl }

-- SC3 9, 11, 12, 13
pub five_terms : (index : List ℕ) (amounts : List ℤ)
    → net_present index amounts 4
    ≡ get_or amounts 0 (pos 0) *ℤ pos (UF index 0 4)
    +ℤ get_or amounts 1 (pos 0) *ℤ pos (UF index 1 4)
    +ℤ get_or amounts 2 (pos 0) *ℤ pos (UF index 2 4)
    +ℤ get_or amounts 3 (pos 0) *ℤ pos (UF index 3 4)
    +ℤ get_or amounts 4 (pos 0) *ℤ pos (UF index 4 4)
unfolding net_present sum_to
five_terms index amounts = refl

-- ---- roundings
regroup : (p q r s : ℤ) → p +ℤ q -ℤ (r +ℤ q) ≡ (p -ℤ s) +ℤ (s -ℤ r)
regroup p q r s =
    to_eq (p +ℤ q -ℤ (r +ℤ q)) ((p -ℤ s) +ℤ (s -ℤ r))
    (omega (arith, diff (p +ℤ q) (r +ℤ q), sum p q, sum r q, sum (p -ℤ s) (s -ℤ r), diff p s, diff s r))

-- a balance b carried to x, against a sum e carried exactly, each with the year's amount a: they differ by the rounding of x, and by what b and e differed, grown
carried_apart : (b e a x : ℤ) (so_far over under : ℕ)
    → (x +ℤ a) *ℤ pos (so_far * under) -ℤ (e *ℤ pos over +ℤ a *ℤ pos (so_far * under))
    ≡ (x *ℤ pos under -ℤ b *ℤ pos over) *ℤ pos so_far +ℤ (b *ℤ pos so_far -ℤ e) *ℤ pos over
carried_apart b e a x so_far over under =
    simp (times_sum, times_neg, times_times, mul_comm under so_far, mul_comm over so_far)
    (regroup (x *ℤ pos (so_far * under)) (a *ℤ pos (so_far * under)) (e *ℤ pos over) (b *ℤ pos (so_far * over)))

both_near : (u v : ℤ) (j k c d : ℕ) → 2 * nat_abs u ≤ c → 2 * nat_abs v ≤ d → 2 * nat_abs (u *ℤ pos j +ℤ v *ℤ pos k) ≤ d * k + j * c
both_near u v j k c d h g =
    omega (
      arith,
      abs_add (u *ℤ pos j) (v *ℤ pos k),
      abs_times u j,
      abs_times v k,
      mul-le-mul_right j h,
      mul-le-mul_right k g,
      mul_assoc 2 (nat_abs u) j,
      mul_assoc 2 (nat_abs v) k,
      mul_comm j c,
    )

-- a year's carry adds its own rounding to what the earlier ones come to
carried_near : (b e a : ℤ) (so_far over under most : ℕ) → 0 < under → 2 * nat_abs (b *ℤ pos so_far -ℤ e) ≤ most
    → 2 * nat_abs ((round_z (b *ℤ pos over) under +ℤ a) *ℤ pos (so_far * under) -ℤ (e *ℤ pos over +ℤ a *ℤ pos (so_far * under))) ≤ most * over + so_far * under
carried_near b e a so_far over under most h near =
    let x : ℤ = round_z (b *ℤ pos over) under in
    rw (carried_apart b e a x so_far over under)
    (both_near (x *ℤ pos under -ℤ b *ℤ pos over) (b *ℤ pos so_far -ℤ e) so_far over under most (round_near (b *ℤ pos over) under h) near)

module _ (index : List ℕ) (amounts : List ℤ) where
  -- year one's amount is not rounded
  starts_near : Near (get_or amounts 0 (pos 0)) index amounts 0
  unfolding net_present sum_to product_later roundings sum_later
  starts_near = rw +ℤ_invr (omega arith)

  -- where every index that divides is above 0, the rounded balance is near the licence's sum
  pub rounded_near : (n : ℕ) → ((t : ℕ) → t < n → 0 < get_or index t 0) → Near (balance_after index amounts n) index amounts n
  unfolding balance_after carry_of
  rounded_near zero h = starts_near
  rounded_near (suc n) h =
      let some : 0 < 10000 * get_or index n 0 = omega (arith, h n (omega arith)) in
      rw (net_next index amounts n, roundings_next index n, divisor_next index n)
      (carried_near
      (balance_after index amounts n)
      (net_present index amounts n)
      (get_or amounts (suc n) (pos 0))
      (common_divisor index n)
      (growth_over index (suc n))
      (10000 * get_or index n 0)
      (roundings index n)
      some
      (rounded_near n (λ (t : ℕ) (l : t < n). h t (omega arith))))

  -- and so where the years are in range
  pub good_near : (n years : ℕ) → good_amounts index amounts years ≡ true → n ≤ years → Near (balance_after index amounts n) index amounts n
  good_near n years good h =
      rounded_near n (λ (t : ℕ) (l : t < n). omega (arith, index_low (get_or index t 0) (index_good index amounts years good t (omega arith))))

-- ---- the four balances of an assessment: SC3 9, 11, 12, 13
-- where the years are in range, each is near its net present value
pub assessed_near : (y : Yearly) (n : ℕ) → assessable y n ≡ true → NearLicence y n
assessed_near y n good =
    let says = yearly_says y n good in
    let le : n - 1 ≤ n = omega arith in
    record {
      revenue = good_near y.index y.revenue (n - 1) n says.revenue le;
      cap = good_near y.index y.cap (n - 1) n says.cap le;
      floor = good_near y.index y.floor (n - 1) n says.floor le;
      wpa = good_near y.index y.wpa (n - 1) n says.wpa le;
    }
