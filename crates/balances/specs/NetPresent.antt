-- Net present values with nothing rounded, over any number of years: SC3 9, 11 to 13 (the sums) and 16 to 18 (the uplift); rule 8.1.
-- Years count from 0 here, up to the last, n. A fraction is two numbers, one over the line and one under it. No contract is stated by these
-- definitions; theorems hold the balances that the contracts give beside them.
use Rattle.std.specs.Prelude.{cond, ◌≡◌, List, ℕ, zero, suc, ◌+◌, ◌*◌, ◌-◌, ◌≤◌, ltb, get_or, ℤ, pos, nat_abs, ◌+ℤ◌, ◌-ℤ◌, ◌*ℤ◌}
use Rattle.balances.specs.declared.assessing.Yearly.{Yearly}
use Rattle.balances.specs.Assessment.{ARN, CLN, FLN, WPAN}

-- ---- SC3 17 and 18: 1 + NODR of a year t after the first is 1.0388 x PPPI(t) / PPPI(t-1), so 10,388 x PPPI(t) over 10,000 x PPPI(t-1)
abbrev pub growth_over : List ℕ → ℕ → ℕ
growth_over index t = 10388 * get_or index t 0

abbrev pub growth_under : List ℕ → ℕ → ℕ
growth_under index t = 10000 * get_or index (t - 1) 0

-- ---- SC3 16: the uplift of a year, the product of 1 + NODR over the later years; 1 for the last year
unfoldable pub product_later : (ℕ → ℕ) → ℕ → ℕ → ℕ
product_later factor t zero = 1
product_later factor t (suc n) = product_later factor t n * cond (ltb t (suc n)) (factor (suc n)) 1

abbrev pub uplift_over : List ℕ → ℕ → ℕ → ℕ
uplift_over index t n = product_later (growth_over index) t n

abbrev pub uplift_under : List ℕ → ℕ → ℕ → ℕ
uplift_under index t n = product_later (growth_under index) t n

-- the first year's uplift has every divisor: the divisor that all years have in common
abbrev pub common_divisor : List ℕ → ℕ → ℕ
common_divisor index n = uplift_under index 0 n

-- the uplift of a year, over the common divisor
abbrev pub UF : List ℕ → ℕ → ℕ → ℕ
UF index t n = uplift_over index t n * uplift_under index 0 t

-- ---- SC3 9, 11, 12, 13: the sum of amounts, each times its uplift; over the common divisor
unfoldable pub sum_to : (ℕ → ℤ) → ℕ → ℤ
sum_to term zero = term 0
sum_to term (suc t) = sum_to term t +ℤ term (suc t)

unfoldable pub net_present : List ℕ → List ℤ → ℕ → ℤ
net_present index amounts n = sum_to (λ (t : ℕ). get_or amounts t (pos 0) *ℤ pos (UF index t n)) n

-- ---- rule 8.1 with nothing rounded: the balance before, times the year's uplift, and the year's amount.
-- Over the common divisor of the years so far
unfoldable pub exact_balance : List ℕ → List ℤ → ℕ → ℤ
exact_balance index amounts zero = get_or amounts 0 (pos 0)
exact_balance index amounts (suc n) =
    exact_balance index amounts n *ℤ pos (growth_over index (suc n)) +ℤ get_or amounts (suc n) (pos 0) *ℤ pos (common_divisor index (suc n))

-- ---- a pound for each rounding, with the uplift of its year: one in each year after the first. Over the common divisor
unfoldable pub sum_later : (ℕ → ℕ) → ℕ → ℕ
sum_later term zero = 0
sum_later term (suc t) = sum_later term t + term (suc t)

unfoldable pub roundings : List ℕ → ℕ → ℕ
roundings index n = sum_later (λ (t : ℕ). UF index t n) n

-- a balance is within half a pound for each rounding, with the uplift of its year, of the licence's sum. Both sides times two and times the common divisor
abbrev pub Near : ℤ → List ℕ → List ℤ → ℕ → Type 0
Near balance index amounts n = 2 * nat_abs (balance *ℤ pos (common_divisor index n) -ℤ net_present index amounts n) ≤ roundings index n

-- ---- the four balances of an assessment over n years
pub record NearLicence (y : Yearly) (n : ℕ) : Type 0 where
  pub revenue : Near (ARN y n) y.index y.revenue (n - 1)
  pub cap : Near (CLN y n) y.index y.cap (n - 1)
  pub floor : Near (FLN y n) y.index y.floor (n - 1)
  pub wpa : Near (WPAN y n) y.index y.wpa (n - 1)

-- ---- SC3 16 (a) to (e), for what stands over the line and for what stands under it
pub record FiveUplifts (factor : ℕ → ℕ) : Type 0 where
  pub t1 : product_later factor 0 4 ≡ factor 1 * factor 2 * factor 3 * factor 4
  pub t2 : product_later factor 1 4 ≡ factor 2 * factor 3 * factor 4
  pub t3 : product_later factor 2 4 ≡ factor 3 * factor 4
  pub t4 : product_later factor 3 4 ≡ factor 4
  pub t5 : product_later factor 4 4 ≡ 1
