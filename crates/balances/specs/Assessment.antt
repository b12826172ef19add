-- The assessment: rules 8.2 to 8.4. Over the first n of five years; that of a whole period has all five.
use Rattle.std.specs.Prelude.{Bool, true, cond, not, ◌&&◌, List, [], ◌∷◌, ◌≡◌, ℕ, zero, suc, ◌-◌, get_or, ℤ, pos, ◌-ℤ◌, Result}
use Rattle.std.specs.Int.Signed.{lt_z, non_neg}
use Rattle.refusals.specs.Refusals.{Rows, accepted, first_applicable, answer_number, given_or}
use Rattle.refusals.specs.declared.Refusal.{Refusal}
use Rattle.refusals.specs.declared.Refusal.TheVariants.{BadYear, TooLarge, FloorAboveCap}
use Rattle.balances.specs.declared.assessing.Yearly.{Yearly}
use Rattle.balances.specs.declared.assessing.Figures.{Figures}
use Rattle.balances.specs.Balance.{period_years, good_count, balance_after, later_within, good_amounts}

-- ---- rule 8.4: amounts and indices in range, no cap and no floor negative; of the first n years
unfoldable pub not_negative : List ℤ → ℕ → Bool
not_negative amounts zero = true
not_negative amounts (suc n) = non_neg (get_or amounts n (pos 0)) && not_negative amounts n

abbrev pub good_rows : Yearly → ℕ → Bool
good_rows y n =
    good_amounts y.index y.revenue n
    && (good_amounts y.index y.cap n
    && (not_negative y.cap n
    && (good_amounts y.index y.floor n && (not_negative y.floor n && good_amounts y.index y.wpa n))))

-- and n is one to five
abbrev pub assessable : Yearly → ℕ → Bool
assessable y n = good_count n && good_rows y n

-- ---- rule 8.2: the four balances A, C, F and W over n years (SC3 9, 11, 12, 13)
abbrev pub ARN : Yearly → ℕ → ℤ
ARN y n = balance_after y.index y.revenue (n - 1)

abbrev pub CLN : Yearly → ℕ → ℤ
CLN y n = balance_after y.index y.cap (n - 1)

abbrev pub FLN : Yearly → ℕ → ℤ
FLN y n = balance_after y.index y.floor (n - 1)

abbrev pub WPAN : Yearly → ℕ → ℤ
WPAN y n = balance_after y.index y.wpa (n - 1)

-- rule 8.4: the limit of a balance, after each year
abbrev pub balances_within : Yearly → ℕ → Bool
balances_within y n =
    later_within y.index y.revenue 0 (n - 1)
    && (later_within y.index y.cap 0 (n - 1) && (later_within y.index y.floor 0 (n - 1) && later_within y.index y.wpa 0 (n - 1)))

-- ---- rule 8.3: T, and the adjustment
unfoldable pub held_between : ℤ → ℤ → ℤ → ℤ
held_between revenue floor cap = cond (lt_z revenue floor) floor (cond (lt_z cap revenue) cap revenue)

abbrev pub figures_of : ℤ → ℤ → ℤ → ℤ → Figures
figures_of revenue cap floor paid = record {
  revenue = revenue;
  cap = cap;
  floor = floor;
  wpa = paid;
  held = held_between revenue floor cap;
  adjustment = held_between revenue floor cap -ℤ revenue -ℤ paid;
}

-- those of n years
abbrev pub figures_in : Yearly → ℕ → Figures
figures_in y n = figures_of (ARN y n) (CLN y n) (FLN y n) (WPAN y n)

abbrev pub no_figures : Figures
no_figures = record { revenue = pos 0; cap = pos 0; floor = pos 0; wpa = pos 0; held = pos 0; adjustment = pos 0 }

-- ---- the call, over n years
abbrev pub assess_rows_of : Yearly → ℕ → Rows
assess_rows_of y n = (BadYear, not (assessable y n)) ∷ (TooLarge, not (balances_within y n)) ∷ (FloorAboveCap, lt_z (CLN y n) (FLN y n)) ∷ []

abbrev pub assess_given_of : Yearly → ℕ → Figures
assess_given_of y n = cond (accepted (assess_rows_of y n)) (figures_in y n) no_figures

abbrev pub assess_rows : Yearly → Rows
assess_rows y = assess_rows_of y period_years

abbrev pub assess_given : Yearly → Figures
assess_given y = assess_given_of y period_years

-- what `assess_years` promises of its result
abbrev pub YearsGives : Yearly → ℕ → Result Figures Refusal → Type 0
YearsGives y n r = (answer_number r ≡ first_applicable (assess_rows_of y n)) × (given_or no_figures r ≡ assess_given_of y n)

-- what `assess` promises of its result: the years of a whole period
abbrev pub AssessGives : Yearly → Result Figures Refusal → Type 0
AssessGives y r = (answer_number r ≡ first_applicable (assess_rows y)) × (given_or no_figures r ≡ assess_given y)
