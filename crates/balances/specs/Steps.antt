-- What the functions inside are stated by: a balance that may be none, and the assessment from four of them.
use Rattle.std.specs.Prelude.{Bool, cond, ◌||◌, List, [], ◌∷◌, ℕ, ◌+◌, ◌-◌, ◌≤◌, ℤ, pos, nat_abs, Option, Some, None, is_none, unwrap_or}
use Rattle.std.specs.Int.Signed.{lt_z}
use Rattle.refusals.specs.Refusals.{Rows, accepted}
use Rattle.refusals.specs.declared.Refusal.TheVariants.{TooLarge, FloorAboveCap}
use Rattle.balances.specs.declared.assessing.Figures.{Figures}
use Rattle.balances.specs.Balance.{balance_after, later_within, most_balance}
use Rattle.balances.specs.Assessment.{figures_of, no_figures}

-- the balance after so many years past the year `from`, or none
abbrev pub carried_of : List ℕ → List ℤ → ℕ → ℕ → Option ℤ
carried_of index amounts from left = cond (later_within index amounts from left) (Some (balance_after index amounts (from + left))) None

-- the balance of the first n years, or none
abbrev pub balance_of : List ℕ → List ℤ → ℕ → Option ℤ
balance_of index amounts n = cond (later_within index amounts 0 (n - 1)) (Some (balance_after index amounts (n - 1))) None

-- ---- the same from four balances
abbrev pub value_of : Option ℤ → ℤ
value_of b = unwrap_or b (pos 0)

abbrev pub Bounded : Option ℤ → Type 0
Bounded b = nat_abs (value_of b) ≤ most_balance

abbrev pub one_over : Option ℤ → Option ℤ → Option ℤ → Option ℤ → Bool
one_over revenue cap floor paid = is_none revenue || (is_none cap || (is_none floor || is_none paid))

abbrev pub found_rows : Option ℤ → Option ℤ → Option ℤ → Option ℤ → Rows
found_rows revenue cap floor paid =
    (TooLarge, one_over revenue cap floor paid) ∷ (FloorAboveCap, lt_z (value_of cap) (value_of floor)) ∷ []

abbrev pub found_figures : Option ℤ → Option ℤ → Option ℤ → Option ℤ → Figures
found_figures revenue cap floor paid =
    cond (accepted (found_rows revenue cap floor paid)) (figures_of (value_of revenue) (value_of cap) (value_of floor) (value_of paid)) no_figures
