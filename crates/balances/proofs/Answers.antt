-- What four balances give is what the call gives. Assumes nothing.
use mathlib.Core.Path.{◌≡◌, refl, sym, ap, ◌∙◌}
use mathlib.Core.Bool.{Bool, true, false, not, cond, ◌&&◌}
use mathlib.Core.List.{List, [], ◌∷◌}
use Prim.Native.Nat.{ℕ, ◌-◌, ◌≤◌}
use native.Mathlib.Omega.{arith}
use lib.Dec.{eqb}
use lib.IntN.{ℤ, nat_abs, ◌-ℤ◌}
use lib.Signed.{lt_z}
use Rattle.std.specs.Prelude.{Option, Some, None, Result}
use Rattle.refusals.specs.Refusals.{Rows, first_applicable, accepted, answer_number, given_or}
use Rattle.refusals.specs.declared.Refusal.{Refusal}
use Rattle.refusals.specs.declared.Refusal.TheVariants.{TooLarge, FloorAboveCap}
use Rattle.balances.specs.declared.assessing.Yearly.{Yearly}
use Rattle.balances.specs.declared.assessing.Figures.{Figures}
use Rattle.balances.specs.Balance.{balance_after, most_balance, later_within, good_amounts}
use Rattle.balances.specs.Steps.{balance_of, Bounded, found_rows, found_figures}
use Rattle.balances.specs.Assessment.{assessable, ARN, CLN, FLN, WPAN, balances_within, held_between, figures_of, figures_in, no_figures, assess_rows_of, assess_given_of, YearsGives}
use Rattle.balances.proofs.Years.{years_small}

-- ---- four balances, each with its test
abbrev limited : Bool → ℤ → Option ℤ
limited t z = cond t (Some z) None

limited_bounded : (t : Bool) (z : ℤ) → (t ≡ true → nat_abs z ≤ most_balance) → Bounded (limited t z)
limited_bounded true z h = h refl
limited_bounded false z h = omega arith

-- the rows that are left once every index and amount is in range
abbrev rows_left : Bool → ℤ → ℤ → Rows
rows_left t cap floor = (TooLarge, not t) ∷ (FloorAboveCap, lt_z cap floor) ∷ []

limited_rows : (s t u v : Bool) (a c f w : ℤ)
    → first_applicable (found_rows (limited s a) (limited t c) (limited u f) (limited v w)) ≡ first_applicable (rows_left (s && (t && (u && v))) c f)
limited_rows true true true true a c f w = refl
limited_rows true true true false a c f w = refl
limited_rows true true false v a c f w = refl
limited_rows true false u v a c f w = refl
limited_rows false t u v a c f w = refl

limited_figures : (s t u v : Bool) (a c f w : ℤ)
    → found_figures (limited s a) (limited t c) (limited u f) (limited v w)
    ≡ cond (accepted (rows_left (s && (t && (u && v))) c f)) (figures_of a c f w) no_figures
limited_figures true true true true a c f w = refl
limited_figures true true true false a c f w = refl
limited_figures true true false v a c f w = refl
limited_figures true false u v a c f w = refl
limited_figures false t u v a c f w = refl

-- ---- the call's rows, from its balances, over n years
pub balance_bounded : (index : List ℕ) (amounts : List ℤ) (n : ℕ) → 1 ≤ n → good_amounts index amounts n ≡ true → Bounded (balance_of index amounts n)
balance_bounded index amounts n some good =
    limited_bounded (later_within index amounts 0 (n - 1)) (balance_after index amounts (n - 1)) (years_small index amounts n some good)

past_nine : (t : Bool) (n : ℕ) → t ≡ true → cond (not t) 9 n ≡ n
past_nine t n e = simp e

module _ (y : Yearly) (n : ℕ) (good : assessable y n ≡ true) where
  abbrev balance_for : List ℤ → Option ℤ
  balance_for amounts = balance_of y.index amounts n

  abbrev test : List ℤ → Bool
  test amounts = later_within y.index amounts 0 (n - 1)

  rows_left_law : first_applicable (assess_rows_of y n) ≡ first_applicable (rows_left (balances_within y n) (CLN y n) (FLN y n))
  rows_left_law = past_nine (assessable y n) (first_applicable (rows_left (balances_within y n) (CLN y n) (FLN y n))) good

  found_number : first_applicable (found_rows (balance_for y.revenue) (balance_for y.cap) (balance_for y.floor) (balance_for y.wpa)) ≡ first_applicable (assess_rows_of y n)
  found_number =
      limited_rows (test y.revenue) (test y.cap) (test y.floor) (test y.wpa) (ARN y n) (CLN y n) (FLN y n) (WPAN y n) ∙ sym rows_left_law

  found_given : found_figures (balance_for y.revenue) (balance_for y.cap) (balance_for y.floor) (balance_for y.wpa) ≡ assess_given_of y n
  found_given =
      limited_figures (test y.revenue) (test y.cap) (test y.floor) (test y.wpa) (ARN y n) (CLN y n) (FLN y n) (WPAN y n)
      ∙ ap (λ (k : ℕ). cond (eqb k 0) (figures_in y n) no_figures) (sym rows_left_law)

  -- what four balances give, each of its amounts, is what the call gives
  pub found_is : (r : Result Figures Refusal) (a c f w : Option ℤ) → a ≡ balance_for y.revenue → c ≡ balance_for y.cap → f ≡ balance_for y.floor → w ≡ balance_for y.wpa
      → (answer_number r ≡ first_applicable (found_rows a c f w)) × (given_or no_figures r ≡ found_figures a c f w)
      → YearsGives y n r
  found_is r a c f w ea ec ef ew g = let h = rw (ea, ec, ef, ew) at g in (h.0 ∙ found_number, h.1 ∙ found_given)

-- ---- differences of the same numbers are the same
pub same_less : {a b c d : ℤ} → a ≡ b → c ≡ d → a -ℤ c ≡ b -ℤ d
same_less p q = cc

-- ---- held between two bounds
cond_small : (t : Bool) (a b : ℤ) (n : ℕ) → nat_abs a ≤ n → nat_abs b ≤ n → nat_abs (cond t a b) ≤ n
cond_small true a b n h k = h
cond_small false a b n h k = k

pub between_small : (a f c : ℤ) (n : ℕ) → nat_abs a ≤ n → nat_abs f ≤ n → nat_abs c ≤ n → nat_abs (held_between a f c) ≤ n
unfolding held_between
between_small a f c n ha hf hc = cond_small (lt_z a f) f (cond (lt_z c a) c a) n hf (cond_small (lt_z c a) c a n hc ha)
