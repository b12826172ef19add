-- A level by the sign of its sum, from the quotient of the magnitude in two parts. Assumes nothing.
use mathlib.Core.Path.{◌≡◌, sym, ap, ◌∙◌}
use mathlib.Core.Bool.{true, false}
use Prim.Native.Nat.{ℕ, ◌*◌, ◌^◌, ◌≤◌, ◌<◌}
use native.Mathlib.Nat.{mul_assoc}
use native.Mathlib.Omega.{arith}
use lib.Dec.{lit<, lit≤}
use lib.IntN.{ℤ, pos, neg_ℤ, nat_abs}
use lib.Signed.{lt_z}
use Rattle.money.specs.Pounds.{saturated}
use Rattle.money.specs.Rounding.{rounded_of, round_div, on_magnitude}
use Rattle.money.proofs.Nearest.{abs_round, round_times, debit_on, credit_on}
use Rattle.levels.specs.Levels.{level_of}
use Rattle.levels.proofs.Ranges.{level_most}
use Rattle.levels.proofs.Split.{quotient_of, rest_of, split_rounds}

module _ (partial : ℕ) (sum : ℤ) (incentive pppi : ℕ) (p : partial ≤ 10000) (s : nat_abs sum ≤ 1000000000) (i : incentive ≤ 20000) (x : pppi ≤ 50000) where
  abbrev factors : ℕ
  factors = partial * incentive * pppi

  abbrev f : ℕ → ℕ
  f m = round_div (m * factors) 1000000000000

  most : f (nat_abs sum) ≤ 10000000000
  unfolding level_of
  most = omega (arith, abs_round sum factors 1000000000000, level_most partial sum incentive pppi p s i x)

  small : f (nat_abs sum) < 2 ^ 63
  small = omega (arith, most)

  product : nat_abs sum * partial * incentive * pppi ≡ nat_abs sum * factors
  product = ap (λ (m : ℕ). m * pppi) (mul_assoc (nat_abs sum) partial incentive) ∙ mul_assoc (nat_abs sum) (partial * incentive) pppi

  -- what comes before the index, of a magnitude m, and its quotient as it is made in two parts
  abbrev pub parts_of : ℕ → ℕ
  parts_of m = let before = m * partial * incentive in rounded_of (quotient_of before pppi 1000000000000) (rest_of before pppi 1000000000000) 1000000000000

  figure : {m r : ℕ} → m ≡ nat_abs sum → r ≡ parts_of m → r ≡ f (nat_abs sum)
  figure e g =
      let same = ap (λ (n : ℕ). round_div n 1000000000000) product in
      g
      ∙ ap parts_of e
      ∙ split_rounds (nat_abs sum * partial * incentive) pppi 1000000000000 (lit< tt) (lit≤ tt) (omega (arith, most, same))
      ∙ same

  given : on_magnitude f sum ≡ level_of partial sum incentive pppi
  unfolding level_of
  given = sym (round_times sum factors 1000000000000 (lit< tt))

  pub debit_level : {m r : ℕ} {z : ℤ} → m ≡ nat_abs sum → r ≡ parts_of m → lt_z sum (pos 0) ≡ true → z ≡ saturated (neg_ℤ (pos r)) → z ≡ level_of partial sum incentive pppi
  debit_level e g t w = w ∙ ap (λ (n : ℕ). saturated (neg_ℤ (pos n))) (figure e g) ∙ debit_on f sum small t ∙ given

  pub credit_level : {m r : ℕ} {z : ℤ} → m ≡ nat_abs sum → r ≡ parts_of m → lt_z sum (pos 0) ≡ false → z ≡ saturated (pos r) → z ≡ level_of partial sum incentive pppi
  credit_level e g t w = w ∙ ap (λ (n : ℕ). saturated (pos n)) (figure e g) ∙ credit_on f sum small t ∙ given
