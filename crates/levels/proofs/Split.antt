-- A product that does not fit, by whole divisors and the rest of its first factor, each times the second. Assumes nothing.
use mathlib.Core.Path.{◌≡◌, ap}
use Prim.Native.Nat.{ℕ, ◌+◌, ◌*◌, ◌/◌, ◌%◌, ◌≤◌, ◌<◌}
use native.Mathlib.Nat.{add-mul, div-add-mod', mod-lt, mul_right_comm}
use native.Mathlib.Omega.{arith}
use Rattle.money.specs.Pounds.{most_whole}
use Rattle.money.specs.Rounding.{rounded_of, round_div}
use Rattle.money.proofs.Nearest.{rounded_is}

-- what the divisor goes into whole, and what is left
module _ (p x d : ℕ) where
  abbrev pub quotient_of : ℕ
  quotient_of = p / d * x + p % d * x / d

  abbrev pub rest_of : ℕ
  rest_of = p % d * x % d

  together : p * x ≡ quotient_of * d + rest_of
  together =
      omega (
        arith,
        ap (λ (n : ℕ). n * x) (div-add-mod' p d),
        add-mul (p / d * d) (p % d) x,
        mul_right_comm (p / d) d x,
        add-mul (p / d * x) (p % d * x / d) d,
        div-add-mod' (p % d * x) d,
      )

  -- both round as the product does
  pub split_rounds : 0 < d → d ≤ 1000000000000 → round_div (p * x) d ≤ most_whole → rounded_of quotient_of rest_of d ≡ round_div (p * x) d
  split_rounds h k fits = rounded_is (p * x) quotient_of rest_of d together (mod-lt (p % d * x) h) k fits
