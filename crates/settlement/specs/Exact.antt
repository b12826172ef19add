-- How near a payment is to the exact amount: rule 9.4. No contract is stated by this; a theorem says it of a payment.
use Rattle.std.specs.Prelude.{ℕ, ◌+◌, ◌*◌, ◌^◌, ◌≤◌, ◌<◌}

-- With x = m * 1.0388 ^ (n / 100), the exact amount: r ≤ x, and x < r + 1 + m / 10 ^ 9, both to the power 100 and cleared of fractions.
pub record NearExact (m n r : ℕ) : Type 0 where
  pub most : r ^ 100 * 10000 ^ n ≤ m ^ 100 * 10388 ^ n
  pub short : 10 ^ 900 * (m ^ 100 * 10388 ^ n) < (10 ^ 9 * (r + 1) + m) ^ 100 * 10000 ^ n
