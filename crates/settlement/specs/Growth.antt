-- The growth table and a payment: rules 9.3 and 9.4 (methodology, equation 1, with ODR 3.88 per cent).
use Rattle.std.specs.Prelude.{Bool, cond, ℕ, zero, suc, ◌*◌, ◌/◌, ◌^◌, leb, ℤ}
use Rattle.money.specs.Rounding.{on_magnitude}

abbrev pub growth_entries : ℕ
growth_entries = 500

-- the greatest number up to `most` that passes a test, or 0
unfoldable pub greatest : (ℕ → Bool) → ℕ → ℕ
greatest p zero = 0
greatest p (suc most) = cond (p (suc most)) (suc most) (greatest p most)

-- rule 9.3: the test of an entry
unfoldable pub grows_to : ℕ → ℕ → Bool
grows_to n e = leb (e ^ 100 * 10000 ^ n) (10 ^ 900 * 10388 ^ n)

-- rule 9.3: entry n, the greatest that passes. None of the table reaches 2 x 10^9.
unfoldable pub growth_of : ℕ → ℕ
growth_of n = greatest (grows_to n) 2000000000

-- rule 9.4: a payment
unfoldable pub paid_of : ℤ → ℕ → ℤ
paid_of amount n = on_magnitude (λ (m : ℕ). m * growth_of n / 1000000000) amount
