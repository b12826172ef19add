-- What the rounding rule asks of a number. No contract is stated by this page.
use Rattle.std.specs.Prelude.{◌≡◌, ℕ, ◌*◌, ◌%◌, ◌≤◌, ℤ, pos, nat_abs, ◌-ℤ◌, ◌*ℤ◌}

-- rule 1.5, of z / d: no whole number lies nearer than r, and where another lies as near, r is even
pub record IsNearest (z : ℤ) (d : ℕ) (r : ℤ) : Type 0 where
  pub near : 2 * nat_abs (r *ℤ pos d -ℤ z) ≤ d
  pub even : 2 * nat_abs (r *ℤ pos d -ℤ z) ≡ d → nat_abs r % 2 ≡ 0
