-- A call answers on every input, and in one way. No contract is stated by this; theorems say it of each call.
use Rattle.std.specs.Prelude.{◌≡◌}

-- one result meets what a call promises, and no other does
pub record One {R : Type 0} (promised : R → Type 0) : Type 0 where
  pub result : R
  pub meets : promised result
  pub alone : (other : R) → promised other → other ≡ result
