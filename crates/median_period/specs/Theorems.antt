-- What it is for a period of two days to be exact. No contract is stated by this; a theorem says it of every such period.
use Rattle.std.specs.Prelude.{true, ◌≡◌, ℕ, ◌+◌, Some}
use Rattle.floats.specs.Floats.{whole_day, half_days}
use Rattle.median_period.specs.Medians.{good_medians, medians_of}

-- rule 19.2: the floats say the two days and half of their sum, with nothing rounded
pub record ExactPeriod (a b : ℕ) : Type 0 where
  pub first : whole_day (medians_of a b).first ≡ Some a
  pub last : whole_day (medians_of a b).last ≡ Some b
  pub median : half_days (medians_of a b).median ≡ Some (a + b)
  pub good : good_medians (medians_of a b) ≡ true
