-- What the tests of two days say, and the gap of two periods. Assumes nothing.
use mathlib.Core.Path.{◌≡◌, sym, ap, ◌∙◌}
use mathlib.Core.Bool.{Bool, true, not, cond, ◌&&◌}
use Prim.Native.Nat.{ℕ, ◌≤◌}
use borrow.Author.Tests.{leb-true}
use lib.Dec.{eqb, leb}
use lib.IntN.{nat_abs}
use Rattle.std.specs.Prelude.{Result}
use Rattle.lists.proofs.Tests.{and_left, and_right}
use Rattle.refusals.specs.declared.Refusal.{Refusal}
use Rattle.settlement.specs.declared.medians.Period.{Period}
use Rattle.settlement.specs.Gap.{good_period, day_sum, hundredths}
use Rattle.settlement.specs.Calls.{gap_holds, GapGives}
use Rattle.median_period.specs.declared.MedianPeriod.{MedianPeriod}
use Rattle.median_period.specs.Medians.{days_of, good_medians}
use Rattle.median_period.specs.Calls.{medians_hold, MediansGapGives}

abbrev period_of : ℕ → ℕ → Period
period_of a b = record { first = a; last = b }

-- ---- the tests of two days
pub from_good_days : (a b : ℕ) → good_period (period_of a b) ≡ true → (61 ≤ a) × (a ≤ b) × (b ≤ 73050)
from_good_days a b e =
    let rest = and_right (leb 61 a) (leb a b && leb b 73050) e in (
      leb-true 61 a (and_left (leb 61 a) (leb a b && leb b 73050) e),
      leb-true a b (and_left (leb a b) (leb b 73050) rest),
      leb-true b 73050 (and_right (leb a b) (leb b 73050) rest),
    )

-- ---- the gap of two good periods is that of their days
module _ (earlier later : MedianPeriod) where
  pub gap_of_days : (r : Result ℕ Refusal) → good_medians earlier ≡ true → good_medians later ≡ true → GapGives (days_of earlier) (days_of later) r → MediansGapGives earlier later r
  gap_of_days r e l g =
      let holds : medians_hold earlier later ≡ gap_holds (days_of earlier) (days_of later) =
      ap (λ (t : Bool). t && (good_medians later && gap_holds (days_of earlier) (days_of later))) e
      ∙ ap (λ (t : Bool). t && gap_holds (days_of earlier) (days_of later)) l in (
        g.0 ∙ sym (ap (λ (t : Bool). cond {A = ℕ} (not t) 12 0) holds),
        g.1 ∙ sym (ap (λ (t : Bool). cond (eqb (cond (not t) 12 0) 0) (nat_abs (hundredths (day_sum (days_of earlier)) (day_sum (days_of later)))) 0) holds),
      )
