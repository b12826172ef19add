-- Closed years, beside demand 3: what no run of entries, plans, cancellations and closings alters. Rules 4.9 to 4.11.
use Rattle.std.specs.Prelude.{◌≡◌, ℕ, ◌<◌, ◌≤◌, Result}
use Rattle.refusals.specs.declared.Refusal.{Refusal}
use Rattle.calendar.specs.declared.YearMinutes.{YearMinutes}
use Rattle.calendar.specs.Years.{MinutesGives}
use Rattle.entries.specs.Row.{lost_in}
use Rattle.entries.specs.Theorems.{closed_entries}
use Rattle.outage.specs.declared.Log.{Log}
use Rattle.outage.specs.Log.{log_entries}
use Rattle.outage.specs.Calls.{LostGives}
use Rattle.demands.specs.Given.{first_figure, end_figure}

-- of a log, kept to the rules or not, and the one that stands after a run of calls from it
pub record ClosedStays (log later : Log) : Type 0 where
  -- the closed minute never moves back
  pub forward : log.closed ≤ later.closed
  -- the entries that start before it stay, in their order, and none joins them
  pub stay : closed_entries log.closed (log_entries later) ≡ closed_entries log.closed (log_entries log)
  -- so each minute before it loses what it lost
  pub minutes : (minute : ℕ) → minute < log.closed → lost_in (log_entries later) minute ≡ lost_in (log_entries log) minute
  -- and so does each stretch up to it, as `lost_energy` answers
  pub stretch : (a b : ℕ) → b ≤ log.closed → (r s : Result ℕ Refusal) → LostGives log a b r → LostGives later a b s → s ≡ r
  -- and a closed year, by the minutes that `year_minutes` gives for the regime end of either log
  pub year : (number : ℕ) (y z : Result YearMinutes Refusal) → MinutesGives number log.regime_end y → MinutesGives number later.regime_end z
      → end_figure y ≤ log.closed
      → (r s : Result ℕ Refusal) → LostGives log (first_figure y) (end_figure y) r → LostGives later (first_figure z) (end_figure z) s → s ≡ r
