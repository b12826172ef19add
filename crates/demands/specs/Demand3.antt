-- Demand 3, of one run. From an empty log, after any sequence of entries, plans, cancellations and closings, refused calls too, where
-- a plan counts as its entries in order and closing alters no entry, the log holds exactly the entries accepted and not since cancelled, in order of start, no minute losing more than rated
-- capacity. Cut any stretch of the regime at any minute, midnight or year end included: the lost energy of the two parts adds to that of the whole,
-- and the whole equals the minute-by-minute sum over those entries. So no year loses more than rated capacity times its minutes.
use Rattle.std.specs.Prelude.{◌≡◌, true, cond, List, ◌⊎◌, ℕ, ◌+◌, ◌-◌, ◌*◌, ◌<◌, ◌≤◌, length, Result, Ok}
use Rattle.refusals.specs.declared.Refusal.{Refusal}
use Rattle.refusals.specs.Refusals.{answer_number, given_or}
use Rattle.lists.specs.Lists.{sum_from}
use Rattle.calendar.specs.declared.YearMinutes.{YearMinutes}
use Rattle.calendar.specs.Years.{MinutesGives}
use Rattle.entries.specs.declared.Entry.{Entry}
use Rattle.entries.specs.Row.{lost_in, has_room}
use Rattle.outage.specs.declared.Log.{Log}
use Rattle.outage.specs.Log.{slots, most_mw, good_regime_end, last_regime_end, zero_entry, valid_log, log_entries}
use Rattle.outage.specs.Calls.{LostGives}
use Rattle.demands.specs.Given.{first_figure, end_figure}
use Rattle.demands.specs.Log.{times_in, slot}

-- of the regime end that the empty log was asked for, the log after the run, the entries accepted and not since cancelled, and the
-- minute of the last accepted closing
pub record Demand3 (regime_end : ℕ) (log : Log) (es : List Entry) (closed : ℕ) : Type 0 where
  -- the log holds exactly these entries, each as many times
  pub exactly : (x : Entry) → times_in x (log_entries log) ≡ times_in x es
  -- its count is their number
  pub counted : log.count ≡ length es
  -- it has 400 slots
  pub slotted : length log.entries ≡ slots
  -- its regime end is the one that it was made for, or 13,632,480 where that was refused
  pub end : log.regime_end ≡ cond (good_regime_end regime_end) regime_end last_regime_end
  -- its closed minute is that of the last accepted closing, 0 where there is none
  pub closed_up : log.closed ≡ closed
  -- it keeps every rule of the log
  pub valid : valid_log log ≡ true
  -- "in order of start", and of cause where two start together, so that no two have both the same
  pub order : (i j : ℕ) → i < j → j < log.count
      → ((slot log i).start < (slot log j).start) ⊎ (((slot log i).start ≡ (slot log j).start) × ((slot log i).cause < (slot log j).cause))
  -- "no minute losing more than rated capacity"
  pub rated : (minute : ℕ) → lost_in es minute ≤ most_mw
  -- the test by which `enter` refuses an entry decides that, minute by minute
  pub decided : (held : List Entry) (from to mw : ℕ)
      → (has_room held from to mw ≡ true → (minute : ℕ) → from ≤ minute → minute < to → lost_in held minute + mw ≤ most_mw)
      × (((minute : ℕ) → from ≤ minute → minute < to → lost_in held minute + mw ≤ most_mw) → has_room held from to mw ≡ true)
  -- a slot that holds no entry is zero
  pub free : (i : ℕ) → log.count ≤ i → i < slots → slot log i ≡ zero_entry
  -- "the whole equals the minute-by-minute sum over those entries", as `lost_energy` answers
  pub minutes : (a b : ℕ) → a ≤ b → b ≤ log.regime_end → (r : Result ℕ Refusal) → LostGives log a b r → r ≡ Ok (sum_from a (b - a) (lost_in es))
  -- "the lost energy of the two parts adds to that of the whole"
  pub cut : (a m b : ℕ) → a ≤ m → m ≤ b → b ≤ log.regime_end → (first second whole : Result ℕ Refusal)
      → LostGives log a m first → LostGives log m b second → LostGives log a b whole → given_or 0 first + given_or 0 second ≡ given_or 0 whole
  -- "no year loses more than rated capacity times its minutes", by the minutes that `year_minutes` gives
  pub year : (number : ℕ) (y : Result YearMinutes Refusal) → MinutesGives number log.regime_end y → answer_number y ≡ 0
      → (r : Result ℕ Refusal) → LostGives log (first_figure y) (end_figure y) r
      → (r ≡ Ok (given_or 0 r)) × (given_or 0 r ≤ most_mw * (end_figure y - first_figure y))
