-- No run of entries, cancellations and closings alters what lies in closed time. Assumes nothing.
use mathlib.Core.Path.{◌≡◌, refl, sym, ap, subst, ◌∙◌}
use mathlib.Core.Logic.{◌⊎◌, inl, inr}
use mathlib.Core.Bool.{Bool, true, cond}
use mathlib.Core.List.{List, []}
use Prim.Native.Nat.{ℕ, zero, suc, ◌-◌, ◌≤◌, ◌<◌}
use native.Mathlib.Nat.{suc-ne-zero}
use native.Mathlib.Omega.{arith}
use borrow.Author.Tests.{eq-eqb, ne_eqb}
use Rattle.std.specs.Prelude.{Result}
use Rattle.refusals.specs.declared.Refusal.{Refusal}
use lib.ListN.{length}
use Rattle.lists.specs.Lists.{sum_from}
use Rattle.lists.proofs.Tests.{not_no, le_or_lt}
use Rattle.lists.proofs.Lists.{sum_same}
use Rattle.refusals.specs.Refusals.{Rows, first_applicable, accepted}
use Rattle.refusals.proofs.Laws.{all_clear}
use Rattle.calendar.specs.declared.YearMinutes.{YearMinutes}
use Rattle.calendar.proofs.Only.{only_minutes}
use Rattle.calendar.specs.Years.{MinutesGives}
use Rattle.entries.specs.declared.Entry.{Entry}
use Rattle.entries.specs.declared.Key.{Key}
use Rattle.entries.specs.Row.{key_of, put_in_order, without, lost_in}
use Rattle.entries.specs.Theorems.{closed_entries}
use Rattle.entries.proofs.Closed.{earlier_open, closed_put, closed_without, same_lost}
use Rattle.outage.specs.declared.Log.{Log}
use Rattle.outage.specs.Log.{slots, valid_log, log_entries, log_with, closed_at, lost_energy}
use Rattle.outage.specs.Calls.{enter_rows, enter_log, cancel_rows, close_rows, LostGives}
use Rattle.outage.proofs.LogHolding.{entries_with}
use Rattle.outage.proofs.Only.{only_lost}
use Rattle.plan.specs.declared.Plan.{Plan}
use Rattle.plan.specs.Plan.{outages_of}
use Rattle.plan.proofs.OneByOne.{through_keeps}
use Rattle.plan_entering.specs.Calls.{enter_plan_rows, planned_log}
use Rattle.plan_entering.proofs.Accepted.{plan_through, plan_back}
use Rattle.demands.specs.Given.{first_figure, end_figure}
use Rattle.demands.specs.Log.{Logged, Call, entering, cancelling, closing, planning, PlanPromised, Promised, Turn, log_of, RanFrom, log_after, Event, happened}
use Rattle.demands.specs.Closed.{ClosedStays}
use Rattle.demands.proofs.Runs.{run_keeps}
use Rattle.outage.proofs.Sound.{Sound, entered_sound, cancelled_sound, closed_sound, closes_forward}

-- a log as it was, and one that stands later
record Stays (log now : Log) : Type 0 where
  rows : length now.entries ≡ slots
  valid : valid_log now ≡ valid_log log
  end : now.regime_end ≡ log.regime_end
  forward : log.closed ≤ now.closed
  stay : closed_entries log.closed (log_entries now) ≡ closed_entries log.closed (log_entries log)

module _ (log now : Log) (k : Stays log now) where
  sound : valid_log now ≡ true → Sound now
  sound v = record { rows = k.rows; valid = v }

  -- by whether the call is refused
  stays_by : (rows : Rows) (next r : Log) → r ≡ cond (accepted rows) next now → (first_applicable rows ≡ 0 → Stays log next) → Stays log r
  stays_by rows next r is f = by (first_applicable rows) refl
    where
      by : (n : ℕ) → first_applicable rows ≡ n → Stays log r
      by zero h = subst (Stays log) (sym (is ∙ ap (λ (b : Bool). cond b next now) (eq-eqb (first_applicable rows) 0 h))) (f h)
      by (suc n) h = subst (Stays log) (sym (is ∙ ap (λ (b : Bool). cond b next now) (ne_eqb (first_applicable rows) 0 (λ z. suc-ne-zero n (sym h ∙ z))))) k

  entered : (e : Entry) → first_applicable (enter_rows now e) ≡ 0 → Stays log (log_with now (put_in_order e (log_entries now)))
  entered e n =
      let c = all_clear (enter_rows now e) n in
      let v = not_no (valid_log now) c.0 in
      let s = entered_sound now (sound v) e n in
      record {
        rows = s.rows;
        valid = s.valid ∙ sym v ∙ k.valid;
        end = k.end;
        forward = k.forward;
        stay = ap (closed_entries log.closed) (entries_with now (put_in_order e (log_entries now)))
            ∙ closed_put log.closed e (earlier_open log.closed now.closed (key_of e) k.forward c.1.1.1.0) (log_entries now)
            ∙ k.stay;
      }

  cancelled : (key : Key) → first_applicable (cancel_rows now key) ≡ 0 → Stays log (log_with now (without key (log_entries now)))
  cancelled key n =
      let c = all_clear (cancel_rows now key) n in
      let v = not_no (valid_log now) c.0 in
      let s = cancelled_sound now (sound v) key in
      record {
        rows = s.rows;
        valid = s.valid ∙ sym v ∙ k.valid;
        end = k.end;
        forward = k.forward;
        stay = ap (closed_entries log.closed) (entries_with now (without key (log_entries now)))
            ∙ closed_without log.closed key (earlier_open log.closed now.closed key k.forward c.1.0) (log_entries now)
            ∙ k.stay;
      }

  closed : (minute : ℕ) → first_applicable (close_rows now minute) ≡ 0 → Stays log (closed_at now minute)
  closed minute n =
      let v = not_no (valid_log now) (all_clear (close_rows now minute) n).0 in
      let s = closed_sound now (sound v) minute n in
      record {
        rows = s.rows;
        valid = s.valid ∙ sym v ∙ k.valid;
        end = k.end;
        forward = omega (arith, k.forward, closes_forward now (sound v) minute n);
        stay = k.stay;
      }

-- ---- a plan's outages one by one
outage_stays : (log now : Log) → Stays log now → (e : Entry) → first_applicable (enter_rows now e) ≡ 0 → Stays log (enter_log now e)
outage_stays log now k e n = stays_by log now k (enter_rows now e) (log_with now (put_in_order e (log_entries now))) (enter_log now e) refl (entered log now k e)

module _ (log now : Log) (k : Stays log now) where
  planned : (p : Plan) (r : Logged) → PlanPromised now p r → Stays log r.log
  planned p r g = by (first_applicable (enter_plan_rows now p)) refl
    where
      by : (n : ℕ) → first_applicable (enter_plan_rows now p) ≡ n → Stays log r.log
      by zero h =
          subst (Stays log) (sym g.gives.2)
          (through_keeps enter_rows enter_log (λ (l : Log) (es : List Entry). Stays log l) (λ l es e k n. outage_stays log l k e n) 1 now (planned_log now p) [] (outages_of p) k (plan_through now p h))
      by (suc n) h = subst (Stays log) (sym (g.gives.2 ∙ plan_back now p (λ z. suc-ne-zero n (sym h ∙ z)))) k

  call_stays : (call : Call) (r : Logged) → Promised now call r → Stays log r.log
  call_stays (entering e) r g = stays_by log now k (enter_rows now e) (log_with now (put_in_order e (log_entries now))) r.log g.1 (entered log now k e)
  call_stays (cancelling key) r g = stays_by log now k (cancel_rows now key) (log_with now (without key (log_entries now))) r.log g.1 (cancelled log now k key)
  call_stays (closing minute) r g = stays_by log now k (close_rows now minute) (closed_at now minute) r.log g.1 (closed log now k minute)
  call_stays (planning p) r g = planned p r g

-- ---- any run
run_stays : (log : Log) → length log.entries ≡ slots → (turns : List Turn) → RanFrom log turns → Stays log (log_after log turns)
run_stays log len turns g =
    run_keeps Promised log_of happened (λ (now : Log) (before : List Event). Stays log now) (λ now before k call r q. call_stays log now k call r q) turns log []
    (record { rows = len; valid = refl; end = refl; forward = omega arith; stay = refl }) g

-- ---- what is lost in closed time
module _ (log later : Log) (k : Stays log later) where
  minutes_same : (minute : ℕ) → minute < log.closed → lost_in (log_entries later) minute ≡ lost_in (log_entries log) minute
  minutes_same minute h = same_lost log.closed minute h (log_entries log) (log_entries later) k.stay

  energy_same : (a b : ℕ) → b ≤ log.closed → lost_energy a b (log_entries later) ≡ lost_energy a b (log_entries log)
  energy_same a b h = by (le_or_lt a b)
    where
      by : (a ≤ b) ⊎ (b < a) → sum_from a (b - a) (lost_in (log_entries later)) ≡ sum_from a (b - a) (lost_in (log_entries log))
      by (inl l) = sum_same (lost_in (log_entries later)) (lost_in (log_entries log)) a (b - a) (λ t before. minutes_same t (omega arith))
      by (inr l) = let z : b - a ≡ 0 = omega arith in rw z refl

  -- the rows are the same, and so is the figure
  stretch_same : (a b : ℕ) → b ≤ log.closed → (r s : Result ℕ Refusal) → LostGives log a b r → LostGives later a b s → s ≡ r
  stretch_same a b h r s p q = only_lost log a b s r (rw (k.valid, k.end, energy_same a b h) at q) p

  year_same : (number : ℕ) (y z : Result YearMinutes Refusal) → MinutesGives number log.regime_end y → MinutesGives number later.regime_end z → end_figure y ≤ log.closed
      → (r s : Result ℕ Refusal) → LostGives log (first_figure y) (end_figure y) r → LostGives later (first_figure z) (end_figure z) s → s ≡ r
  year_same number y z m o h r s p q =
      let is : z ≡ y = only_minutes number log.regime_end z y (rw k.end at o) m in
      stretch_same (first_figure y) (end_figure y) h r s p (rw is at q)

-- ---- the theorem
pub closed_stays : (log : Log) → length log.entries ≡ slots → (turns : List Turn) → RanFrom log turns → ClosedStays log (log_after log turns)
closed_stays log len turns g =
    let k = run_stays log len turns g in
    let later = log_after log turns in
    record {
      forward = k.forward;
      stay = k.stay;
      minutes = minutes_same log later k;
      stretch = stretch_same log later k;
      year = year_same log later k;
    }
