-- Calls on the log, their results, and what calls and results say of the entries that should be held.
use Rattle.std.specs.Prelude.{Bool, false, cond, ◌||◌, List, [], ◌∷◌, map, ℕ, eqb, get_or, Result, Ok, Err, ⊤}
use Rattle.lists.specs.Lists.{total}
use Rattle.refusals.specs.declared.Refusal.{Refusal}
use Rattle.refusals.specs.declared.RefusedAt.{RefusedAt}
use Rattle.refusals.specs.Refusals.{answer_number}
use Rattle.entries.specs.declared.Entry.{Entry}
use Rattle.outage.specs.declared.Log.{Log}
use Rattle.entries.specs.declared.Key.{Key}
use Rattle.entries.specs.Row.{zero_entry, same_entry, has_key}
use Rattle.outage.specs.Calls.{EnterGives, CancelGives, CloseGives}
use Rattle.plan.specs.declared.Plan.{Plan}
use Rattle.plan.specs.Plan.{outages_of}
use Rattle.plan_entering.specs.Calls.{EnterPlanGives}
use Rattle.demands.specs.Runs.{Ran, after, events_of}

-- ---- the calls, with any numbers at all
pub data Call : Type 0 where
  entering : Entry → Call
  cancelling : Key → Call
  closing : ℕ → Call
  planning : Plan → Call

-- what a call on a log answers, and the log after it
pub record Logged : Type 0 where
  pub answer : Result ⊤ Refusal
  pub log : Log

-- an answer with the part at which it is refused
abbrev pub at_part : ℕ → Result ⊤ Refusal → Result ⊤ RefusedAt
at_part part (Ok done) = Ok done
at_part part (Err why) = Err (record { why = why; at = part })

-- the contract of `enter_plan`, of the log and the answer: a refusal has the number of an outage with it
pub record PlanPromised (log : Log) (p : Plan) (r : Logged) : Type 0 where
  pub outage : ℕ
  pub gives : EnterPlanGives log p (at_part outage r.answer) r.log

-- what a call promises of its result: the contracts of `enter`, `cancel`, `close` and `enter_plan`
abbrev pub Promised : Log → Call → Logged → Type 0
Promised log (entering e) r = EnterGives log e r.answer r.log
Promised log (cancelling key) r = CancelGives log key r.answer r.log
Promised log (closing minute) r = CloseGives log minute r.answer r.log
Promised log (planning p) r = PlanPromised log p r

-- a call and its result
abbrev pub Turn : Type 0
Turn = Call × Logged

-- each call is handed the log that the one before it gave back
abbrev pub log_of : Logged → Log
log_of r = r.log

abbrev pub RanFrom : Log → List Turn → Type 0
RanFrom log turns = Ran Promised log_of log turns

abbrev pub log_after : Log → List Turn → Log
log_after log turns = after log_of log turns

-- ---- the events
pub data Event : Type 0 where
  put : Entry → Event
  taken_out : Key → Event
  closed_up : ℕ → Event

-- an accepted entering puts its entry in, an accepted cancelling takes a key out, an accepted closing closes the log up to a
-- minute, an accepted plan puts its outages in, in their order (rule 18.5), a refused call does nothing
abbrev pub done : Call → List Event
done (entering e) = put e ∷ []
done (cancelling key) = taken_out key ∷ []
done (closing minute) = closed_up minute ∷ []
done (planning p) = map put (outages_of p)

abbrev pub happened : Turn → List Event
happened turn = cond (eqb (answer_number turn.1.answer) 0) (done turn.0) []

-- an entry is cancelled where an event takes its key out
abbrev pub cancelled_by : Entry → Event → Bool
cancelled_by e (put x) = false
cancelled_by e (taken_out key) = has_key key e
cancelled_by e (closed_up minute) = false

abbrev pub cancelled_since : Entry → List Event → Bool
cancelled_since e [] = false
cancelled_since e (event ∷ events) = cancelled_by e event || cancelled_since e events

-- the entries put in and not since taken out; a closing alters none
abbrev pub not_cancelled : List Event → List Entry
not_cancelled [] = []
not_cancelled (put e ∷ since) = cond (cancelled_since e since) (not_cancelled since) (e ∷ not_cancelled since)
not_cancelled (taken_out key ∷ since) = not_cancelled since
not_cancelled (closed_up minute ∷ since) = not_cancelled since

-- demand 3: the entries accepted and not since cancelled
abbrev pub accepted_not_cancelled : List Turn → List Entry
accepted_not_cancelled turns = not_cancelled (events_of happened turns)

-- the minute that the last closing names, or the one before all of them
abbrev pub closed_from : ℕ → List Event → ℕ
closed_from minute [] = minute
closed_from minute (put e ∷ since) = closed_from minute since
closed_from minute (taken_out key ∷ since) = closed_from minute since
closed_from minute (closed_up next ∷ since) = closed_from next since

-- rules 4.8 and 4.9: from an empty log, the minute of the last closing that was accepted
abbrev pub last_closing : List Turn → ℕ
last_closing turns = closed_from 0 (events_of happened turns)

-- ---- what a log holds
-- how many times an entry stands in a list
abbrev pub times_in : Entry → List Entry → ℕ
times_in x es = total (λ (y : Entry). cond (same_entry x y) 1 0) es

abbrev pub slot : Log → ℕ → Entry
slot log i = get_or log.entries i zero_entry
