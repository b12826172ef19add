-- Plans, beside demand 3: an accepted plan is its outages entered one by one, a refused one says which of them fails, and on an empty log
-- a plan gives what listing it lists. Rules 18.5 to 18.7.
use Rattle.std.specs.Prelude.{◌≡◌, List, [], ◌∷◌, ◌++◌, map, ◌⊎◌, ℕ, ◌+◌, length, Result, ⊤}
use Rattle.refusals.specs.declared.Refusal.{Refusal}
use Rattle.refusals.specs.declared.RefusedAt.{RefusedAt}
use Rattle.refusals.specs.Refusals.{answer_number, given_or, why_alone, part_number}
use Rattle.entries.specs.declared.Entry.{Entry}
use Rattle.outage.specs.declared.Log.{Log}
use Rattle.outage.specs.Log.{slots, log_made}
use Rattle.outage.specs.Calls.{EmptyGives, EnterGives}
use Rattle.plan.specs.declared.Plan.{Plan}
use Rattle.plan.specs.declared.listing.Listed.{Listed}
use Rattle.plan.specs.Plan.{outages_of}
use Rattle.plan.specs.Calls.{list_of, ListGives}
use Rattle.plan_entering.specs.Calls.{EnterPlanGives}
use Rattle.demands.specs.Given.{made_log}
use Rattle.demands.specs.Runs.{events_of}
use Rattle.demands.specs.Log.{entering, Turn, RanFrom, log_after, put, happened}

-- some entries are entered one by one, in their order: each is accepted, nothing else happens, and a log stands in the end
pub record EntersAll (log : Log) (es : List Entry) (later : Log) : Type 0 where
  pub turns : List Turn
  pub calls : map (λ (turn : Turn). turn.0) turns ≡ map entering es
  pub ran : RanFrom log turns
  pub events : events_of happened turns ≡ map put es
  pub gives : log_after log turns ≡ later

-- the outages before one are entered one by one, and that one is refused by this number; it has a number itself, from 1
pub record FailsAt (log : Log) (p : Plan) (why outage : ℕ) : Type 0 where
  pub before : List Entry
  pub fails : Entry
  pub after : List Entry
  pub are : outages_of p ≡ before ++ (fails ∷ after)
  pub number : outage ≡ 1 + length before
  pub stands : Log
  pub entered : EntersAll log before stands
  pub refused : (r : Result ⊤ Refusal) (after : Log) → EnterGives stands fails r after → answer_number r ≡ why

pub record Plans : Type 0 where
  -- rule 18.5: an accepted plan
  pub entered : (log : Log) → length log.entries ≡ slots → (p : Plan) (r : Result ⊤ RefusedAt) (after : Log) → EnterPlanGives log p r after → answer_number (why_alone r) ≡ 0
      → (part_number r ≡ 0) × EntersAll log (outages_of p) after
  -- rules 18.5 and 18.6: a plan that is refused by one of its outages
  pub refused : (log : Log) → length log.entries ≡ slots → (p : Plan) (r : Result ⊤ RefusedAt) (after : Log) → EnterPlanGives log p r after → (answer_number (why_alone r) ≡ 0 → ⊥) → (part_number r ≡ 0 → ⊥)
      → FailsAt log p (answer_number (why_alone r)) (part_number r)
  -- beside 1 and 17 there is none
  pub beside : (log : Log) → length log.entries ≡ slots → (p : Plan) (r : Result ⊤ RefusedAt) (after : Log) → EnterPlanGives log p r after → (answer_number (why_alone r) ≡ 0 → ⊥) → part_number r ≡ 0
      → (answer_number (why_alone r) ≡ 1) ⊎ (answer_number (why_alone r) ≡ 17)
  -- rule 18.7: on an empty log to a regime end
  pub listed : (regime_end : ℕ) (made : Result Log Refusal) → EmptyGives regime_end made → answer_number made ≡ 0 → (p : Plan) (l : Result Listed RefusedAt) → ListGives regime_end p l
      → (r : Result ⊤ RefusedAt) (after : Log) → EnterPlanGives (made_log made) p r after
      → (answer_number (why_alone r) ≡ answer_number (why_alone l))
      × (part_number r ≡ part_number l)
      × (after ≡ log_made (given_or (list_of []) (why_alone l)).entries (given_or (list_of []) (why_alone l)).count regime_end)
