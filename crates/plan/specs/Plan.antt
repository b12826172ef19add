-- A plan and the outages that it means: rules 18.1 to 18.3.
use Rattle.std.specs.Prelude.{Bool, ◌&&◌, List, [], ◌∷◌, ℕ, zero, suc, ◌+◌, ◌*◌, leb}
use Rattle.entries.specs.declared.Entry.{Entry}
use Rattle.plan.specs.declared.Plan.{Plan}

-- ---- rule 18.1: each outage starts a step of so many days after the one before it, and all have the plan's MW and cause
abbrev pub step_minutes : Plan → ℕ
step_minutes p = p.step * 1440

abbrev pub start_after : Plan → ℕ → ℕ
start_after p steps = p.start + steps * step_minutes p

abbrev pub outage_after : Plan → ℕ → Entry
outage_after p steps = record { start = start_after p steps; end = start_after p steps + p.length; mw = p.mw; cause = p.cause }

-- n outages, the first of them after so many steps
unfoldable pub outages_from : Plan → ℕ → ℕ → List Entry
outages_from p steps zero = []
outages_from p steps (suc n) = outage_after p steps ∷ outages_from p (suc steps) n

abbrev pub outages_of : Plan → List Entry
outages_of p = outages_from p 0 p.count

-- ---- rule 18.2: count, step and window
abbrev pub most_outages : ℕ
most_outages = 400

abbrev pub good_plan : Plan → Bool
good_plan p = (leb 1 p.count && leb p.count most_outages) && (leb 1 p.step && leb p.length (step_minutes p))

-- ---- rule 12.3: a plan of zeros
abbrev pub no_plan : Plan
no_plan = record { start = 0; length = 0; step = 0; count = 0; mw = 0; cause = 0 }
