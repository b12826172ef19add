-- What the functions inside are stated by. No call is stated by it: laws turn it into the words of the plan.
use Rattle.std.specs.Prelude.{ℕ, min}
use Rattle.entries.specs.declared.Entry.{Entry}
use Rattle.plan.specs.declared.Plan.{Plan}
use Rattle.plan.specs.Plan.{outage_after}

-- the last minute that fits
abbrev pub latest : ℕ
latest = 4294967295

-- the outage after so many steps, each minute saturated
abbrev pub fitted_at : Plan → ℕ → Entry
fitted_at p steps = record { start = min (outage_after p steps).start latest; end = min (outage_after p steps).end latest; mw = p.mw; cause = p.cause }
