-- At each turn of `is_year_end`'s loop it stands at the start of the year that it passes next, and no year passed before
-- ends at the minute.
use Rattle.std.proofs.Common.{◌≡◌, ◌-◌, false}
use Rattle.calendar.specs.Years.{year_start, one_ends_at}
use Rattle.calendar.proofs.ends.is_year_end.Given as goal

abbrev pub invariant-loop-passing : goal.invariant-loop-passing
invariant-loop-passing l = (l.start ≡ year_start l.passing) × (one_ends_at l.regime_end l.minute (l.passing - 1) ≡ false)
