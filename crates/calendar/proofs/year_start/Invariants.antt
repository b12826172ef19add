-- At each turn of `year_start`'s loop it stands at the start of the year that it passes next.
use Rattle.std.proofs.Common.{◌≡◌}
use Rattle.calendar.specs.Years.{year_start}
use Rattle.calendar.proofs.year_start.Given as goal

abbrev pub invariant-loop-passing : goal.invariant-loop-passing
invariant-loop-passing l = l.start ≡ year_start l.passing
