-- Year 1 starts at minute 0.
use Rattle.std.proofs.Common.{sym}
use Rattle.calendar.proofs.Laws.{year_one}
use Rattle.calendar.proofs.year_start.Goals as goal

pub loop-passing-init : goal.loop-passing-init
loop-passing-init c = sym year_one
