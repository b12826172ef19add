-- A minute up to the last regime end is printed.
use Rattle.std.proofs.Common.{ap, ◌∙◌, arith, ltb, le-ltb}
use Rattle.entries.specs.Row.{last_regime_end}
use Rattle.text.specs.declared.Text.{Text}
use Rattle.text.specs.Text.{pushed}
use Rattle.sheet_printout.specs.Dates.{moment_of}
use Rattle.sheet_printout.proofs.Printing.{done_given, minute_room}
use Rattle.sheet_printout.proofs.print_minute.Goals as goal

pub returns : goal.returns
returns c =
    let minute = c.args.minute in
    done_given (ltb last_regime_end minute) (moment_of minute) c.push_moment.result (le-ltb last_regime_end minute (omega arith)) (minute_room minute (omega arith))
    (c.push_moment.ensures ∙ ap (λ (t : Text). pushed t (moment_of minute)) c.empty.ensures)
