-- An outage that starts and ends up to the last regime end is printed.
use Rattle.std.proofs.Common.{arith}
use Rattle.sheet_printout.specs.Dates.{outage_line}
use Rattle.sheet_printout.proofs.Printing.{done_given, line_room, past_end, none_past}
use Rattle.sheet_printout.proofs.print_outage.Goals as goal

pub returns : goal.returns
returns c =
    let e = c.args.e in
    done_given (past_end e) (outage_line e) c.outage_line.result (none_past e (omega arith) (omega arith)) (line_room e (omega arith) (omega arith)) c.outage_line.ensures
