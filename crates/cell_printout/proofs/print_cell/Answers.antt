-- Past the last cell there is no line.
use Rattle.cell_printout.proofs.Lines.{bad_given, none_past}
use Rattle.cell_printout.proofs.print_cell.Goals as goal

pub returns-then-index-ge-CELLS : goal.returns-then-index-ge-CELLS
returns-then-index-ge-CELLS c = bad_given c.args.index c.args.cell (none_past c.args.index c.args.cell c.if-index-ge-CELLS.true)
