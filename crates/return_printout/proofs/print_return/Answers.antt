-- What is printed is the refusal of the reading, or else the year that was read, which is a valid one.
use Rattle.std.proofs.Common.{[], ap, sym, ◌∙◌, arith}
use Rattle.text.specs.Text.{pushed, text_of}
use Rattle.year.specs.declared.Year.{Year}
use Rattle.return_format.specs.Return.{valid_year}
use Rattle.return_round_trip.proofs.RoundTrip.{read_valid}
use Rattle.return_printout.specs.Printout.{printed_year}
use Rattle.return_printout.proofs.YearLines.{refused_given, year_given}
use Rattle.return_printout.proofs.print_return.Goals as goal

pub returns-in-Err : goal.returns-in-Err
returns-in-Err c = refused_given c.args.s.now c.in-Err.refused.why c.in-Err.ensures.0 c.refusal.ensures

pub print_year-requires : goal.print_year-requires
print_year-requires c =
    let read = c.in-Ok.ensures in
    ap valid_year read.2 ∙ read_valid c.args.s.now (λ i. omega (arith, c.type_inv.s i)) (sym read.0)

pub returns-in-Ok : goal.returns-in-Ok
returns-in-Ok c =
    let read = c.in-Ok.ensures in
    year_given c.args.s.now (λ i. omega (arith, c.type_inv.s i)) (sym read.0)
    (c.print_year.ensures ∙ ap (λ (y : Year). pushed (text_of []) (printed_year y)) read.2)
