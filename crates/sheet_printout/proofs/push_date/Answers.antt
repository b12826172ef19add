-- A month and a day have at most two digits.
use Rattle.std.proofs.Common.{arith}
use Rattle.sheet_printout.proofs.Dates.{date_small}
use Rattle.sheet_printout.proofs.push_date.Goals as goal

pub push_two-month-requires : goal.push_two-month-requires
push_two-month-requires c = omega (arith, (date_small c.args.minute.at c.args.minute.in_range).0, c.date-date.ensures.1)

pub push_two-requires : goal.push_two-requires
push_two-requires c = omega (arith, (date_small c.args.minute.at c.args.minute.in_range).1, c.date-date.ensures.2)
