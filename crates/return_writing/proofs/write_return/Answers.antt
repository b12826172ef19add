-- A year that may be written has a return of the counted size, which has room or has none.
use Rattle.std.proofs.Common.{◌≡◌, true, length, Err, rules, arith}
use Rattle.return_format.specs.Return.{return_of, valid_year}
use Rattle.return_writing.proofs.Writable.{writable_valid, gives_refused, gives_no_room, gives_length}
use Rattle.return_writing.proofs.Sizes.{few_lines, few_outages, outages_most, year_size}
use Rattle.return_writing.proofs.write_return.Goals as goal

pub returns-in_err-check_writable : goal.returns-in_err-check_writable
returns-in_err-check_writable c =
    let why = c.in_err-check_writable.field-0.0 in
    let e : c.from_residual.result ≡ Err why = search rules in
    rw e (gives_refused c.args.y c.args.out.now why c.in_err-check_writable.ensures)

pub shared_ref_as_front-size_of_outages : goal.shared_ref_as_front-size_of_outages
shared_ref_as_front-size_of_outages c =
    few_outages c.args.y (writable_valid c.args.y c.check_writable.result c.check_writable.ensures c.in_ok-check_writable.was)

pub size_of-size-requires : goal.size_of-size-requires
size_of-size-requires c =
    let y = c.args.y in
    let valid : valid_year y ≡ true = writable_valid y c.check_writable.result c.check_writable.ensures c.in_ok-check_writable.was in
    let entries : length y.log.entries ≡ 400 = search rules in
    (few_lines y valid, omega (arith, c.size_of_outages-outages.ensures, outages_most y valid entries))

pub returns-then-out-size : goal.returns-then-out-size
returns-then-out-size c =
    let y = c.args.y in
    let valid : valid_year y ≡ true = writable_valid y c.check_writable.result c.check_writable.ensures c.in_ok-check_writable.was in
    let slots : length y.lines ≡ 64 = search rules in
    let sized : c.size_of-size.result ≡ length (return_of y) = omega (arith, c.size_of-size.ensures, c.size_of_outages-outages.ensures, year_size y valid slots) in
    gives_no_room y c.args.out.now valid (omega arith)

pub put_year-requires : goal.put_year-requires
put_year-requires c =
    let y = c.args.y in
    let valid : valid_year y ≡ true = writable_valid y c.check_writable.result c.check_writable.ensures c.in_ok-check_writable.was in
    let slots : length y.lines ≡ 64 = search rules in
    let sized : c.size_of-size.result ≡ length (return_of y) = omega (arith, c.size_of-size.ensures, c.size_of_outages-outages.ensures, year_size y valid slots) in
    (valid, omega arith)

pub returns : goal.returns
returns c =
    let y = c.args.y in
    let valid : valid_year y ≡ true = writable_valid y c.check_writable.result c.check_writable.ensures c.in_ok-check_writable.was in
    let slots : length y.lines ≡ 64 = search rules in
    let sized : c.size_of-size.result ≡ length (return_of y) = omega (arith, c.size_of-size.ensures, c.size_of_outages-outages.ensures, year_size y valid slots) in
    gives_length y c.args.out.now valid (omega arith) c.put_year.ensures
