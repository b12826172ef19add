-- Each part of the return has the room that those before it leave, and all of them are the return.
use Rattle.std.proofs.Common.{◌≡◌, to_z, of_z, rules}
use Rattle.std.specs.Int.{w64}
use Rattle.money.proofs.Pounds.{wire}
use Rattle.return_writing.proofs.Laying.{year_laid, required_room, factors_room, lines_room, log_room, mark_room, wpa_room}
use Rattle.return_writing.proofs.Sizes.{few_outages}
use Rattle.return_writing.proofs.put_year.Goals as goal

pub put_required-a-requires : goal.put_required-a-requires
put_required-a-requires c = required_room c.args.y c.args.out.now c.requires.1

pub put_factors-b-requires : goal.put_factors-b-requires
put_factors-b-requires c = factors_room c.args.y c.args.out.now c.requires.1 c.put_required-a.ensures

pub put_lines-c-requires : goal.put_lines-c-requires
put_lines-c-requires c =
    lines_room c.args.y c.args.out.now c.requires.1 c.put_required-a.ensures c.put_factors-b.ensures

pub shared_ref_as_front-put_outages : goal.shared_ref_as_front-put_outages
shared_ref_as_front-put_outages c = few_outages c.args.y c.requires.0

pub put_outages-d-requires : goal.put_outages-d-requires
put_outages-d-requires c =
    log_room c.args.y c.args.out.now c.requires.1 c.put_required-a.ensures c.put_factors-b.ensures c.put_lines-c.ensures

pub put_mark-e-requires : goal.put_mark-e-requires
put_mark-e-requires c =
    mark_room c.args.y c.args.out.now c.requires.1 c.put_required-a.ensures c.put_factors-b.ensures c.put_lines-c.ensures c.put_outages-d.ensures

pub put_wpa-requires : goal.put_wpa-requires
put_wpa-requires c =
    let y = c.args.y in
    let back : to_z w64 (of_z w64 y.wpa) ≡ y.wpa = wire y.wpa (search rules) in
    rw back
    (wpa_room y c.args.out.now c.requires.1 c.put_required-a.ensures c.put_factors-b.ensures c.put_lines-c.ensures c.put_outages-d.ensures c.put_mark-e.ensures)

pub returns : goal.returns
returns c =
    let y = c.args.y in
    let back : to_z w64 (of_z w64 y.wpa) ≡ y.wpa = wire y.wpa (search rules) in
    year_laid y c.put_required-a.ensures c.put_factors-b.ensures c.put_lines-c.ensures c.put_outages-d.ensures c.put_mark-e.ensures
    (rw back at c.put_wpa.ensures)
