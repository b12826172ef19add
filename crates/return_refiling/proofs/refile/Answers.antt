-- A year that was read is written as the bytes that it was read from.
use Rattle.std.proofs.Common.{ℕ, sym}
use Rattle.return_refiling.proofs.Again.{written_again}
use Rattle.return_refiling.proofs.refile.Goals as goal

pub returns : goal.returns
returns c =
    let read = c.in_ok-y.ensures in
    written_again c.args.s.now c.args.out.now (λ (i : ℕ). (c.type_inv.s i).fits) (sym read.0) c.in_ok-y.y read.2
    c.write_return.result c.write_return.ensures
