-- The four fields are laid one after the other.
use Rattle.std.proofs.Common.{arith}
use Rattle.return_writing.proofs.Laying.{required_laid}
use Rattle.return_writing.proofs.put_required.Goals as goal

pub returns : goal.returns
returns c =
    let y = c.args.y.now in
    required_laid y.number y.pppi y.rate y.aic (omega (arith, c.requires))
    c.put_number-a.ensures c.put_number-b.ensures c.put_number-c.ensures c.put_number.ensures
