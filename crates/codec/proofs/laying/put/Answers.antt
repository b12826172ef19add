-- Too wide a number has no bytes; one without room leaves the buffer, and one with room is laid.
use Rattle.std.proofs.Common.{◌≡◌, ◌+◌, ◌-◌, sym, ◌∙◌, arith}
use Rattle.codec.specs.Numbers.{bytes_of}
use Rattle.codec.proofs.Numbers.{bytes_length, low_bytes}
use Rattle.codec.proofs.Buffers.{laid_empty, written, unwritten, part_is}
use Rattle.codec.proofs.Leaves.{bytes_there, bytes_wide}
use Rattle.codec.proofs.laying.put.Goals as goal
use Rattle.codec.proofs.laying.put.Goals.{then-n-gt-WIDEST-via-then-n-gt-WIDEST, then-n-gt-WIDEST-via-else-n-gt-WIDEST+then-out-at, then-n-gt-WIDEST-via-else-n-gt-WIDEST+else-out-at+then-out-at-2}

pub returns-then-n-gt-WIDEST : goal.returns-then-n-gt-WIDEST
returns-then-n-gt-WIDEST c =
    let a = c.args in
    elim c.then-n-gt-WIDEST.branch [
      | then-n-gt-WIDEST-via-then-n-gt-WIDEST w ↦ let e = laid_empty a.out.now a.at in rw (bytes_wide a.n a.v w.if-n-gt-WIDEST.true) (sym e.0, sym e.1)
      | then-n-gt-WIDEST-via-else-n-gt-WIDEST+then-out-at w ↦ unwritten _ _ _ (omega arith)
      | then-n-gt-WIDEST-via-else-n-gt-WIDEST+else-out-at+then-out-at-2 w ↦ rw (bytes_there a.n a.v (omega arith)) (unwritten _ _ _ (omega (arith, bytes_length a.n a.v)))
    ]

pub returns : goal.returns
returns c =
    let a = c.args in
    let l = bytes_length a.n a.v in
    let e : a.at + a.n - a.at ≡ a.n = omega arith in
    let bs : c.copy_from_slice.new.self ≡ bytes_of a.n a.v = c.copy_from_slice.ensures.after ∙ rw (← c.to_be_bytes-bytes.ensures) at (low_bytes a.n a.v (omega arith)) in
    rw (bytes_there a.n a.v (omega arith)) (written (omega arith) (record { is = rw (e, bs) (part_is a.out.now (bytes_of a.n a.v) a.at a.n l (omega arith)); to = rw l }))
