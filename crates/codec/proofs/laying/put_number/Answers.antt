-- Too wide a number has no field; one without room leaves the buffer, and one with room is its head and then its bytes.
use Rattle.std.proofs.Common.{◌≡◌, ℕ, ◌+◌, ◌++◌, length, sym, length-append, arith}
use Rattle.codec.specs.Numbers.{bytes_of}
use Rattle.codec.specs.Fields.{head}
use Rattle.codec.proofs.Numbers.{bytes_length}
use Rattle.codec.proofs.Items.{length_head}
use Rattle.codec.proofs.Buffers.{laid_empty, written, unwritten}
use Rattle.codec.proofs.Leaves.{field_bytes_there, field_bytes_wide}
use Rattle.codec.proofs.Putting.{run_then, number_last}
use Rattle.codec.proofs.laying.put_number.Goals as goal
use Rattle.codec.proofs.laying.put_number.Goals.{then-width-gt-WIDEST-via-then-width-gt-WIDEST, then-width-gt-WIDEST-via-else-width-gt-WIDEST+then-saturating_sub-width}

-- how long the field is
size : (tag n v : ℕ) → length (head tag n ++ bytes_of n v) ≡ 3 + n
size tag n v = rw (length-append (head tag n) (bytes_of n v), length_head tag n, bytes_length n v)

pub returns-then-width-gt-WIDEST : goal.returns-then-width-gt-WIDEST
returns-then-width-gt-WIDEST c =
    let a = c.args in
    elim c.then-width-gt-WIDEST.branch [
      | then-width-gt-WIDEST-via-then-width-gt-WIDEST w ↦ let e = laid_empty a.out.now a.at in rw (field_bytes_wide a.tag a.n a.v (omega (arith, c.from-width.ensures))) (sym e.0, sym e.1)
      | then-width-gt-WIDEST-via-else-width-gt-WIDEST+then-saturating_sub-width w ↦ rw (field_bytes_there a.tag a.n a.v (omega (arith, c.from-width.ensures))) (unwritten _ _ _ (omega (arith, size a.tag a.n a.v, w.saturating_sub.ensures)))
    ]

pub returns : goal.returns
returns c =
    let a = c.args in
    let z = size a.tag a.n a.v in
    let n = c.from-width.ensures in
    rw (field_bytes_there a.tag a.n a.v (omega arith))
    (written (omega arith) (run_then (head a.tag a.n) (omega arith) c.put_head-p.ensures (λ r. number_last a.n a.v (omega arith) r (rw n at c.put.ensures))))
