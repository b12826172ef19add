-- A turn reads a byte, and the number so far leaves room for it.
use Rattle.std.proofs.Common.{ℕ, ◌<◌, ◌≤◌, ◌+◌, ◌*◌, ◌^◌, get_or, length, refl, arith}
use Rattle.codec.specs.Numbers.{spelled}
use Rattle.codec.proofs.Numbers.{grows, fits_word, spelled_more}
use Rattle.codec.proofs.spell.Goals as goal

-- a byte more fits 64 bits
wide : (i v n : ℕ) → i < n → n ≤ 8 → v < 256 ^ i → v * 256 + 255 < 2 ^ 64
wide i v n h k l = fits_word (i + 1) (v * 256 + 255) (omega arith) (grows i v 255 l (omega arith))

pub loop-b-init : goal.loop-b-init
unfolding spelled
loop-b-init c = (omega arith, refl)

pub overflow_mul-v : goal.overflow_mul-v
overflow_mul-v c = omega (arith, wide c.loop-b.b-index c.loop-b.v (length c.args.bytes.now) (omega arith) (omega arith) c.loop-b.invariant.0)

pub loop-b-preserved : goal.loop-b-preserved
loop-b-preserved c =
    let a = c.args in
    let l = c.loop-b in
    let b : get_or a.bytes.now l.b-index 0 < 256 = omega (arith, c.type_inv.bytes l.b-index) in
    (grows l.b-index l.v _ l.invariant.0 (omega arith), rw (spelled_more a.bytes.now l.b-index (omega arith), ← l.invariant.1, c.from.ensures))
