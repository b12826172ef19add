-- A head without room leaves the buffer, and one with room is its tag and then the two bytes of its length.
use Rattle.std.proofs.Common.{◌≡◌, suc, ◌+◌, ◌-◌, ◌∙◌, set, length-set, add-one, arith}
use Rattle.codec.specs.Fields.{head}
use Rattle.codec.specs.Numbers.{bytes_of}
use Rattle.codec.proofs.Numbers.{bytes_length, high_first}
use Rattle.codec.proofs.Buffers.{written, unwritten, part_is}
use Rattle.codec.proofs.Items.{length_head}
use Rattle.codec.proofs.laying.put_head.Goals as goal

pub returns-then-saturating_sub-lt3 : goal.returns-then-saturating_sub-lt3
returns-then-saturating_sub-lt3 c =
    let a = c.args in
    unwritten _ _ _ (omega (arith, length_head a.tag a.len, c.saturating_sub.ensures))

pub returns : goal.returns
unfolding head
returns c =
    let a = c.args in
    let l = length_head a.tag a.len in
    let e : a.at + 3 - (a.at + 1) ≡ 2 = omega arith in
    let bs : c.copy_from_slice.new.self ≡ bytes_of 2 a.len = c.copy_from_slice.ensures.after ∙ c.to_be_bytes-bytes.ensures ∙ high_first 2 a.len in
    let is = part_is (set a.out.now a.at a.tag) (bytes_of 2 a.len) (suc a.at) 2 (bytes_length 2 a.len) (simp length-set (omega arith)) in
    written (omega arith) (record { is = rw (e, bs, add-one a.at) is; to = rw l })
