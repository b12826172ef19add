-- What a read gives stands behind what was read before it.
use Rattle.std.proofs.Common.{◌≡◌, ℕ, ◌+◌, ◌-◌, ◌≤◌, List, ◌++◌, arith, length, take, slice_range, sym, ap, ◌∙◌, subst, rules, le_refl, drop_at, length-take-le}
use Rattle.std.proofs.lemmas.Slice.{take-put_mid_below}
use Rattle.std.proofs.KnownBytes.{Consumes-trans}
use Rattle.std.specs.Io.KnownBytes.{Consumes}
use borrow.Rule.Slice.PartMut.{put_mid, post_of}
use lib.Seq.{take-add, take-append-le}
use Rattle.input_end.proofs.read_into.Goals as goal

-- the first n of the bytes put at a place, behind what stood before it
taken : (at room n : ℕ) (buf bs : List ℕ) → at ≤ length buf → n ≤ length bs → take at buf ++ take n bs ≡ take (at + n) (put_mid at room buf bs)
taken at room n buf bs within fits =
    let all = put_mid at room buf bs in
    let after = post_of at room buf in
    let part : slice_range all at (at + n) ≡ take n bs =
    (let same : (at + n) - at ≡ n = omega arith in
    ap (take ((at + n) - at)) (drop_at (take at buf) (bs ++ after) at (length-take-le at buf within)) ∙ ap (λ m. take m (bs ++ after)) same ∙ take-append-le n bs after fits) in
    let same : at + ((at + n) - at) ≡ at + n = omega arith in
    ap (λ l. take at buf ++ l) (sym part)
    ∙ ap (λ l. l ++ slice_range all at (at + n)) (sym (take-put_mid_below at room buf bs at (le_refl at) within))
    ∙ sym (take-add at ((at + n) - at) all)
    ∙ ap (λ m. take m all) same

pub loop-done-preserved : goal.loop-done-preserved
loop-done-preserved g c =
    let at = c.loop-done.done in
    let within = c.loop-done.invariant.0 in
    (search rules, subst (Consumes _ _) (taken at (length c.loop-done.buf - at) c.in-Ok.more c.loop-done.buf c.read.new.buf within c.in-Ok.ensures.bound.0) (Consumes-trans _ _ _ _ _ c.loop-done.invariant.1 c.in-Ok.ensures.bytes.0))
