-- Too few bytes are no field; of the others the tag, the length and the bytes that follow decide in turn.
use Rattle.std.proofs.Common.{◌≡◌, Bool, true, false, ◌&&◌, List, ℕ, ◌+◌, ◌-◌, ◌≤◌, length, take, drop, get_or, refl, sym, ap, ◌∙◌, length-drop, eq-eqb, ne_eqb, arith}
use lib.Dec.{eqb, leb}
use Rattle.codec.specs.Numbers.{spelled}
use Rattle.codec.specs.Fields.{framed}
use Rattle.codec.specs.Leaves.{number_at}
use Rattle.codec.proofs.Leaves.{number_there}
use Rattle.codec.proofs.Numbers.{framed_short, framed_at}
use Rattle.codec.proofs.is_field.Goals as goal
use Rattle.codec.proofs.is_field.Goals.{then-s-at-via-then-s-at, then-s-at-via-else-s-at+then-s-at-lt3, then-s-at-2, else-s-at-2}

pub returns-then-s-at : goal.returns-then-s-at
returns-then-s-at c =
    let a = c.args in
    elim c.then-s-at.branch [
      | then-s-at-via-then-s-at w ↦ sym (framed_short a.tag a.len _ (simp length-drop (omega arith)))
      | then-s-at-via-else-s-at+then-s-at-lt3 w ↦ sym (framed_short a.tag a.len _ (simp length-drop (omega arith)))
    ]

-- the three tests one after the other: v is what the first two give
in_turn : (a b l v : Bool) {f : Bool} → f ≡ (a && (b && l)) → v ≡ (a && b) → f ≡ (v && l)
in_turn true b l v e h = e ∙ ap (λ (x : Bool). x && l) (sym h)
in_turn false b l v e h = e ∙ ap (λ (x : Bool). x && l) (sym h)

module _ (s : List ℕ) (at tag len : ℕ) {v : Bool} (h : at + 3 ≤ length s) where
  -- the tag is right, or it is not
  right : get_or s at 0 ≡ tag → {n : ℕ} → n ≡ number_at 2 (drop (at + 1) s) → v ≡ eqb n len → framed tag len (drop at s) ≡ (v && leb len (length s - at - 3))
  right e {n} i w =
      let k : 2 ≤ length (drop (at + 1) s) = simp length-drop (omega arith) in
      let r : n ≡ spelled 0 (take 2 (drop (at + 1) s)) = i ∙ number_there 2 (drop (at + 1) s) (omega arith) k in
      in_turn true (eqb n len) _ v (framed_at tag len s at h ∙ rw (eq-eqb (get_or s at 0) tag e, r) refl) w

  wrong : (get_or s at 0 ≡ tag → ⊥) → v ≡ eqb (get_or s at 0) tag → framed tag len (drop at s) ≡ (v && leb len (length s - at - 3))
  wrong e w =
      let n : eqb (get_or s at 0) tag ≡ false = ne_eqb (get_or s at 0) tag e in
      in_turn false false _ v (framed_at tag len s at h ∙ rw n refl) (w ∙ n)

pub returns-then-number-len : goal.returns-then-number-len
returns-then-number-len c =
    let h : c.args.at + 3 ≤ length c.args.s.now = omega arith in
    elim c.if-s-at-2.branch [
      | then-s-at-2 w ↦ rw (c.if-number-len.true) at (sym (right c.args.s.now c.args.at c.args.tag c.args.len h w.if-s-at-2.true w.number.ensures w.value-is))
      | else-s-at-2 w ↦ rw (c.if-number-len.true) at (sym (wrong c.args.s.now c.args.at c.args.tag c.args.len h w.if-s-at-2.false w.value-is))
    ]

pub returns-else-number-len : goal.returns-else-number-len
returns-else-number-len c =
    let h : c.args.at + 3 ≤ length c.args.s.now = omega arith in
    let e = c.if-number-len.false in
    elim c.if-s-at-2.branch [
      | then-s-at-2 w ↦ e ∙ rw e at (sym (right c.args.s.now c.args.at c.args.tag c.args.len h w.if-s-at-2.true w.number.ensures w.value-is))
      | else-s-at-2 w ↦ e ∙ rw e at (sym (wrong c.args.s.now c.args.at c.args.tag c.args.len h w.if-s-at-2.false w.value-is))
    ]
