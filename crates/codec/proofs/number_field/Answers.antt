-- Nothing is found where the number is too wide or the field is not whole; else its value decides.
use Rattle.std.proofs.Common.{◌≡◌, Bool, true, ap, ◌+◌, ◌≤◌, length, drop, sym, ◌∙◌, length-drop, arith}
use borrow.Author.Tests.{le-leb, lt-leb}
use Rattle.std.specs.Bool.{then_some}
use Rattle.codec.specs.Fields.{framed}
use Rattle.codec.proofs.Values.{some_when}
use Rattle.codec.proofs.Leaves.{number_there, field_wide, value_there, value_not}
use Rattle.codec.proofs.Positions.{room}
use Rattle.codec.proofs.number_field.Goals as goal
use Rattle.codec.proofs.number_field.Goals.{then-len-gt-WIDEST-via-then-len-gt-WIDEST, then-len-gt-WIDEST-via-else-len-gt-WIDEST+then-not-is_field, then-lo-v, else-lo-v}

pub returns-then-len-gt-WIDEST : goal.returns-then-len-gt-WIDEST
returns-then-len-gt-WIDEST c =
    elim c.then-len-gt-WIDEST.branch [
      | then-len-gt-WIDEST-via-then-len-gt-WIDEST w ↦ sym (field_wide _ _ _ _ _ w.if-len-gt-WIDEST.true)
      | then-len-gt-WIDEST-via-else-len-gt-WIDEST+then-not-is_field w ↦ sym (value_not _ _ _ _ _ (omega arith) (sym w.is_field.ensures ∙ w.if-not-is_field.true))
    ]

pub overflow_add-at : goal.overflow_add-at
overflow_add-at c =
    let a = c.args in
    omega (arith, room a.tag a.len a.s.now a.at (sym c.is_field.ensures ∙ c.if-not-is_field.false))

pub returns : goal.returns
returns c =
    let a = c.args in
    let w : framed a.tag a.len (drop a.at a.s.now) ≡ true = sym c.is_field.ensures ∙ c.if-not-is_field.false in
    let h : a.len ≤ length (drop (a.at + 3) a.s.now) = simp length-drop (omega (arith, room a.tag a.len a.s.now a.at w)) in
    let v = sym (c.number-v.ensures ∙ number_there a.len (drop (a.at + 3) a.s.now) (omega arith) h) in
    rw (value_there a.tag a.len a.lo a.hi a.s.now a.at (omega arith) w, v)
    (elim c.if-lo-v.branch [
      | then-lo-v w ↦ rw (le-leb _ _ w.if-lo-v.true) (c.then_some.ensures ∙ ap (λ (b : Bool). then_some b c.number-v.result) w.then_some-is ∙ some_when _ c.number-v.result)
      | else-lo-v w ↦ let low = lt-leb _ _ w.if-lo-v.false in rw low (c.then_some.ensures ∙ ap (λ (b : Bool). then_some b c.number-v.result) (w.then_some-is ∙ low))
    ])
