-- The number is 0 where it is too wide or its bytes are not there, and else what they spell.
use Rattle.std.proofs.Common.{◌≡◌, ◌≤◌, ◌+◌, ◌-◌, length, drop, sym, length-drop, arith}
use Rattle.codec.proofs.Leaves.{number_there, number_wide, number_short, number_past}
use Rattle.codec.proofs.number.Goals as goal
use Rattle.codec.proofs.number.Goals.{then-n-gt-WIDEST-via-then-n-gt-WIDEST, then-n-gt-WIDEST-via-else-n-gt-WIDEST+then-s-at, then-n-gt-WIDEST-via-else-n-gt-WIDEST+else-s-at+then-s-at-2}

pub returns-then-n-gt-WIDEST : goal.returns-then-n-gt-WIDEST
returns-then-n-gt-WIDEST c =
    let a = c.args in
    elim c.then-n-gt-WIDEST.branch [
      | then-n-gt-WIDEST-via-then-n-gt-WIDEST w ↦ sym (number_wide _ _ w.if-n-gt-WIDEST.true)
      | then-n-gt-WIDEST-via-else-n-gt-WIDEST+then-s-at w ↦ sym (number_past a.n (drop a.at a.s.now) (simp length-drop (omega arith)))
      | then-n-gt-WIDEST-via-else-n-gt-WIDEST+else-s-at+then-s-at-2 w ↦ sym (number_short a.n (drop a.at a.s.now) (simp length-drop (omega arith)))
    ]

pub returns : goal.returns
returns c =
    let a = c.args in
    let e : a.at + a.n - a.at ≡ a.n = omega arith in
    let h : a.n ≤ length (drop a.at a.s.now) = simp length-drop (omega arith) in
    rw (number_there a.n (drop a.at a.s.now) (omega arith) h) (rw e at c.spell.ensures)
