-- Too few bytes are no amount; of the others the magnitude decides.
use Rattle.std.proofs.Common.{◌≡◌, ◌≤◌, length, drop, sym, ◌∙◌, length-drop, to_z, of_z, nat_le, nat_abs, arith}
use Rattle.std.specs.Int.{w64}
use mir.ValLaws.{to_z-of_z}
use Rattle.codec.proofs.Leaves.{number_there, amount_there, amount_short}
use Rattle.codec.proofs.Values.{some_when}
use Rattle.codec.proofs.amount.Goals as goal

pub returns-then-saturating_sub-lt-WIDEST : goal.returns-then-saturating_sub-lt-WIDEST
returns-then-saturating_sub-lt-WIDEST c =
    let a = c.args in
    sym (amount_short a.most (drop a.at a.s.now) (simp length-drop (omega (arith, c.saturating_sub.ensures))))

pub returns : goal.returns
returns c =
    let a = c.args in
    let z = c.signed-z.result in
    let h : 8 ≤ length (drop a.at a.s.now) = simp length-drop (omega arith) in
    let v = sym (c.number.ensures ∙ number_there 8 (drop a.at a.s.now) (omega arith) h) in
    let same : to_z w64 (of_z w64 z) ≡ z = to_z-of_z w64 z (record { sfits = c.signed-z.type_inv }) in
    let found : nat_le (nat_abs z) a.most ≡ c.within.result = sym (c.within.ensures ∙ rw same) in
    let q = rw same at c.then_some.ensures in
    rw (amount_there a.most (drop a.at a.s.now) h, v, ← c.signed-z.ensures, found) (q ∙ some_when c.within.result z)
