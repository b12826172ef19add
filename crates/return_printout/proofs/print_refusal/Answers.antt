-- The line of a refusal has room.
use Rattle.std.proofs.Common.{ℕ, ◌≤◌, [], length, length-append, ap, ◌∙◌, arith}
use Rattle.refusals.specs.Refusals.{refusal_number}
use Rattle.text.specs.declared.Text.{Text}
use Rattle.text.specs.Text.{room}
use Rattle.text.proofs.Laws.{digits_most, pushed_text}
use Rattle.return_printout.specs.Printout.{refusal_of}
use Rattle.return_printout.proofs.print_refusal.Goals as goal

refused_room : (n : ℕ) → length (refusal_of n) ≤ room
unfolding refusal_of
refused_room n = simp length-append (omega (arith, digits_most 20 n))

pub returns : goal.returns
returns c =
    let line = refusal_of (refusal_number c.args.why) in
    let e = c.refusal.ensures ∙ pushed_text [] line (omega (arith, refused_room (refusal_number c.args.why))) in
    (e, omega (arith, ap (λ (t : Text). t.length) e, refused_room (refusal_number c.args.why)))
