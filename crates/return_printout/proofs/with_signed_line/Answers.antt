-- The word, the signed number and a newline are pushed.
use Rattle.std.proofs.Common.{ℤ, ap, ◌∙◌, SFits, w64, rules, to_z-of_z}
use Rattle.text.specs.Text.{pushed, signed_decimal}
use Rattle.return_printout.proofs.Lines.{line}
use Rattle.return_printout.proofs.with_signed_line.Goals as goal

pub returns : goal.returns
returns c =
    let z = c.args.z in
    let x : SFits w64 z = search rules in
    line _ _ _ c.push_all-begun.ensures (c.push_signed-told.ensures ∙ ap (λ (y : ℤ). pushed c.push_all-begun.result (signed_decimal y)) (to_z-of_z x)) c.push.ensures
