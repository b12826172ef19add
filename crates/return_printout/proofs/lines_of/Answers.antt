-- The four lines are pushed one after the other.
use Rattle.std.proofs.Common.{◌≡◌, ℤ, [], ap, ◌∙◌, SFits, w64, rules, to_z-of_z}
use Rattle.text.specs.declared.Text.{Text}
use Rattle.text.specs.Text.{decimal, pushed, signed_decimal, text_of}
use Rattle.text.proofs.Laws.{then}
use Rattle.return_printout.specs.Printout.{line_of, revenue_word, year_word, year_lines}
use Rattle.return_printout.proofs.lines_of.Goals as goal

pub returns : goal.returns
unfolding year_lines
returns c =
    let z = c.args.pounds in
    let x : SFits w64 z = search rules in
    let begun : c.with_line-a.result ≡ pushed (text_of []) (line_of year_word (decimal c.args.number)) =
    c.with_line-a.ensures ∙ ap (λ (t : Text). pushed t (line_of year_word (decimal c.args.number))) c.empty.ensures in
    let told : c.with_signed_line.result ≡ pushed c.with_line-c.result (line_of revenue_word (signed_decimal z)) =
    c.with_signed_line.ensures ∙ ap (λ (y : ℤ). pushed c.with_line-c.result (line_of revenue_word (signed_decimal y))) (to_z-of_z x) in
    then (text_of []) _ _ begun (then _ _ _ c.with_line-b.ensures (then _ _ _ c.with_line-c.ensures told))
