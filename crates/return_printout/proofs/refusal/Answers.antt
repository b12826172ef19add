-- The line of a refusal is the word and its number.
use Rattle.std.proofs.Common.{ℕ, [], ap, ◌∙◌}
use Rattle.text.specs.declared.Text.{Text}
use Rattle.text.specs.Text.{decimal, pushed, text_of}
use Rattle.return_printout.specs.Printout.{line_of, refused_word, refusal_of}
use Rattle.return_printout.proofs.refusal.Goals as goal

pub returns : goal.returns
unfolding refusal_of
returns c =
    c.with_line.ensures
    ∙ ap (λ (t : Text). pushed t (line_of refused_word (decimal c.number.result))) c.empty.ensures
    ∙ ap (λ (n : ℕ). pushed (text_of []) (line_of refused_word (decimal n))) c.number.ensures
