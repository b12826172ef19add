-- Lines pushed one after the other. Assumes nothing.
use mathlib.Core.Path.{◌≡◌, sym, ap, ◌∙◌}
use mathlib.Core.List.{List, [], ◌∷◌, ◌++◌}
use Prim.Native.Nat.{ℕ}
use Rattle.text.specs.declared.Text.{Text}
use Rattle.text.specs.Text.{pushed}
use Rattle.text.proofs.Laws.{pushed_append}
use Rattle.return_printout.specs.Printout.{line_of}

-- a word, a figure and a newline
pub line : (t : Text) {a b c : Text} (word figure : List ℕ) → a ≡ pushed t word → b ≡ pushed a figure → c ≡ pushed b (10 ∷ []) → c ≡ pushed t (line_of word figure)
line t word figure e f g = g ∙ ap (λ (u : Text). pushed u (10 ∷ [])) (f ∙ ap (λ (u : Text). pushed u figure) e) ∙ sym (pushed_append t word (figure ++ (10 ∷ [])) ∙ pushed_append (pushed t word) figure (10 ∷ []))
