-- Its five parts stand one after the other, and have room.
use Rattle.std.proofs.Common.{◌≡◌, ◌∙◌, ap, List, [], ◌∷◌, ℕ, ◌≤◌, ◌<◌, length, length-append, arith}
use Rattle.text.specs.declared.Text.{Text}
use Rattle.text.specs.Text.{decimal, pushed, room, text_of}
use Rattle.text.proofs.Laws.{digits_few, pushed_text, then}
use Rattle.oldsheet.specs.Printout.{at_word, refusal_line, refused_word}
use Rattle.oldsheet.proofs.say.refusal_line.Goals as goal

-- a number of 64 bits has at most 20 digits
line-room : (number place : ℕ) → number < 18446744073709551616 → place < 18446744073709551616 → length (refusal_line number place) ≤ room
unfolding refusal_line
line-room number place h k =
    simp length-append (omega (arith, digits_few 20 number 20 (omega arith) (omega arith), digits_few 20 place 20 (omega arith) (omega arith)))

fitted : {t : Text} (bs : List ℕ) → t ≡ pushed (text_of []) bs → length bs ≤ room → (t ≡ text_of bs) × (t.length ≤ room)
fitted bs e h = (e ∙ pushed_text [] bs (omega arith), omega (arith, ap (λ (x : Text). x.length) (e ∙ pushed_text [] bs (omega arith))))

pub returns : goal.returns
unfolding refusal_line
returns c =
    let number = c.args.number in
    let place = c.args.place in
    fitted (refusal_line number place)
    (then (text_of []) refused_word _ (c.push_all-word.ensures ∙ ap (λ (t : Text). pushed t refused_word) c.empty.ensures)
    (then _ (decimal number) _ c.push_decimal-numbered.ensures
    (then _ at_word _ c.push_all-at.ensures
    (then _ (decimal place) (10 ∷ []) c.push_decimal-placed.ensures c.push.ensures))))
    (line-room number place (omega (arith, c.ranges.number)) (omega (arith, c.ranges.place)))
