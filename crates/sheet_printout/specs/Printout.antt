-- What is printed of a minute and of an outage, or why it is not: rule 16.3.
use Rattle.std.specs.Prelude.{cond, ◌||◌, [], ◌∷◌, ◌≡◌, ℕ, ◌≤◌, ltb, Result}
use Rattle.refusals.specs.Refusals.{Rows, accepted, answer_number, first_applicable, given_or}
use Rattle.refusals.specs.declared.Refusal.{Refusal}
use Rattle.refusals.specs.declared.Refusal.TheVariants.{BadStretch}
use Rattle.entries.specs.declared.Entry.{Entry}
use Rattle.entries.specs.Row.{last_regime_end}
use Rattle.text.specs.declared.Text.{Text}
use Rattle.text.specs.Text.{room, text_of}
use Rattle.sheet_printout.specs.Dates.{moment_of, outage_line}

-- ---- a minute
abbrev pub print_minute_rows : ℕ → Rows
print_minute_rows minute = (BadStretch, ltb last_regime_end minute) ∷ []

-- what `print_minute` promises of its result
abbrev pub PrintMinuteGives : ℕ → Result Text Refusal → Type 0
PrintMinuteGives minute r =
    (answer_number r ≡ first_applicable (print_minute_rows minute))
    × (given_or (text_of []) r ≡ cond (accepted (print_minute_rows minute)) (text_of (moment_of minute)) (text_of []))
    × ((given_or (text_of []) r).length ≤ room)

-- ---- an outage
abbrev pub print_outage_rows : Entry → Rows
print_outage_rows e = (BadStretch, ltb last_regime_end e.start || ltb last_regime_end e.end) ∷ []

-- what `print_outage` promises of its result
abbrev pub PrintOutageGives : Entry → Result Text Refusal → Type 0
PrintOutageGives e r =
    (answer_number r ≡ first_applicable (print_outage_rows e))
    × (given_or (text_of []) r ≡ cond (accepted (print_outage_rows e)) (text_of (outage_line e)) (text_of []))
    × ((given_or (text_of []) r).length ≤ room)
