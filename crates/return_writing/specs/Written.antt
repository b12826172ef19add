-- What writing a return promises: rules 10.7, 12.3 and 12.4.
use Rattle.std.specs.Prelude.{cond, not, List, [], ◌∷◌, ◌≡◌, ℕ, ◌+◌, length, Result}
use Rattle.refusals.specs.Refusals.{Rows, first_applicable, answer_number, given_or}
use Rattle.refusals.specs.declared.Refusal.{Refusal}
use Rattle.refusals.specs.declared.Refusal.TheVariants.{BrokenLog, BadYear}
use Rattle.entries.specs.declared.Entry.{Entry}
use Rattle.outage.specs.Log.{valid_log}
use Rattle.year.specs.declared.Line.{Line}
use Rattle.year.specs.declared.Year.{Year}
use Rattle.codec.specs.Format.{Item}
use Rattle.outage_field.specs.Field.{caused_item}
use Rattle.return_format.specs.Form.{factors, mark, wpa}
use Rattle.return_format.specs.Return.{writable, write_rows, written_length, written_buffer}

-- what `write_return` promises of its result, and of the buffer after it
abbrev pub WriteGives : Year → List ℕ → Result ℕ Refusal → List ℕ → Type 0
WriteGives y out r o =
    (answer_number r ≡ first_applicable (write_rows y (length out))) × (given_or 0 r ≡ written_length y (length out)) × (o ≡ written_buffer y out)

-- whether the year may be written, room or not
abbrev pub writable_rows : Year → Rows
writable_rows y = (BrokenLog, not (valid_log y.log)) ∷ (BadYear, not (writable y)) ∷ []

-- how many bytes the factors, the mark and the adjustment take
abbrev pub rest_size : Year → ℕ
rest_size y =
    length ((factors y.number).write (y.pyc, y.pyf)) + (length (mark.write (cond y.exceptional 1 0)) + length (wpa.write y.wpa))

-- an outage's field, in whatever year and after whatever others
abbrev pub any_entry : List Entry → Item Entry
any_entry before = caused_item 7

-- none of them
abbrev pub no_lines : List Line
no_lines = []

abbrev pub no_entries : List Entry
no_entries = []
