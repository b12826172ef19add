-- What reading and writing a return give: rules 10.3 to 10.7, 12.3 and 12.4.
use Rattle.std.specs.Prelude.{Bool, cond, not, ◌&&◌, List, [], ◌∷◌, ℕ, ltb, eqb, length, take}
use Rattle.std.specs.Prelude.{Option, Some, None}
use Rattle.lists.specs.Lists.{all, padded}
use Rattle.refusals.specs.Refusals.{Rows, accepted}
use Rattle.refusals.specs.declared.Refusal.TheVariants.{BrokenLog, BadYear, Malformed, NoRoom}
use Rattle.refusals.specs.declared.RefusedAt.{RefusedAt}
use Rattle.outage.specs.declared.Log.{Log}
use Rattle.outage.specs.Log.{last_regime_end, valid_log, log_entries, log_holding}
use Rattle.year.specs.declared.Year.{Year}
use Rattle.year.specs.Year.{fresh_year, good_year, line_slots, zero_line}
use Rattle.codec.specs.Message as Message
use Rattle.codec.specs.Message.{length_in, buffer_in}
use Rattle.return_format.specs.declared.Factors.{Factors}
use Rattle.return_format.specs.Form.{Parts, form, starts_in}
pub use Rattle.return_format.specs.Form.{left_out, is_left_out}
pub use Rattle.codec.specs.Message.{whole, refused, is_refused, place_in}

-- ---- a year and the parts of its return
abbrev pub year_of : Parts → Year
year_of p = record {
  number = p.0.0;
  pppi = p.0.1.0;
  rate = p.0.1.1.0;
  aic = p.0.1.1.1;
  pyc = p.1.0.0;
  pyf = p.1.0.1;
  -- rule 7.3: the slots past the count are zero
  lines = padded line_slots zero_line p.1.1.0;
  line_count = length p.1.1.0;
  exceptional = eqb p.1.1.1.1.0 1;
  wpa = p.1.1.1.1.1;
  log = log_holding last_regime_end p.1.1.1.0;
}

abbrev pub parts_of : Year → Parts
parts_of y = (
  (y.number, (y.pppi, (y.rate, y.aic))),
  (
    (y.pyc, y.pyf),
    (
      take y.line_count y.lines,
      (
        log_entries y.log,
        (cond y.exceptional 1 0, y.wpa),
      ),
    ),
  ),
)

-- ---- reading
-- rule 10.4: the most bytes that are read
abbrev pub most_bytes : ℕ
most_bytes = 8192

-- a year, or a refusal's number and place
abbrev pub Reading : Type 0
Reading = Message.Reading Year

-- rules 10.4 and 10.5: read field by field, or refused at a place, at the limit where it is longer
abbrev pub reading_of : List ℕ → Reading
reading_of = Message.reading form year_of most_bytes

-- rule 12.3: beside a refusal a fresh year
abbrev pub year_in : Reading → Year
year_in = Message.value_in fresh_year

abbrev pub read_rows : List ℕ → Rows
read_rows bs = (Malformed, is_refused (reading_of bs)) ∷ []

abbrev pub read_place : List ℕ → ℕ
read_place bs = place_in (reading_of bs)

abbrev pub read_year : List ℕ → Year
read_year bs = year_in (reading_of bs)

-- factors, if any, as calls give them
abbrev pub factors_as : Option (ℕ × ℕ) → Option Factors
factors_as None = None
factors_as (Some f) = Some (record { pyc = f.0; pyf = f.1 })

-- a refused reading as calls give it
abbrev pub refused_at : ℕ → RefusedAt
refused_at place = record { why = Malformed; at = place }

-- ---- writing
-- rules 10.3 and 12.1, 9: the log runs to the return's regime end, all of it is open, and each outage starts in the year
abbrev pub log_fits : Log → ℕ → Bool
log_fits log number = eqb log.regime_end last_regime_end && (eqb log.closed 0 && all (starts_in number) (log_entries log))

-- and all of the year but its log is in range
abbrev pub writable : Year → Bool
writable y = good_year y && log_fits y.log y.number

-- a valid year, that is one that may be written
abbrev pub valid_year : Year → Bool
valid_year y = valid_log y.log && writable y

-- the bytes of its return
unfoldable pub return_of : Year → List ℕ
return_of y = form.write (parts_of y)

abbrev pub write_rows : Year → ℕ → Rows
write_rows y room =
    (BrokenLog, not (valid_log y.log)) ∷ (BadYear, not (writable y)) ∷ (NoRoom, ltb room (length (return_of y))) ∷ []

abbrev pub written_length : Year → ℕ → ℕ
written_length y room = length_in (accepted (write_rows y room)) (return_of y)

-- rules 10.7 and 12.3: no byte past the return changes, and none beside a refusal
abbrev pub written_buffer : Year → List ℕ → List ℕ
written_buffer y out = buffer_in (accepted (write_rows y (length out))) (return_of y) out
