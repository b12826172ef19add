-- What each step of a reading finds at a place. No call is stated by it: laws turn it into the words of the return.
use Rattle.std.specs.Prelude.{true, false, cond, List, ◌≡◌, ℕ, ◌+◌, length, drop, Option, Some, None, Result, Ok, Err}
use Rattle.refusals.specs.declared.Refusal.TheVariants.{Malformed}
use Rattle.refusals.specs.declared.RefusedAt.{RefusedAt}
use Rattle.lists.specs.Lists.{padded}
use Rattle.entries.specs.declared.Entry.{Entry}
use Rattle.outage.specs.declared.Log.{Log}
use Rattle.outage.specs.Log.{last_regime_end, log_holding}
use Rattle.year.specs.declared.Line.{Line}
use Rattle.year.specs.Year.{line_slots, zero_line}
use Rattle.calendar.specs.Years.{good_year_number}
use Rattle.codec.specs.Fields.{framed}
use Rattle.codec.specs.Leaves.{Spells}
use Rattle.codec.specs.Format.{Item, malformed, ReadAt, StoppedAt}
use Rattle.outage_field.specs.Field.{caused_where}
use Rattle.return_format.specs.declared.Factors.{Factors}
use Rattle.return_format.specs.Form.{starts_between, factors, lines, outages, required, tail}
use Rattle.return_reading.specs.declared.fields.Read.{Read}
use Rattle.return_reading.specs.declared.fields.Three.{Three}
use Rattle.return_reading.specs.declared.rows.Lines.{Lines}
use Rattle.return_reading.specs.declared.Tail.{Tail}
use Rattle.return_reading.specs.declared.Head.{Head}

-- ---- a field of three numbers, of a, b and c bytes: what its bytes spell
pub record ThreeThere (s : List ℕ) (at tag a b c : ℕ) (r : Three) : Type 0 where
  pub framed_law : framed tag (a + b + c) (drop at s) ≡ true
  pub first : Spells s (at + 3) a r.first
  pub second : Spells s (at + 3 + a) b r.second
  pub third : Spells s (at + 3 + a + b) c r.third

-- or it is not there
abbrev pub ThreeRead : List ℕ → ℕ → ℕ → ℕ → ℕ → ℕ → Option Three → Type 0
ThreeRead s at tag a b c (Some r) = ThreeThere s at tag a b c r
ThreeRead s at tag a b c None = framed tag (a + b + c) (drop at s) ≡ false

-- ---- an outage that starts from `first` on and before `end`
abbrev pub entry_between : ℕ → ℕ → Item Entry
entry_between first end = caused_where (starts_between first end) 7

-- ---- the lines read from a place on stand in the first slots
pub record LinesRead (s : List ℕ) (from : ℕ) (r : Read Lines) : Type 0 where
  pub read : List Line
  pub stored : r.value.lines ≡ padded line_slots zero_line read
  pub counted : r.value.count ≡ length read
  pub at : ReadAt lines s from read r.next

-- the outages read from a place on stand in the first slots of a log
pub record OutagesRead (number : ℕ) (s : List ℕ) (from : ℕ) (r : Read Log) : Type 0 where
  pub read : List Entry
  pub stored : r.value ≡ log_holding last_regime_end read
  pub at : ReadAt (outages number) s from read r.next

-- ---- the four required fields, or the place of the first that is not there
pub record HeadRead (s : List ℕ) (h : Head) : Type 0 where
  pub at : ReadAt required s 0 (h.number, (h.pppi, (h.rate, h.aic))) 23
  pub year : good_year_number h.number ≡ true

abbrev pub RequiredRead : List ℕ → Result Head RefusedAt → Type 0
RequiredRead s (Ok h) = HeadRead s h
RequiredRead s (Err refused) = (refused.why ≡ Malformed) × StoppedAt required s 0 malformed refused.at

-- ---- the factors, or that they are required and not there
abbrev pub FactorsRead : ℕ → List ℕ → ℕ → Option (Read Factors) → Type 0
FactorsRead number s at (Some f) = ReadAt (factors number) s at (f.value.pyc, f.value.pyf) f.next
FactorsRead number s at None = StoppedAt (factors number) s at malformed at

-- ---- all that follows them
pub record TailRead (number : ℕ) (s : List ℕ) (from : ℕ) (r : Read Tail) : Type 0 where
  pub read : List Line
  pub logged : List Entry
  pub lined : r.value.lines.lines ≡ padded line_slots zero_line read
  pub counted : r.value.lines.count ≡ length read
  pub stored : r.value.log ≡ log_holding last_regime_end logged
  pub at : ReadAt (tail number) s from (read, (logged, (cond r.value.exceptional 1 0, r.value.wpa))) r.next
