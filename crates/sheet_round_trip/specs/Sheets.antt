-- What it is for bytes to be the day sheet of a log, the place of a refusal, and the longest sheet: rules 15.4 and 15.6.
-- No contract is stated by these definitions; theorems say by them what the contracts come to.
use Rattle.std.specs.Prelude.{true, List, ◌≡◌, ℕ, ◌*◌, length}
use Rattle.outage.specs.declared.Log.{Log}
use Rattle.outage.specs.Log.{slots, log_entries, valid_log}
use Rattle.codec.specs.Theorems as messages
use Rattle.outage_field.specs.Field.{entry_bytes}
use Rattle.sheet_format.specs.Shown.{on_sheet}
use Rattle.sheet_format.specs.Sheet.{sheet_of}

-- bytes are the sheet of a valid log to this regime end, all of it open, which has its 400 slots and entries that a sheet shows
pub record IsSheetOf (regime_end : ℕ) (log : Log) (bs : List ℕ) : Type 0 where
  pub slotted : length log.entries ≡ slots
  pub end : log.regime_end ≡ regime_end
  pub all_open : log.closed ≡ 0
  pub valid : valid_log log ≡ true
  pub shown : on_sheet (log_entries log) ≡ true
  pub is : sheet_of log ≡ bs

-- some valid log to this regime end has them for its sheet
pub record IsSheet (regime_end : ℕ) (bs : List ℕ) : Type 0 where
  pub log : Log
  pub sheet_of_law : IsSheetOf regime_end log bs

-- rule 15.4: the first piece that fails where it stands. The bytes before the place are whole pieces that begin some valid log's
-- sheet, and no such sheet goes on there with the field, or the end, that was found
abbrev pub RefusalPlace : ℕ → List ℕ → ℕ → Type 0
RefusalPlace regime_end = messages.RefusalPlace (IsSheetOf regime_end)

-- rule 15.6: a piece for each day of the regime, and one more for each entry after the first
abbrev pub most_pieces : ℕ
most_pieces = 9866

abbrev pub longest_sheet : ℕ
longest_sheet = entry_bytes * most_pieces
