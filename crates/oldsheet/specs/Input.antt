-- What an input means: rule 17.2.
use Rattle.std.specs.Prelude.{List, ◌≡◌, ℕ, take, Result, Ok, Err}
use Rattle.refusals.specs.declared.Refusal.TheVariants.{Malformed}
use Rattle.refusals.specs.declared.RefusedAt.{RefusedAt}
use Rattle.outage.specs.declared.Log.{Log}
use Rattle.outage.specs.Log.{last_regime_end}
use Rattle.sheet_reading.specs.Reading.{SheetGives}

-- where a read failed it is 13, at the number of bytes that were read, and no outage
abbrev pub unread : ℕ → Result Log RefusedAt
unread n = Err (record { why = Malformed; at = n })

-- by how many bytes were read, to the end or to a read that failed
abbrev pub InputGives : List ℕ → Result ℕ ℕ → Result Log RefusedAt → Type 0
InputGives s (Ok n) r = SheetGives last_regime_end (take n s) r
InputGives s (Err n) r = r ≡ unread n
