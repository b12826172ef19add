-- What writing a sheet answers where a sheet shows the log and there is room: its length. Assumes nothing.
use mathlib.Core.Path.{◌≡◌, refl, ◌∙◌}
use mathlib.Core.Bool.{true}
use mathlib.Core.List.{List}
use Prim.Native.Nat.{ℕ, ◌≤◌}
use native.Mathlib.Nat.{zero-add}
use borrow.Author.Tests.{le-ltb}
use lib.ListN.{length}
use Rattle.lists.proofs.Tests.{not_no}
use Rattle.std.specs.Prelude.{Result, Ok, ⊤}
use Rattle.refusals.specs.declared.Refusal.{Refusal}
use Rattle.refusals.specs.Refusals.{answer_number, first_applicable}
use Rattle.refusals.proofs.Laws.{all_clear, done_clear}
use Rattle.outage.specs.declared.Log.{Log}
use Rattle.outage.specs.Log.{log_entries, valid_log}
use Rattle.outage.specs.Calls.{check_log_rows}
use Rattle.codec.specs.Buffers.{Wrote}
use Rattle.codec.proofs.Buffers.{front}
use Rattle.sheet_format.specs.Shown.{on_sheet}
use Rattle.sheet_format.specs.Sheet.{sheet_of}
use Rattle.sheet_writing.specs.Written.{WriteSheetGives}

module _ (log : Log) where
  pub checked_valid : (a : Result ⊤ Refusal) → answer_number a ≡ first_applicable (check_log_rows log) → a ≡ Ok tt → valid_log log ≡ true
  checked_valid a n e = not_no (valid_log log) (all_clear (check_log_rows log) (done_clear a (check_log_rows log) n tt e)).0

  pub gives_length : (o : List ℕ) → valid_log log ≡ true → {o' : List ℕ} {n : ℕ} → on_sheet (log_entries log) ≡ true → length (sheet_of log) ≤ length o → Wrote o 0 (sheet_of log) o' n
      → WriteSheetGives log o (Ok n) o'
  gives_length o valid s h w = simp (valid, s, le-ltb (length o) (length (sheet_of log)) h) (refl, w.to ∙ zero-add (length (sheet_of log)), front w h)
