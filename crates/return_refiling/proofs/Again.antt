-- What is read is written again as it was. Assumes nothing.
use mathlib.Core.Path.{◌≡◌, ap, ◌∙◌}
use mathlib.Core.Bool.{true, false}
use mathlib.Core.List.{List}
use Prim.Native.Nat.{ℕ}
use Rattle.lists.proofs.Tests.{and_left, and_right}
use Rattle.std.specs.Prelude.{Result}
use Rattle.refusals.specs.declared.Refusal.{Refusal}
use Rattle.refusals.specs.Refusals.{first_applicable}
use Rattle.outage.specs.Log.{valid_log}
use Rattle.year.specs.declared.Year.{Year}
use Rattle.codec.specs.Theorems.{Bytes}
use Rattle.return_format.specs.Return.{is_refused, reading_of, read_rows, read_year, writable, valid_year, return_of}
use Rattle.return_writing.specs.Written.{WriteGives}
use Rattle.return_round_trip.proofs.RoundTrip.{accepted_whole, read_written}
use Rattle.return_refiling.specs.Refiled.{RefileGives}

module _ (bs out : List ℕ) where
  -- a year that was read is written as the bytes that it was read from
  pub written_again : Bytes bs → first_applicable (read_rows bs) ≡ 0 → (y : Year) → y ≡ read_year bs → (r : Result ℕ Refusal) {after : List ℕ} → WriteGives y out r after → RefileGives bs out r after
  written_again b e y is r g =
      let whole = accepted_whole bs e in
      let k = read_written bs (read_year bs) b whole in
      let read : is_refused (reading_of bs) ≡ false = ap is_refused whole in
      let valid : valid_year y ≡ true = ap valid_year is ∙ k.1 in
      let sound : valid_log y.log ≡ true = and_left (valid_log y.log) (writable y) valid in
      let good : writable y ≡ true = and_right (valid_log y.log) (writable y) valid in
      let bytes : return_of y ≡ bs = ap return_of is ∙ k.0 in
      rw read (rw (sound, good, bytes) at g)
