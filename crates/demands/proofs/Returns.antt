-- Of the calls on a return: one that is read and written again gives its own bytes, and a valid year that is written reads back as itself.
-- Assumes nothing.
use mathlib.Core.Path.{◌≡◌, sym, ap, ◌∙◌}
use mathlib.Core.Bool.{Bool, true, cond}
use mathlib.Core.List.{List, ◌++◌}
use Prim.Native.Nat.{ℕ, ◌≤◌}
use native.Mathlib.Omega.{arith}
use borrow.Author.Tests.{eq-eqb, le-ltb}
use lib.ListN.{length, take, drop}
use lib.Seq.{take_at}
use Rattle.lists.proofs.Tests.{and_left, and_right, and_made, not_no}
use Rattle.std.specs.Prelude.{Result, Ok}
use Rattle.refusals.specs.declared.Refusal.{Refusal}
use Rattle.refusals.specs.declared.RefusedAt.{RefusedAt}
use Rattle.refusals.specs.Refusals.{accepted, first_applicable, answer_number, given_or, why_alone}
use Rattle.refusals.proofs.Laws.{all_clear}
use Rattle.outage.specs.Log.{slots, valid_log}
use Rattle.year.specs.declared.Year.{Year}
use Rattle.year.specs.Year.{fresh_year, line_slots}
use Rattle.codec.specs.Theorems.{Bytes}
use Rattle.return_format.specs.Return.{Reading, whole, reading_of, is_refused, place_in, year_in, read_rows, read_year, writable, valid_year, return_of, write_rows}
use Rattle.return_reading.specs.Reading.{ReturnGives}
use Rattle.return_reading.proofs.Only.{only_read}
use Rattle.refusals.proofs.Cases.{same_case}
use Rattle.return_writing.specs.Written.{WriteGives}
use Rattle.return_round_trip.proofs.RoundTrip.{fits, written_read, accepted_whole, read_written}
use Rattle.return_round_trip.specs.Flat.{longest, shortest}

-- A year, with its 64 line slots and 400 entry slots, that was written.
module _ (y : Year) (row : length y.lines ≡ line_slots) (slotted : length y.log.entries ≡ slots) (out o : List ℕ) (n : ℕ) (g : WriteGives y out (Ok n) o) where
  yes : accepted (write_rows y (length out)) ≡ true
  yes = eq-eqb (first_applicable (write_rows y (length out))) 0 (sym g.0)

  valid : valid_year y ≡ true
  valid =
      let clear = all_clear (write_rows y (length out)) (sym g.0) in
      and_made (not_no (valid_log y.log) clear.0) (not_no (writable y) clear.1.0)

  long : n ≡ length (return_of y)
  long = g.1 ∙ ap (λ (b : Bool). cond b (length (return_of y)) 0) yes

  -- what was written reads back as the year
  pub written_reads_back : (t : Result Year RefusedAt) → ReturnGives (take n o) t → t ≡ Ok y
  written_reads_back t r =
      let is : o ≡ return_of y ++ drop (length (return_of y)) out = g.2 ∙ ap (λ (b : Bool). cond b (return_of y ++ drop (length (return_of y)) out) out) yes in
      let front : take n o ≡ return_of y = ap (take n) is ∙ take_at (return_of y) (drop (length (return_of y)) out) n (sym long) in
      let read : reading_of (take n o) ≡ whole y = ap reading_of front ∙ written_read y row slotted valid in
      only_read (take n o) t (Ok y) r
      (sym (ap (λ (x : Reading). cond (is_refused x) 13 0) read), sym (ap place_in read), sym (ap year_in read))

  -- and has as many bytes as a return of its year can have
  pub written_length : (shortest y.number ≤ n) × (n ≤ longest)
  written_length = let f = fits y row slotted valid in (omega (arith, long, f.1), omega (arith, long, f.0))

-- A return that was read: where there is room, writing the year gives its own bytes, and nothing else changes.
module _ (bs : List ℕ) (b : Bytes bs) where
  pub read_writes_back : (t : Result Year RefusedAt) → ReturnGives bs t → answer_number (why_alone t) ≡ 0 → (out o : List ℕ) (r : Result ℕ Refusal) → WriteGives (given_or fresh_year (why_alone t)) out r o → length bs ≤ length out
      → (r ≡ Ok (length bs)) × (o ≡ bs ++ drop (length bs) out)
  read_writes_back t g done out o r w room =
      let clear : first_applicable (read_rows bs) ≡ 0 = sym g.0 ∙ done in
      let k = read_written bs (read_year bs) b (accepted_whole bs clear) in
      let y = given_or fresh_year (why_alone t) in
      let valid : valid_year y ≡ true = ap valid_year g.2 ∙ k.1 in
      let sound : valid_log y.log ≡ true = and_left (valid_log y.log) (writable y) valid in
      let good : writable y ≡ true = and_right (valid_log y.log) (writable y) valid in
      let bytes : return_of y ≡ bs = ap return_of g.2 ∙ k.0 in
      let v : WriteGives y out r o = w in
      let z = rw (sound, good, bytes, le-ltb (length out) (length bs) room) at v in
      (same_case 0 r (Ok (length bs)) z.0 z.1, z.2)
