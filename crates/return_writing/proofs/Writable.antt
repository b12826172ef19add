-- Whether a year may be written, and what writing it gives. Assumes nothing.
use mathlib.Core.Path.{◌≡◌, refl, ◌∙◌}
use mathlib.Core.Bool.{Bool, true, false, not, cond}
use mathlib.Core.List.{List, [], ◌∷◌, ◌++◌}
use Prim.Native.Nat.{ℕ, ◌≤◌, ◌<◌}
use native.Mathlib.Nat.{not-suc-le-zero, zero-add}
use native.Mathlib.Omega.{arith}
use borrow.Author.Tests.{lt-ltb, le-ltb}
use lib.Dec.{ltb}
use Rattle.std.specs.Prelude.{Result, Ok, Err, ⊤}
use lib.ListN.{length, drop}
use Rattle.lists.proofs.Tests.{and_left, and_right, and_made, not_no}
use Rattle.refusals.specs.declared.Refusal.{Refusal}
use Rattle.refusals.specs.declared.Refusal.TheVariants.{BrokenLog, BadYear, NoRoom}
use Rattle.refusals.specs.Refusals.{Rows, accepted, answer_number, first_applicable, refusal_number}
use Rattle.refusals.proofs.Laws.{all_clear, done_clear, never_zero}
use Rattle.outage.specs.Log.{valid_log}
use Rattle.outage.specs.Calls.{check_log_rows}
use Rattle.year.specs.declared.Year.{Year}
use Rattle.codec.specs.Buffers.{Wrote}
use Rattle.codec.proofs.Buffers.{front}
use Rattle.return_format.specs.Return.{writable, return_of, valid_year}
use Rattle.return_writing.specs.Written.{writable_rows, WriteGives}

-- ---- rows 1 and 9
module _ (y : Year) where
  pub log_valid : (a : Result ⊤ Refusal) → answer_number a ≡ first_applicable (check_log_rows y.log) → a ≡ Ok tt → valid_log y.log ≡ true
  log_valid a n e = not_no (valid_log y.log) (all_clear (check_log_rows y.log) (done_clear a (check_log_rows y.log) n tt e)).0

  pub writable_valid : (a : Result ⊤ Refusal) → answer_number a ≡ first_applicable (writable_rows y) → a ≡ Ok tt → valid_year y ≡ true
  writable_valid a n e =
      let clear = all_clear (writable_rows y) (done_clear a (writable_rows y) n tt e) in
      and_made (not_no (valid_log y.log) clear.0) (not_no (writable y) clear.1.0)

-- ---- the three answers
-- by whether the log is valid, the year fileable, and the room too small
refused_both : (log year small : Bool) (bs o : List ℕ) {n : ℕ} (why : Refusal) → n ≡ refusal_number why → n ≡ first_applicable ((BrokenLog, not log) ∷ (BadYear, not year) ∷ [])
    → (let rows : Rows = (BrokenLog, not log) ∷ (BadYear, not year) ∷ (NoRoom, small) ∷ [] in (n ≡ first_applicable rows) × (0 ≡ cond (accepted rows) (length bs) 0) × (o ≡ cond (accepted rows) (bs ++ drop (length bs) o) o))
refused_both true true small bs o why f e = absurd (not-suc-le-zero {n = 0} (omega (arith, never_zero why)))
refused_both true false small bs o why f e = (e, refl, refl)
refused_both false year small bs o why f e = (e, refl, refl)

module _ (y : Year) (o : List ℕ) where
  pub gives_refused : (why : Refusal) → refusal_number why ≡ first_applicable (writable_rows y) → WriteGives y o (Err why) o
  gives_refused why e = refused_both (valid_log y.log) (writable y) (ltb (length o) (length (return_of y))) (return_of y) o why refl e

  module _ (valid : valid_year y ≡ true) where
    log_good : valid_log y.log ≡ true
    log_good = and_left (valid_log y.log) (writable y) valid

    rest_good : writable y ≡ true
    rest_good = and_right (valid_log y.log) (writable y) valid

    pub gives_no_room : length o < length (return_of y) → WriteGives y o (Err NoRoom) o
    gives_no_room h = simp (log_good, rest_good, lt-ltb (length o) (length (return_of y)) h) (refl, refl, refl)

    pub gives_length : {o' : List ℕ} {n : ℕ} → length (return_of y) ≤ length o → Wrote o 0 (return_of y) o' n → WriteGives y o (Ok n) o'
    gives_length h w = simp (log_good, rest_good, le-ltb (length o) (length (return_of y)) h) (refl, w.to ∙ zero-add (length (return_of y)), front w h)
