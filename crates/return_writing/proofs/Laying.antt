-- The fields of a return, from what is written of each. Assumes nothing.
use mathlib.Core.Path.{◌≡◌, ap}
use mathlib.Core.Bool.{true, cond}
use mathlib.Core.List.{List, ◌++◌}
use Prim.Native.Nat.{ℕ, ◌+◌, ◌≤◌}
use native.Mathlib.Omega.{arith}
use lib.IntN.{ℤ}
use lib.ListN.{length}
use mir.Syntax.{w64}
use mir.Val.{of_z}
use Rattle.year.specs.declared.Line.{Line}
use Rattle.year.specs.declared.Year.{Year}
use Rattle.codec.specs.Fields.{head}
use Rattle.codec.specs.Format.{field_of}
use Rattle.codec.specs.Buffers.{Wrote}
use Rattle.codec.specs.Leaves.{number_bytes, number_field_bytes}
use Rattle.codec.proofs.Buffers.{then}
use Rattle.codec.proofs.Putting.{room_after, room_for, Laid, run_then, number_then, number_last, field_then, field_last}
use Rattle.return_format.specs.Form.{factors_value, wpa_value, line_value, mark, required}
use Rattle.return_format.specs.Return.{return_of}
use Rattle.return_writing.proofs.Sizes.{parts_of, headed, factored, lined, logged, marked, paid}

module _ {o : List ℕ} {at : ℕ} {o1 : List ℕ} {n1 : ℕ} where
  pub mark_laid : {t : _} → t ≡ true → at + length (mark.write (cond t 1 0)) ≤ length o → Laid o at (number_field_bytes 8 1 1) o1 n1 → Wrote o at (mark.write (cond t 1 0)) o1 n1
  unfolding field_of
  mark_laid e r a = rw e (field_last 8 1 1 (omega arith) (rw e at r) a)

  pub wpa_laid : {u : ℕ} (z : ℤ) → u ≡ of_z w64 z → at + length (field_of 9 wpa_value z) ≤ length o → Laid o at (number_field_bytes 9 8 u) o1 n1 → Wrote o at (field_of 9 wpa_value z) o1 n1
  unfolding field_of
  wpa_laid z e r a = field_last 9 8 (of_z w64 z) (omega arith) r (rw e at a)

module _ {o : List ℕ} {at : ℕ} {o1 : List ℕ} {n1 : ℕ} {o2 : List ℕ} {n2 : ℕ} {o3 : List ℕ} {n3 : ℕ} where
  pub factors_laid : (number : ℕ) (f : ℕ × ℕ) → at + length (field_of 5 (factors_value number) f) ≤ length o
      → Laid o at (head 5 4) o1 n1 → Laid o1 n1 (number_bytes 2 f.0) o2 n2 → Laid o2 n2 (number_bytes 2 f.1) o3 n3 → Wrote o at (field_of 5 (factors_value number) f) o3 n3
  unfolding field_of
  factors_laid number f r a b c =
      run_then (head 5 4) r a (λ r. number_then 2 f.0 (omega arith) r b (λ r. number_last 2 f.1 (omega arith) r c))

  module _ {o4 : List ℕ} {n4 : ℕ} where
    pub line_laid : {u : ℕ} (l : Line) → u ≡ of_z w64 l.amount → at + length (field_of 6 line_value l) ≤ length o
        → Laid o at (head 6 10) o1 n1 → Laid o1 n1 (number_bytes 1 l.kind) o2 n2 → Laid o2 n2 (number_bytes 1 l.currency) o3 n3 → Laid o3 n3 (number_bytes 8 u) o4 n4 → Wrote o at (field_of 6 line_value l) o4 n4
    unfolding field_of
    line_laid l e r a b c d =
        run_then (head 6 10) r a (λ r. number_then 1 l.kind (omega arith) r b (λ r. number_then 1 l.currency (omega arith) r c (λ r. number_last 8 (of_z w64 l.amount) (omega arith) r (rw e at d))))

    pub required_laid : (number pppi rate aic : ℕ) → at + length (required.write (number, (pppi, (rate, aic)))) ≤ length o
        → Laid o at (number_field_bytes 1 1 number) o1 n1 → Laid o1 n1 (number_field_bytes 2 4 pppi) o2 n2 → Laid o2 n2 (number_field_bytes 3 4 rate) o3 n3 → Laid o3 n3 (number_field_bytes 4 2 aic) o4 n4
        → Wrote o at (required.write (number, (pppi, (rate, aic)))) o4 n4
    unfolding field_of
    required_laid number pppi rate aic r a b c d =
        field_then 1 1 number (omega arith) r a (λ r. field_then 2 4 pppi (omega arith) r b (λ r. field_then 3 4 rate (omega arith) r c (λ r. field_last 4 2 aic (omega arith) r d)))

    pub year_laid : {o5 : List ℕ} {n5 : ℕ} {o6 : List ℕ} {n6 : ℕ} (y : Year) → Wrote o at (headed y) o1 n1 → Wrote o1 n1 (factored y) o2 n2 → Wrote o2 n2 (lined y) o3 n3 → Wrote o3 n3 (logged y) o4 n4 → Wrote o4 n4 (marked y) o5 n5 → Wrote o5 n5 (paid y) o6 n6 → Wrote o at (return_of y) o6 n6
    year_laid y a b c d e f = rw (parts_of y) (then a (then b (then c (then d (then e f)))))

-- ---- the room that is left for each part of a return after those before it
module _ (y : Year) where
  abbrev from_mark : List ℕ
  from_mark = marked y ++ paid y

  abbrev from_log : List ℕ
  from_log = logged y ++ from_mark

  abbrev from_lines : List ℕ
  from_lines = lined y ++ from_log

  abbrev from_factors : List ℕ
  from_factors = factored y ++ from_lines

module _ (y : Year) (o : List ℕ) (h : length (return_of y) ≤ length o) where
  all_room : 0 + length (headed y ++ from_factors y) ≤ length o
  all_room = omega (arith, h, ap length (parts_of y))

  pub required_room : length (headed y) ≤ length o
  required_room = omega (arith, room_for o 0 (headed y) (from_factors y) all_room)

  module _ {o1 : List ℕ} {n1 : ℕ} (a : Wrote o 0 (headed y) o1 n1) where
    left_1 : n1 + length (from_factors y) ≤ length o1
    left_1 = room_after (from_factors y) all_room a

    pub factors_room : n1 + length (factored y) ≤ length o1
    factors_room = room_for o1 n1 (factored y) (from_lines y) left_1

    module _ {o2 : List ℕ} {n2 : ℕ} (b : Wrote o1 n1 (factored y) o2 n2) where
      left_2 : n2 + length (from_lines y) ≤ length o2
      left_2 = room_after (from_lines y) left_1 b

      pub lines_room : n2 + length (lined y) ≤ length o2
      lines_room = room_for o2 n2 (lined y) (from_log y) left_2

      module _ {o3 : List ℕ} {n3 : ℕ} (c : Wrote o2 n2 (lined y) o3 n3) where
        left_3 : n3 + length (from_log y) ≤ length o3
        left_3 = room_after (from_log y) left_2 c

        pub log_room : n3 + length (logged y) ≤ length o3
        log_room = room_for o3 n3 (logged y) (from_mark y) left_3

        module _ {o4 : List ℕ} {n4 : ℕ} (d : Wrote o3 n3 (logged y) o4 n4) where
          left_4 : n4 + length (from_mark y) ≤ length o4
          left_4 = room_after (from_mark y) left_3 d

          pub mark_room : n4 + length (marked y) ≤ length o4
          mark_room = room_for o4 n4 (marked y) (paid y) left_4

          pub wpa_room : {o5 : List ℕ} {n5 : ℕ} → Wrote o4 n4 (marked y) o5 n5 → n5 + length (paid y) ≤ length o5
          wpa_room e = room_after (paid y) left_4 e
