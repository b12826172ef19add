-- 13 is given exactly where no valid year writes these bytes. The bytes before its place are whole fields that begin some
-- valid return, and no valid return goes on there with the field, or the end, that was found. No other place is such a one,
-- and no two valid years have the same return: what holds of any message, of the return. Assumes nothing.
use mathlib.Core.Path.{◌≡◌, refl, sym, ap, ◌∙◌}
use mathlib.Core.Bool.{cond}
use mathlib.Core.List.{List, [], ◌∷◌}
use Rattle.std.specs.Prelude.{None}
use Prim.Native.Nat.{ℕ, ◌≤◌, ◌<◌}
use native.Mathlib.Nat.{not-suc-le-zero}
use native.Mathlib.Omega.{arith}
use lib.ListN.{length, drop}
use Rattle.refusals.specs.Refusals.{first_applicable}
use Rattle.refusals.specs.declared.Refusal.TheVariants.{Malformed}
use Rattle.year.specs.declared.Year.{Year}
use Rattle.codec.specs.Theorems.{Bytes}
use Rattle.codec.specs.Format.{field, malformed, ReadAt}
use Rattle.codec.proofs.Message as Message
use Rattle.codec.proofs.Positions.{opt_missing}
use Rattle.codec.proofs.Steps.{first_stopped, then_stopped, stopped_whole}
use Rattle.return_format.specs.Form.{left_out, is_left_out, factors_value, factors, required, tail, body, form}
use Rattle.return_format.specs.Return.{year_of, most_bytes, Reading, whole, refused, reading_of, is_refused, read_rows}
use Rattle.return_round_trip.specs.Places.{IsReturnOf, IsReturn, RefusalPlace}
use Rattle.return_round_trip.proofs.Lawful.{form_lawful, form_placed, form_numbered}
use Rattle.return_round_trip.proofs.RoundTrip.{return_messages, written_read}

-- ---- 13 exactly where no valid year writes these bytes
pub return_accepted : (y : Year) (bs : List ℕ) → IsReturnOf y bs → first_applicable (read_rows bs) ≡ 0
return_accepted y bs f =
    ap (λ (r : Reading). first_applicable ((Malformed, is_refused r) ∷ [])) (ap reading_of (sym f.is) ∙ written_read y f.row f.slotted f.valid)

-- two valid years with the same return are one
pub same_bytes : (x y : Year) (bs : List ℕ) → IsReturnOf x bs → IsReturnOf y bs → x ≡ y
same_bytes = Message.same_message form_lawful return_messages

pub accepted_return : (bs : List ℕ) → Bytes bs → first_applicable (read_rows bs) ≡ 0 → IsReturn bs
accepted_return bs b h = by (reading_of bs) refl h
  where
    by : (r : Reading) → reading_of bs ≡ r → ◌≡◌ {A = ℕ} (cond (is_refused r) 13 0) 0 → IsReturn bs
    by (refused why place) e h = absurd (not-suc-le-zero {n = 0} (omega arith))
    by (whole y) e h = record { year = y; return_of_law = Message.read_written form_lawful return_messages most_bytes bs y b e }

-- no return is refused by another number
pub refused_malformed : (bs : List ℕ) (why place : ℕ) → reading_of bs ≡ refused why place → why ≡ malformed
refused_malformed bs = Message.refused_malformed form year_of most_bytes bs form_numbered

-- ---- where a refused reading stands
pub refusal_place : (bs : List ℕ) (why place : ℕ) → Bytes bs → length bs ≤ most_bytes → reading_of bs ≡ refused why place → RefusalPlace bs place
refusal_place = Message.refusal_place form_lawful return_messages form_placed most_bytes

-- rule 10.4: a longer return
pub longer_refused : (bs : List ℕ) → most_bytes < length bs → reading_of bs ≡ refused malformed most_bytes
longer_refused bs h = Message.longer form year_of most_bytes bs h

-- rule 10.5: year 25 without its factors
pub no_factors_refused : (bs : List ℕ) → length bs ≤ most_bytes → {rest : ℕ × (ℕ × ℕ)} → ReadAt required bs 0 (25, rest) 23 → field 5 (factors_value 25) (drop 23 bs) ≡ None → reading_of bs ≡ refused malformed 23
unfolding form
no_factors_refused bs few head e =
    stopped_whole form year_of most_bytes bs few
    (then_stopped required (λ h. body h.0) head
    (first_stopped (factors 25) (λ f. tail 25) (opt_missing 5 (factors_value 25) (left_out 25) (is_left_out 25) bs 23 refl head.inside e)))

-- no other place is the first wrong field
pub one_place : (bs : List ℕ) (p q : ℕ) → RefusalPlace bs p → RefusalPlace bs q → p ≡ q
one_place = Message.one_place IsReturnOf

-- the place beside a refused reading is the only such one
pub place_alone : (bs : List ℕ) → Bytes bs → length bs ≤ most_bytes → (why place : ℕ) → reading_of bs ≡ refused why place → (q : ℕ) → RefusalPlace bs q → q ≡ place
place_alone = Message.place_alone form_lawful return_messages form_placed most_bytes
