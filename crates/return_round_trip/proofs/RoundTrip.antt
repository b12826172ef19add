-- Demand 2: "A return that is read and written again gives its own bytes, and a valid year that is written reads back as
-- itself." And 13 is given exactly where no valid year writes these bytes. Assumes nothing.
use mathlib.Core.Path.{◌≡◌, refl, ap}
use mathlib.Core.Bool.{Bool, true, false, cond}
use mathlib.Core.List.{List, []}
use Prim.Native.Nat.{ℕ, ◌+◌, ◌*◌, ◌≤◌}
use native.Mathlib.Nat.{not-suc-le-zero}
use native.Mathlib.Omega.{arith}
use borrow.Author.Tests.{eqb-true}
use lib.Dec.{eqb}
use lib.ListN.{length, length-append}
use Rattle.lists.proofs.Padded.{padded_length}
use Rattle.refusals.specs.Refusals.{first_applicable}
use Rattle.outage.specs.Log.{slots, last_regime_end}
use Rattle.outage.proofs.LogHolding.{log_holding_slots}
use Rattle.year.specs.declared.Year.{Year}
use Rattle.year.specs.Year.{line_slots, zero_line}
use Rattle.codec.specs.Theorems.{Bytes}
use Rattle.codec.specs.Format.{field_of, unless, texts}
use Rattle.codec.specs.Theorems.{Messages}
use Rattle.codec.proofs.Message as Message
use Rattle.codec.proofs.Values.{num_laws}
use Rattle.codec.proofs.Lengths.{field_length, unless_length, texts_length, sizes_most}
use Rattle.money.specs.Pounds.{is_none}
use Rattle.outage_field.specs.Field.{most_entry_bytes}
use Rattle.outage_field.proofs.Laws.{caused_most}
use Rattle.return_format.specs.Form.{year_value, pppi_value, rate_value, aic_value, is_left_out, factors_value, mark_value, wpa_value, line_item, entry_item, factors, Parts, form}
use Rattle.return_round_trip.specs.Flat.{longest, shortest}
use Rattle.return_format.specs.Return.{year_of, parts_of, most_bytes, Reading, whole, refused, reading_of, is_refused, year_in, read_rows, read_year, valid_year, return_of}
use Rattle.return_round_trip.specs.Places.{IsReturnOf}
use Rattle.return_round_trip.proofs.Lawful.{line_item_law, entry_item_law, factors_laws, wpa_laws, form_lawful}
use Rattle.return_round_trip.proofs.Years.{Fine, fine, fine_made, year_fine, year_back, parts_valid, parts_back, or_second}

-- ---- no valid return has more bytes than the longest, nor fewer than the shortest of its year
pub record Long (p : Parts) : Type 0 where
  pub most : length (form.write p) ≤ longest
  pub least : shortest p.0.0 ≤ length (form.write p)

-- the factors have seven bytes or none, and seven in year 25
factors_length : (number : ℕ) (f : ℕ × ℕ) → (factors number).ok f ≡ true → (shortest number ≤ 23 + length ((factors number).write f)) × (length ((factors number).write f) ≤ 7)
factors_length number f h = (by (eqb number 25) refl, unless_length (is_left_out number f) bs 7 seven)
  where
    bs : List ℕ
    bs = field_of 5 (factors_value number) f

    seven : is_left_out number f ≡ false → length bs ≡ 7
    seven e = field_length 5 (factors_value number) (factors_laws number) f (or_second (is_left_out number f) _ h e)

    by : (b : Bool) → eqb number 25 ≡ b → cond b 30 23 ≤ 23 + length (unless (is_left_out number f) bs)
    by true e =
        let k : number ≡ 25 = eqb-true number 25 e in
        let there : is_left_out number f ≡ false = rw k in
        rw there (omega (arith, seven there))
    by false e = omega arith

long : (p : Parts) → Fine p → Long p
unfolding form
long p f =
    let c = p.1.0 in
    let ls = p.1.1.0 in
    let es = p.1.1.1.0 in
    let m = p.1.1.1.1.0 in
    let w = p.1.1.1.1.1 in
    let n1 : length (field_of 1 year_value p.0.0) ≡ 4 = field_length 1 year_value (num_laws 1 1 25 (omega arith)) p.0.0 f.year in
    let n2 : length (field_of 2 pppi_value p.0.1.0) ≡ 7 = field_length 2 pppi_value (num_laws 4 5000 50000 (omega arith)) p.0.1.0 f.pppi in
    let n3 : length (field_of 3 rate_value p.0.1.1.0) ≡ 7 = field_length 3 rate_value (num_laws 4 1 200000 (omega arith)) p.0.1.1.0 f.rate in
    let n4 : length (field_of 4 aic_value p.0.1.1.1) ≡ 5 = field_length 4 aic_value (num_laws 2 0 20000 (omega arith)) p.0.1.1.1 f.aic in
    let n5 = factors_length p.0.0 c f.factored in
    let n6 : length (texts line_item [] ls) ≤ 13 * length ls =
    omega (arith, texts_length line_item line_item_law [] ls f.lined, sizes_most line_item 13 (λ b l. omega arith) [] ls) in
    let n7 : length (texts (entry_item p.0.0) [] es) ≤ most_entry_bytes * length es =
    omega (arith, texts_length (entry_item p.0.0) (entry_item_law p.0.0) [] es f.logged, sizes_most (entry_item p.0.0) most_entry_bytes (λ b e. (caused_most e).1) [] es) in
    let n8 : length (unless (eqb m 0) (field_of 8 mark_value m)) ≤ 4 =
    unless_length (eqb m 0) (field_of 8 mark_value m) 4 (λ e. field_length 8 mark_value (num_laws 1 1 1 (omega arith)) m (or_second (eqb m 0) _ f.marked e)) in
    let n9 : length (unless (is_none w) (field_of 9 wpa_value w)) ≤ 11 =
    unless_length (is_none w) (field_of 9 wpa_value w) 11 (λ e. field_length 9 wpa_value wpa_laws w (or_second (is_none w) _ f.paid e)) in
    record { most = simp length-append (omega (arith, n5.1, f.few, f.fewer)); least = simp length-append (omega (arith, n5.0)) }

-- ---- a return is a message of its format
-- what the format may write is the return of a valid year
return_of_law : (p : Parts) → form.ok p ≡ true → IsReturnOf (year_of p) (form.write p)
unfolding return_of
return_of_law p h =
    let f = fine p h in
    record {
      row = padded_length line_slots zero_line p.1.1.0 f.few;
      slotted = log_holding_slots last_regime_end p.1.1.1.0 f.fewer;
      valid = parts_valid p f;
      is = ap form.write (parts_back p f);
    }

pub return_messages : Messages form year_of parts_of IsReturnOf
unfolding return_of
return_messages =
    record {
      said = return_of_law;
      ok = λ y bs f. fine_made (parts_of y) (year_fine y f.valid f.row f.slotted);
      is = λ y bs f. f.is;
      back = λ y bs f. year_back y f.valid f.row f.slotted;
    }

-- ---- a valid year, with its 64 line slots and its 400 entry slots
module _ (y : Year) (row : length y.lines ≡ line_slots) (slotted : length y.log.entries ≡ slots) (v : valid_year y ≡ true) where
  pub fits : (length (return_of y) ≤ longest) × (shortest y.number ≤ length (return_of y))
  unfolding return_of
  fits = let n = long (parts_of y) (year_fine y v row slotted) in (n.most, n.least)

  -- "a valid year that is written reads back as itself"
  pub written_read : reading_of (return_of y) ≡ whole y
  written_read =
      Message.written_read form_lawful return_messages most_bytes y (return_of y) (record { row = row; slotted = slotted; valid = v; is = refl }) (omega (arith, fits.0))

-- ---- a return that is read
-- "A return that is read and written again gives its own bytes": the year that is read is valid, and its bytes are those
pub read_written : (bs : List ℕ) (y : Year) → Bytes bs → reading_of bs ≡ whole y → (return_of y ≡ bs) × (valid_year y ≡ true)
read_written bs y b h =
    let f = Message.read_written form_lawful return_messages most_bytes bs y b h in
    (f.is, f.valid)

-- where no row applies the reading is of a year, and the year is valid
pub accepted_whole : (bs : List ℕ) → first_applicable (read_rows bs) ≡ 0 → reading_of bs ≡ whole (read_year bs)
accepted_whole bs h = by (reading_of bs) h
  where
    by : (r : Reading) → ◌≡◌ {A = ℕ} (cond (is_refused r) 13 0) 0 → r ≡ whole (year_in r)
    by (whole y) h = refl
    by (refused why place) h = absurd (not-suc-le-zero {n = 0} (omega arith))

pub read_valid : (bs : List ℕ) → Bytes bs → first_applicable (read_rows bs) ≡ 0 → valid_year (read_year bs) ≡ true
read_valid bs b h = (read_written bs (read_year bs) b (accepted_whole bs h)).1
