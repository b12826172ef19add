-- The figures of a year that was read, and that what is printed of it has room. Assumes nothing.
use mathlib.Core.Path.{◌≡◌, refl, sym, ap, ◌∙◌}
use mathlib.Core.Bool.{Bool, true, false, cond, not}
use mathlib.Core.List.{List, []}
use Prim.Native.Nat.{ℕ, zero, suc, ◌+◌, ◌^◌, ◌≤◌, ◌<◌}
use native.Mathlib.Nat.{not-suc-le-zero}
use native.Mathlib.Omega.{arith}
use borrow.Author.Tests.{leb-true, eqb-true, eq-eqb, ne_eqb}
use lib.Dec.{leb, eqb}
use lib.IntN.{ℤ, nat_abs}
use lib.ListN.{length, length-append}
use Rattle.lists.proofs.Tests.{not_no}
use Rattle.refusals.specs.Refusals.{accepted, first_applicable, refusal_number}
use Rattle.refusals.specs.declared.Refusal.{Refusal}
use Rattle.refusals.proofs.Laws.{all_clear, never_zero}
use Rattle.calendar.specs.Years.{is_leap, days_in, days_to, year_start, year_end, last_year, minutes_given}
use Rattle.calendar.proofs.Laws.{year_two, last_start, year_within}
use Rattle.outage.specs.Log.{last_regime_end}
use Rattle.outage.specs.Calls.{lost_of}
use Rattle.outage.proofs.Most.{lost_given, valid_stretch}
use Rattle.year.specs.declared.Year.{Year}
use Rattle.year.specs.Year.{good_year}
use Rattle.year.proofs.Says.{YearSays, year_says}
use Rattle.revenue.specs.Revenue.{assessed_revenue, revenue_rows}
use Rattle.text.specs.declared.Text.{Text}
use Rattle.text.specs.Text.{pushed, room, text_of}
use Rattle.text.proofs.Laws.{digits_few, signed_few, pushed_text}
use Rattle.codec.specs.Theorems.{Bytes}
use Rattle.return_format.specs.Return.{Reading, whole, refused, reading_of, is_refused, read_rows, read_year, valid_year}
use Rattle.return_round_trip.proofs.Years.{log_valid, year_record, to_end}
use Rattle.return_round_trip.proofs.RoundTrip.{read_valid}
use Rattle.return_printout.specs.Printout.{lost_in_year, lost_after, year_lines, refusal_of, printed_year, printed}

-- ---- no year is longer than year 25 to the last regime end
days_most : (year : ℕ) → days_in year ≤ 366
days_most year = by (is_leap year)
  where
    by : (t : Bool) → cond t 366 365 ≤ 366
    by true = omega arith
    by false = omega arith

year_long : (year : ℕ) → 1 ≤ year → year_start (suc year) ≤ year_start year + 527040
unfolding days_to year_start
year_long zero h = absurd (omega arith)
year_long (suc zero) h = omega (arith, year_two)
year_long (suc (suc n)) h = omega (arith, days_most (2019 + suc n))

-- ---- a valid year
module _ (y : Year) (v : valid_year y ≡ true) where
  said : YearSays y
  said = year_says y (year_record y v)

  abbrev first : ℕ
  first = year_start y.number

  abbrev end : ℕ
  end = year_end y.number last_regime_end

  inside : (first ≤ end) × (end ≤ last_regime_end)
  inside = year_within last_regime_end y.number (omega arith) said.from_first said.to_last

  -- what the calendar gives for it
  pub minutes_is : minutes_given y.number last_regime_end ≡ record { first = first; end = end }
  minutes_is = rw said.number refl

  -- what the log gives for it
  pub lost_is : lost_of y.log first end ≡ lost_in_year y
  lost_is = sym (lost_given y.log first end (log_valid y v) inside.0 (rw (to_end y v) inside.1)).1

  pub after_is : lost_of y.log end last_regime_end ≡ lost_after y
  after_is = sym (lost_given y.log end last_regime_end (log_valid y v) inside.1 (rw (to_end y v) (omega arith))).1

  -- ---- its four lines have room
  long : (t : Bool) → eqb y.number last_year ≡ t → cond t last_regime_end (year_start (suc y.number)) ≤ first + 1052640
  long true e = omega (arith, ap year_start (eqb-true y.number last_year e), last_start)
  long false e = omega (arith, year_long y.number said.from_first)

  lost_small : lost_in_year y < 10 ^ 10
  lost_small = omega (arith, valid_stretch y.log (log_valid y v) first end, long (eqb y.number last_year) refl)

  after_small : lost_after y < 10 ^ 11
  after_small = omega (arith, valid_stretch y.log (log_valid y v) end last_regime_end)

  year_lines_room : (z : ℤ) → nat_abs z < 10 ^ 10 → length (year_lines y.number (lost_in_year y) (lost_after y) z) ≤ 64
  unfolding year_lines
  year_lines_room z h =
      simp length-append (omega (arith, digits_few 20 y.number 2 (omega arith) (omega (arith, said.to_last)), digits_few 20 (lost_in_year y) 10 (omega arith) lost_small, digits_few 20 (lost_after y) 11 (omega arith) after_small, signed_few z 10 (omega arith) h))

-- ---- it has room
pub refusal_room : (n : ℕ) → n < 100 → length (refusal_of n) ≤ 64
unfolding refusal_of
refusal_room n h = simp length-append (omega (arith, digits_few 20 n 2 (omega arith) h))

first_small : (a b : Bool) → cond a 9 (cond b 11 0) < 100
first_small true b = omega arith
first_small false true = omega arith
first_small false false = omega arith

pub year_room : (y : Year) → valid_year y ≡ true → length (printed_year y) ≤ 64
year_room y v = by (accepted (revenue_rows y)) refl
  where
    by : (t : Bool) → accepted (revenue_rows y) ≡ t → length (cond t (year_lines y.number (lost_in_year y) (lost_after y) (assessed_revenue y)) (refusal_of (first_applicable (revenue_rows y)))) ≤ 64
    by true e =
        let s : nat_abs (assessed_revenue y) ≤ 1000000000 = leb-true _ _ (not_no _ (all_clear (revenue_rows y) (eqb-true (first_applicable (revenue_rows y)) 0 e)).1.0) in
        year_lines_room y v (assessed_revenue y) (omega arith)
    by false e = refusal_room (first_applicable (revenue_rows y)) (first_small (not (good_year y)) (not (leb (nat_abs (assessed_revenue y)) 1000000000)))

-- ---- what is printed of a return
pushed_whole : (bs : List ℕ) → length bs ≤ room → pushed (text_of []) bs ≡ text_of bs
pushed_whole bs h = pushed_text [] bs (omega (arith, h))

fitted : {t : Text} (bs : List ℕ) → t ≡ text_of bs → length bs ≤ room → (t ≡ text_of bs) × (t.length ≤ room)
fitted bs e h = (e, omega (arith, ap (λ (x : Text). x.length) e))

module _ (bs : List ℕ) where
  malformed_small : (r : Reading) → cond (is_refused r) 13 0 < 100
  malformed_small (whole y) = omega arith
  malformed_small (refused why place) = omega arith

  pub refused_given : {t : Text} (why : Refusal) → refusal_number why ≡ first_applicable (read_rows bs) → t ≡ pushed (text_of []) (refusal_of (refusal_number why)) → (t ≡ text_of (printed bs)) × (t.length ≤ room)
  unfolding printed
  refused_given why e p =
      let a : accepted (read_rows bs) ≡ false = ne_eqb (first_applicable (read_rows bs)) 0 (λ z. not-suc-le-zero {n = 0} (omega (arith, never_zero why, e))) in
      let r = refusal_room (first_applicable (read_rows bs)) (malformed_small (reading_of bs)) in
      rw a (fitted (refusal_of (first_applicable (read_rows bs))) (p ∙ ap (λ (n : ℕ). pushed (text_of []) (refusal_of n)) e ∙ pushed_whole (refusal_of (first_applicable (read_rows bs))) r) r)

  pub year_given : {t : Text} → Bytes bs → first_applicable (read_rows bs) ≡ 0 → t ≡ pushed (text_of []) (printed_year (read_year bs)) → (t ≡ text_of (printed bs)) × (t.length ≤ room)
  unfolding printed
  year_given b e p =
      let a : accepted (read_rows bs) ≡ true = eq-eqb (first_applicable (read_rows bs)) 0 e in
      let r = year_room (read_year bs) (read_valid bs b e) in
      rw a (fitted (printed_year (read_year bs)) (p ∙ pushed_whole (printed_year (read_year bs)) r) r)
