-- The format of the return keeps the laws of its parts. Assumes nothing.
use mathlib.Core.Path.{◌≡◌, refl, sym, ap}
use mathlib.Core.Bool.{Bool, true, false, not, ◌&&◌, ◌||◌}
use mathlib.Core.List.{List}
use Rattle.std.specs.Prelude.{Option, Some, None}
use Prim.Native.Nat.{ℕ, suc}
use native.Mathlib.Omega.{arith}
use borrow.Author.Tests.{eq-eqb, eqb-true, le-leb, leb-true}
use lib.Dec.{leb, eqb}
use lib.IntN.{ℤ, pos, negsuc, nat_abs}
use Rattle.lists.proofs.Tests.{and_left, and_right, and_made, not_yes}
use Rattle.entries.specs.declared.Entry.{Entry}
use Rattle.outage.specs.Log.{slots}
use Rattle.year.specs.declared.Line.{Line}
use Rattle.year.specs.Year.{good_line, line_slots}
use Rattle.codec.specs.Format.{num, int, pair, tagged, malformed}
use Rattle.codec.proofs.Values.{ValueLaws, num_laws, int_laws, pair_laws, mapped_laws, restricted_laws}
use Rattle.codec.proofs.Items.{ItemLaws, tagged_laws}
use Rattle.codec.proofs.Formats.{Lawful, one_lawful, opt_lawful, both_lawful}
use Rattle.codec.proofs.Places.{Placed, Numbered, one_placed, opt_placed, both_placed, one_numbered, opt_numbered, both_numbered}
use Rattle.codec.proofs.Every.{many_lawful, many_placed, many_numbered}
use Rattle.money.specs.Pounds.{is_none}
use Rattle.outage_field.proofs.Laws.{caused_laws}
use Rattle.return_format.specs.Form.{year_value, pppi_value, rate_value, aic_value, left_out, are_these, is_left_out, factors_value, to_line, from_line, line_layout, line_value, may_follow, mark_value, wpa_value, line_item, entry_item, factors, mark, wpa, required, body, form}

-- ---- values
line_laws : ValueLaws line_value
line_laws =
    restricted_laws good_line line_layout
    (mapped_laws to_line from_line (pair (num 1 0 255) (pair (num 1 0 255) (int 1000000000))) (λ l. refl) (λ p. refl)
    (pair_laws (num 1 0 255) (pair (num 1 0 255) (int 1000000000)) (num_laws 1 0 255 (omega arith))
    (pair_laws (num 1 0 255) (int 1000000000) (num_laws 1 0 255 (omega arith)) (int_laws 1000000000 (omega arith)))))

pub factors_laws : (number : ℕ) → ValueLaws (factors_value number)
factors_laws number =
    restricted_laws (λ f. not (is_left_out number f)) (pair (num 2 0 10000) (num 2 0 10000))
    (pair_laws (num 2 0 10000) (num 2 0 10000) (num_laws 2 0 10000 (omega arith)) (num_laws 2 0 10000 (omega arith)))

pub wpa_laws : ValueLaws wpa_value
wpa_laws = restricted_laws (λ z. not (is_none z)) (int 1000000000) (int_laws 1000000000 (omega arith))

-- ---- fields
year_item : ItemLaws (tagged 1 year_value)
year_item = tagged_laws 1 year_value (omega arith) (num_laws 1 1 25 (omega arith))

pppi_item : ItemLaws (tagged 2 pppi_value)
pppi_item = tagged_laws 2 pppi_value (omega arith) (num_laws 4 5000 50000 (omega arith))

rate_item : ItemLaws (tagged 3 rate_value)
rate_item = tagged_laws 3 rate_value (omega arith) (num_laws 4 1 200000 (omega arith))

aic_item : ItemLaws (tagged 4 aic_value)
aic_item = tagged_laws 4 aic_value (omega arith) (num_laws 2 0 20000 (omega arith))

factors_item : (number : ℕ) → ItemLaws (tagged 5 (factors_value number))
factors_item number = tagged_laws 5 (factors_value number) (omega arith) (factors_laws number)

pub line_item_law : (before : List Line) → ItemLaws (line_item before)
line_item_law before = tagged_laws 6 line_value (omega arith) line_laws

pub entry_item_law : (number : ℕ) (before : List Entry) → ItemLaws (entry_item number before)
entry_item_law number before = caused_laws (may_follow number before) 7

mark_item : ItemLaws (tagged 8 mark_value)
mark_item = tagged_laws 8 mark_value (omega arith) (num_laws 1 1 1 (omega arith))

wpa_item : ItemLaws (tagged 9 wpa_value)
wpa_item = tagged_laws 9 wpa_value (omega arith) wpa_laws

-- ---- what is left out
these_are : (o : Option (ℕ × ℕ)) (f : ℕ × ℕ) → are_these o f ≡ true → o ≡ Some f
these_are None f h = cc
these_are (Some these) f h =
    let e : these.0 ≡ f.0 = sym (eqb-true f.0 these.0 (and_left (eqb f.0 these.0) (eqb f.1 these.1) h)) in
    let g : these.1 ≡ f.1 = sym (eqb-true f.1 these.1 (and_right (eqb f.0 these.0) (eqb f.1 these.1) h)) in
    λ i. Some (e i, g i)

are_these_law : (o : Option (ℕ × ℕ)) (f : ℕ × ℕ) → o ≡ Some f → are_these o f ≡ true
are_these_law o f h = rw h (and_made (eq-eqb f.0 f.0 refl) (eq-eqb f.1 f.1 refl))

pub none_is : (z : ℤ) → is_none z ≡ true → z ≡ pos 0
none_is (pos k) h = ap pos (eqb-true k 0 h)
none_is (negsuc k) h = absurd (omega (arith, eqb-true (suc k) 0 h))

pub either_way : (a b : Bool) → (a ≡ false → b ≡ true) → (a || b) ≡ true
either_way true b f = refl
either_way false b f = f refl

mark_fine : (n : ℕ) → (leb 1 n && leb n 1) ≡ true → eqb n 0 ≡ false
mark_fine n h =
    let e : n ≡ 1 = omega (arith, leb-true 1 n (and_left (leb 1 n) (leb n 1) h), leb-true n 1 (and_right (leb 1 n) (leb n 1) h)) in
    rw e refl

-- ---- the format
factors_lawful : (number : ℕ) → Lawful (factors number) 5 6
factors_lawful number =
    opt_lawful (tagged 5 (factors_value number)) (factors_item number) (left_out number) (is_left_out number) (are_these_law (left_out number)) (these_are (left_out number))
    (λ f h. not_yes (is_left_out number f) (and_right ((pair (num 2 0 10000) (num 2 0 10000)).fine f) (not (is_left_out number f)) h))

-- every pair in range may be written, or is left out
pub factors_ok : (number pyc pyf : ℕ) → leb pyc 10000 ≡ true → leb pyf 10000 ≡ true → (factors number).ok (pyc, pyf) ≡ true
factors_ok number pyc pyf c f =
    either_way (is_left_out number (pyc, pyf)) ((factors_value number).fine (pyc, pyf))
    (λ e. and_made (and_made (and_made (le-leb 0 pyc (omega arith)) c) (and_made (le-leb 0 pyf (omega arith)) f)) (ap not e))

mark_lawful : Lawful mark 8 9
mark_lawful =
    opt_lawful (tagged 8 mark_value) mark_item (Some 0) (λ n. eqb n 0) (λ n h. let e : 0 ≡ n = cc in eq-eqb n 0 (sym e)) (λ n h. ap Some (sym (eqb-true n 0 h))) mark_fine

wpa_lawful : Lawful wpa 9 10
wpa_lawful =
    opt_lawful (tagged 9 wpa_value) wpa_item (Some (pos 0)) is_none (λ z h. let e : pos 0 ≡ z = cc in rw (← e)) (λ z h. ap Some (sym (none_is z h)))
    (λ z h. not_yes (is_none z) (and_right (leb (nat_abs z) 1000000000) (not (is_none z)) h))

required_lawful : Lawful required 1 5
required_lawful =
    both_lawful _ _ 1 2 5 (one_lawful (tagged 1 year_value) year_item) (λ number.
    both_lawful _ _ 2 3 5 (one_lawful (tagged 2 pppi_value) pppi_item) (λ pppi.
    both_lawful _ _ 3 4 5 (one_lawful (tagged 3 rate_value) rate_item) (λ rate.
    one_lawful (tagged 4 aic_value) aic_item)))

body_lawful : (number : ℕ) → Lawful (body number) 5 10
body_lawful number =
    both_lawful _ _ 5 6 10 (factors_lawful number) (λ f.
    both_lawful _ _ 6 7 10 (many_lawful line_item line_item_law line_slots 6 6 (λ before. refl) (λ before. refl)) (λ l.
    both_lawful _ _ 7 8 10 (many_lawful (entry_item number) (entry_item_law number) slots 7 7 (λ before. refl) (λ before. refl)) (λ o.
    both_lawful _ _ 8 9 10 mark_lawful (λ m.
    wpa_lawful))))

pub form_lawful : Lawful form 1 10
unfolding form
form_lawful = both_lawful required (λ h. body h.0) 1 5 10 required_lawful (λ h. body_lawful h.0)

required_placed : Placed required
required_placed =
    both_placed _ _ 1 2 (one_lawful (tagged 1 year_value) year_item) (one_placed (tagged 1 year_value) year_item 1 refl) (λ number.
    both_placed _ _ 2 3 (one_lawful (tagged 2 pppi_value) pppi_item) (one_placed (tagged 2 pppi_value) pppi_item 10000 refl) (λ pppi.
    both_placed _ _ 3 4 (one_lawful (tagged 3 rate_value) rate_item) (one_placed (tagged 3 rate_value) rate_item 100000 refl) (λ rate.
    one_placed (tagged 4 aic_value) aic_item 10000 refl)))

body_placed : (number : ℕ) → Placed (body number)
body_placed number =
    both_placed _ _ 5 6 (factors_lawful number) (opt_placed (tagged 5 (factors_value number)) (factors_item number) (left_out number) (is_left_out number) (0, 0) (factors_ok number 0 0 refl refl)) (λ f.
    both_placed _ _ 6 7 (many_lawful line_item line_item_law line_slots 6 6 (λ before. refl) (λ before. refl)) (many_placed line_item line_item_law line_slots) (λ l.
    both_placed _ _ 7 8 (many_lawful (entry_item number) (entry_item_law number) slots 7 7 (λ before. refl) (λ before. refl)) (many_placed (entry_item number) (entry_item_law number) slots) (λ o.
    both_placed _ _ 8 9 mark_lawful (opt_placed (tagged 8 mark_value) mark_item (Some 0) (λ n. eqb n 0) 0 refl) (λ m.
    opt_placed (tagged 9 wpa_value) wpa_item (Some (pos 0)) is_none (pos 0) refl))))

pub form_placed : Placed form
unfolding form
form_placed = both_placed required (λ h. body h.0) 1 5 required_lawful required_placed (λ h. body_placed h.0)

-- it gives 13 alone
required_numbered : Numbered required malformed
required_numbered =
    both_numbered _ _ (one_numbered (tagged 1 year_value) year_item) (λ number.
    both_numbered _ _ (one_numbered (tagged 2 pppi_value) pppi_item) (λ pppi.
    both_numbered _ _ (one_numbered (tagged 3 rate_value) rate_item) (λ rate.
    one_numbered (tagged 4 aic_value) aic_item)))

body_numbered : (number : ℕ) → Numbered (body number) malformed
body_numbered number =
    both_numbered _ _ (opt_numbered (tagged 5 (factors_value number)) (factors_item number) (left_out number) (is_left_out number)) (λ f.
    both_numbered _ _ (many_numbered line_item line_item_law line_slots) (λ l.
    both_numbered _ _ (many_numbered (entry_item number) (entry_item_law number) slots) (λ o.
    both_numbered _ _ (opt_numbered (tagged 8 mark_value) mark_item (Some 0) (λ n. eqb n 0)) (λ m.
    opt_numbered (tagged 9 wpa_value) wpa_item (Some (pos 0)) is_none))))

pub form_numbered : Numbered form malformed
unfolding form
form_numbered = both_numbered required (λ h. body h.0) required_numbered (λ h. body_numbered h.0)
