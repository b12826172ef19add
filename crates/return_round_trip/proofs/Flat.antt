-- A year's return is its fields one after the other, each of them whole. So are the bytes of an accepted return, and their
-- tags ascend. Assumes nothing.
use mathlib.Core.Path.{◌≡◌, refl, sym, ap, subst, ◌∙◌}
use mathlib.Core.Bool.{Bool, true, false, cond, not, ◌&&◌, ◌||◌}
use mathlib.Core.Logic.{◌⊎◌, inl, inr}
use mathlib.Core.List.{List, [], ◌∷◌, ◌++◌, append-nil, append_assoc, map}
use Rattle.std.specs.Prelude.{Some, None}
use Prim.Native.Nat.{ℕ, suc, ◌≤◌, ◌<◌}
use native.Mathlib.Omega.{arith}
use borrow.Author.Tests.{eq-eqb, ne_eqb, leb-true, le-leb, lt-ltb, le-ltb}
use lib.Dec.{leb, ltb, eqb}
use lib.ListN.{take}
use Rattle.lists.specs.Lists.{all, any, pairwise}
use Rattle.lists.proofs.Tests.{and_left, and_right, and_made, le_or_lt}
use Rattle.lists.proofs.Lists.{all_as}
use Rattle.refusals.specs.Refusals.{first_applicable}
use Rattle.calendar.specs.Years.{last_year}
use Rattle.entries.specs.declared.Entry.{Entry}
use Rattle.outage.specs.Log.{log_entries}
use Rattle.year.specs.declared.Line.{Line}
use Rattle.year.specs.declared.Year.{Year}
use Rattle.codec.specs.Numbers.{spelled, bytes_of}
use Rattle.codec.specs.Theorems.{Bytes}
use Rattle.codec.specs.Fields.{head}
use Rattle.codec.specs.Theorems.{is_whole, joined}
use Rattle.codec.specs.Format.{field_of, unless, texts}
use Rattle.codec.proofs.Fields.{joined_append, same_fields}
use Rattle.money.specs.Pounds.{is_none}
use Rattle.return_format.specs.Form.{year_value, pppi_value, rate_value, aic_value, are_these, is_left_out, mark_value, line_item, entry_item, body, form}
use Rattle.return_format.specs.Return.{parts_of, read_rows, read_year, return_of}
use Rattle.return_round_trip.specs.Flat.{factors_field, line_field, outage_field, mark_field, wpa_field, present, both_are, leaves_factors, fields_of, tag_of, may_precede, Ordered, has_factors, FactorsWritten}
use Rattle.return_round_trip.proofs.RoundTrip.{accepted_whole, read_written}

-- ---- the bytes are the fields one after the other
unless_present : (b : Bool) (f : List ℕ) → unless b f ≡ joined (present (not b) f)
unfolding joined
unless_present true f = refl
unless_present false f = sym (append-nil f)

mark_present : (b : Bool) → unless (eqb (cond b 1 0) 0) (field_of 8 mark_value (cond b 1 0)) ≡ joined (present b mark_field)
unfolding joined field_of head bytes_of mark_field
mark_present true = refl
mark_present false = refl

lines_flat : (before ls : List Line) → texts line_item before ls ≡ joined (map line_field ls)
unfolding texts joined field_of head bytes_of line_field
lines_flat before [] = refl
lines_flat before (l ∷ ls) = ap (λ (m : List ℕ). line_field l ++ m) (lines_flat (before ++ (l ∷ [])) ls)

outages_flat : (number : ℕ) (before es : List Entry) → texts (entry_item number) before es ≡ joined (map outage_field es)
unfolding texts joined field_of head bytes_of outage_field
outages_flat number before [] = refl
outages_flat number before (e ∷ es) = ap (λ (m : List ℕ). outage_field e ++ m) (outages_flat number (before ++ (e ∷ [])) es)

parts_flat : {p q r s t : List ℕ} (a b c d e : List (List ℕ)) → p ≡ joined a → q ≡ joined b → r ≡ joined c → s ≡ joined d → t ≡ joined e
    → p ++ (q ++ (r ++ (s ++ t))) ≡ joined (a ++ (b ++ (c ++ (d ++ e))))
parts_flat a b c d e f g h i j = simp joined_append cc

left_out_flat : (y : Year) → is_left_out y.number (y.pyc, y.pyf) ≡ leaves_factors y
left_out_flat y = by (eqb y.number 1) (eqb y.number last_year)
  where
    by : (first last : Bool) → are_these (cond first (Some (9178, 9178)) (cond last None (Some (10000, 10000)))) (y.pyc, y.pyf)
        ≡ cond first (both_are 9178 y) (cond last false (both_are 10000 y))
    by true last = refl
    by false true = refl
    by false false = refl

pub flat : (y : Year) → return_of y ≡ joined (fields_of y)
unfolding return_of form field_of head bytes_of joined factors_field wpa_field fields_of
flat y =
    let ls = take y.line_count y.lines in
    let es = log_entries y.log in
    let out = leaves_factors y in
    let zero = is_none y.wpa in
    append_assoc (field_of 1 year_value y.number) (field_of 2 pppi_value y.pppi ++ (field_of 3 rate_value y.rate ++ field_of 4 aic_value y.aic)) ((body y.number).write (parts_of y).1)
    ∙ ap (λ (m : List ℕ). field_of 1 year_value y.number ++ (field_of 2 pppi_value y.pppi ++ (field_of 3 rate_value y.rate ++ (field_of 4 aic_value y.aic ++ m))))
    (parts_flat (present (not out) (factors_field y.pyc y.pyf)) (map line_field ls) (map outage_field es) (present y.exceptional mark_field) (present (not zero) (wpa_field y.wpa))
    (ap (λ (b : Bool). unless b (factors_field y.pyc y.pyf)) (left_out_flat y) ∙ unless_present out (factors_field y.pyc y.pyf))
    (lines_flat [] ls)
    (outages_flat y.number [] es)
    (mark_present y.exceptional)
    (unless_present zero (wpa_field y.wpa)))

-- ---- rule 10.1: in which order fields stand
-- a tag of the table, from k on
abbrev from : ℕ → ℕ → Bool
from k t = leb k t && leb t 9

lowest_tag : (k t : ℕ) → from k t ≡ true → k ≤ t
lowest_tag k t h = leb-true k t (and_left (leb k t) (leb t 9) h)

precedes : (k t : ℕ) → from (suc k) t ≡ true → may_precede k t ≡ true
unfolding may_precede
precedes k t h = rw (lt-ltb k t (lowest_tag (suc k) t h))

repeats : (k t : ℕ) → (eqb k 6 || eqb k 7) ≡ true → from k t ≡ true → may_precede k t ≡ true
unfolding may_precede
repeats k t r h = by (le_or_lt t k)
  where
    by : (t ≤ k) ⊎ (k < t) → (ltb k t || (eqb k t && (eqb k 6 || eqb k 7))) ≡ true
    by (inr l) = rw (lt-ltb k t l)
    by (inl l) = rw (le-ltb k t l, eq-eqb k t (omega (arith, lowest_tag k t h)), r)

-- whole fields in order, of tags from k on
record Rising (k : ℕ) (fields : List (List ℕ)) : Type 0 where
  whole : all is_whole fields ≡ true
  ascend : pairwise may_precede (map tag_of fields) ≡ true
  known : all (from k) (map tag_of fields) ≡ true

rising_none : {k : ℕ} → Rising k []
rising_none = record { whole = refl; ascend = refl; known = refl }

-- and so of tags from one lower on
rising_on : {k : ℕ} {fields : List (List ℕ)} → Rising (suc k) fields → Rising k fields
rising_on {k} {fields} r =
    record {
      whole = r.whole;
      ascend = r.ascend;
      known = all_as (from (suc k)) (from k) (map tag_of fields) r.known (λ t h. and_made (le-leb k t (omega (arith, lowest_tag (suc k) t h))) (and_right (leb (suc k) t) (leb t 9) h));
    }

module _ (k : ℕ) (small : leb k 9 ≡ true) where
  -- one field more in front, which may stand before all the others
  rising_more : {fields : List (List ℕ)} (f : List ℕ) → tag_of f ≡ k → is_whole f ≡ true → all (may_precede k) (map tag_of fields) ≡ true → Rising k fields → Rising k (f ∷ fields)
  rising_more f e w a r =
      record {
        whole = and_made w r.whole;
        ascend = rw e (and_made a r.ascend);
        known = rw e (and_made (and_made (le-leb k k (omega arith)) small) r.known);
      }

  rising_field : {fields : List (List ℕ)} (f : List ℕ) → tag_of f ≡ k → is_whole f ≡ true → Rising (suc k) fields → Rising k (f ∷ fields)
  rising_field {fields} f e w r =
      rising_more f e w (all_as (from (suc k)) (may_precede k) (map tag_of fields) r.known (precedes k)) (rising_on r)

  -- a field that may be absent
  rising_present : {fields : List (List ℕ)} (b : Bool) (f : List ℕ) → tag_of f ≡ k → is_whole f ≡ true → Rising (suc k) fields → Rising k (present b f ++ fields)
  rising_present true f e w r = rising_field f e w r
  rising_present false f e w r = rising_on r

  rising_last : (b : Bool) (f : List ℕ) → tag_of f ≡ k → is_whole f ≡ true → Rising k (present b f)
  rising_last true f e w = rising_more f e w refl rising_none
  rising_last false f e w = rising_none

  -- fields of one tag that may repeat
  rising_many : {A : Type 0} {fields : List (List ℕ)} → (eqb k 6 || eqb k 7) ≡ true → (f : A → List ℕ) → ((a : A) → tag_of (f a) ≡ k) → ((a : A) → is_whole (f a) ≡ true)
      → (l : List A) → Rising (suc k) fields → Rising k (map f l ++ fields)
  rising_many again f e w [] r = rising_on r
  rising_many {fields = fields} again f e w (a ∷ l) r =
      let s = rising_many again f e w l r in
      rising_more (f a) (e a) (w a) (all_as (from k) (may_precede k) (map tag_of (map f l ++ fields)) s.known (λ t. repeats k t again)) s

-- with its cause or without
outage_field_law : (e : Entry) → (tag_of (outage_field e) ≡ 7) × (is_whole (outage_field e) ≡ true)
unfolding is_whole spelled bytes_of outage_field
outage_field_law e = by (eqb e.cause 1)
  where
    span : List ℕ → List ℕ
    span rest = bytes_of 4 e.start ++ (bytes_of 4 e.end ++ (bytes_of 2 e.mw ++ rest))

    either : Bool → List ℕ
    either b = cond b (7 ∷ 0 ∷ 10 ∷ span []) (7 ∷ 0 ∷ 11 ∷ span (bytes_of 1 e.cause))

    by : (b : Bool) → (tag_of (either b) ≡ 7) × (is_whole (either b) ≡ true)
    by true = (refl, refl)
    by false = (refl, refl)

-- what follows the factors
tail_of : Year → List (List ℕ)
tail_of y =
    map line_field (take y.line_count y.lines)
    ++ (map outage_field (log_entries y.log) ++ (present y.exceptional mark_field ++ present (not (is_none y.wpa)) (wpa_field y.wpa)))

rising_tail : (y : Year) → Rising 6 (tail_of y)
unfolding is_whole spelled bytes_of line_field outage_field mark_field wpa_field tail_of
rising_tail y =
    rising_many 6 refl refl line_field (λ l. refl) (λ l. refl) (take y.line_count y.lines)
    (rising_many 7 refl refl outage_field (λ e. (outage_field_law e).0) (λ e. (outage_field_law e).1) (log_entries y.log)
    (rising_present 8 refl y.exceptional mark_field refl refl
    (rising_last 9 refl (not (is_none y.wpa)) (wpa_field y.wpa) refl refl)))

rising : (y : Year) → Rising 1 (fields_of y)
unfolding is_whole spelled bytes_of factors_field fields_of tail_of
rising y =
    rising_field 1 refl (1 ∷ 0 ∷ 1 ∷ bytes_of 1 y.number) refl refl
    (rising_field 2 refl (2 ∷ 0 ∷ 4 ∷ bytes_of 4 y.pppi) refl refl
    (rising_field 3 refl (3 ∷ 0 ∷ 4 ∷ bytes_of 4 y.rate) refl refl
    (rising_field 4 refl (4 ∷ 0 ∷ 2 ∷ bytes_of 2 y.aic) refl refl
    (rising_present 5 refl (not (leaves_factors y)) (factors_field y.pyc y.pyf) refl refl (rising_tail y)))))

pub flat_whole : (y : Year) → all is_whole (fields_of y) ≡ true
flat_whole y = (rising y).whole

-- ---- the bytes of an accepted return
-- they are the fields of the year that is read
pub read_flat : (bs : List ℕ) → Bytes bs → first_applicable (read_rows bs) ≡ 0 → bs ≡ joined (fields_of (read_year bs))
read_flat bs b h = sym (read_written bs (read_year bs) b (accepted_whole bs h)).0 ∙ flat (read_year bs)

-- field 05 is there, or it is left out, as the year and its factors say
has_factors_law : (y : Year) → has_factors (fields_of y) ≡ not (leaves_factors y)
unfolding factors_field fields_of tail_of
has_factors_law y = by (leaves_factors y)
  where
    none_in : (tags : List ℕ) → all (from 6) tags ≡ true → any (λ t. eqb t 5) tags ≡ false
    none_in [] h = refl
    none_in (t ∷ tags) h =
        rw (ne_eqb t 5 (λ e. omega (arith, lowest_tag 6 t (and_left (from 6 t) (all (from 6) tags) h)))) (none_in tags (and_right (from 6 t) (all (from 6) tags) h))

    by : (b : Bool) → has_factors (present (not b) (factors_field y.pyc y.pyf) ++ tail_of y) ≡ not b
    by true = none_in (map tag_of (tail_of y)) (rising_tail y).known
    by false = refl

-- cut into whole fields, which goes in one way only (`same_fields`)
module _ (bs : List ℕ) (b : Bytes bs) (h : first_applicable (read_rows bs) ≡ 0) (fields : List (List ℕ)) (w : all is_whole fields ≡ true) (e : bs ≡ joined fields) where
  abbrev y : Year
  y = read_year bs

  fields_are : fields_of y ≡ fields
  fields_are = same_fields (fields_of y) fields (rising y).whole w (sym (read_flat bs b h) ∙ e)

  -- their tags ascend
  pub tags_ascend : Ordered fields
  unfolding fields_of
  tags_ascend =
      let r = rising y in
      let o : Ordered (fields_of y) =
      record { ascend = r.ascend; required = refl; known = all_as (from 1) (λ t. leb t 9) (map tag_of (fields_of y)) r.known (λ t k. and_right (leb 1 t) (leb t 9) k) } in
      subst Ordered fields_are o

  -- and 05 is among them as rule 10.2 says
  pub factors_said : FactorsWritten y fields
  factors_said =
      let is : has_factors fields ≡ not (leaves_factors y) = ap has_factors (sym fields_are) ∙ has_factors_law y in
      record {
        first = λ n. rw (is, eq-eqb y.number 1 n);
        between = λ lo hi. rw (is, ne_eqb y.number 1 (λ e. omega (arith, lo)), ne_eqb y.number 25 (λ e. omega (arith, hi)));
        last = λ n. rw (is, ne_eqb y.number 1 (λ e. omega (arith, n)), eq-eqb y.number 25 n);
      }
