-- How many bytes each part of a return has. Assumes nothing.
use mathlib.Core.Path.{◌≡◌, refl, sym, ap, ap₂, ◌∙◌}
use mathlib.Core.Bool.{Bool, true, false, cond}
use mathlib.Core.List.{List, [], ◌∷◌, ◌++◌}
use Prim.Native.Nat.{ℕ, ◌+◌, ◌*◌, ◌≤◌, ◌<◌}
use native.Mathlib.Omega.{arith}
use borrow.Author.Tests.{ne_eqb}
use lib.IntN.{ℤ, pos, negsuc, nat_abs}
use mir.Syntax.{w64}
use mir.Val.{SFits, to_z, of_z}
use mir.Facts.{to_z-of_z}
use Rattle.money.specs.Pounds.{is_none}
use native.Mathlib.Numerals.{add-one}
use lib.ListN.{length, take, get_or, length-append}
use lib.Seq.{length-take-le, take-suc}
use Rattle.lists.specs.Lists.{total}
use Rattle.lists.proofs.Lists.{total_append}
use Rattle.lists.proofs.Tests.{and_left, and_right}
use Rattle.entries.specs.declared.Entry.{Entry}
use Rattle.outage.specs.declared.Log.{Log}
use Rattle.outage.specs.Log.{slots, zero_entry, log_entries, valid_log}
use Rattle.outage.proofs.LogHolding.{valid_room}
use Rattle.year.specs.declared.Line.{Line}
use Rattle.year.specs.declared.Year.{Year}
use Rattle.year.specs.Year.{good_year, line_slots}
use Rattle.year.proofs.Says.{lines_say, year_says}
use Rattle.codec.specs.Format.{field_of, texts, unless}
use Rattle.codec.specs.Theorems.{sizes}
use Rattle.codec.proofs.Numbers.{bytes_length}
use Rattle.codec.proofs.Items.{length_head}
use Rattle.codec.proofs.Lengths.{texts_size, sizes_same}
use Rattle.outage_field.specs.Field.{caused_bytes, most_entry_bytes}
use Rattle.outage_field.proofs.Laws.{caused_size, caused_most, where_text}
use Rattle.return_format.specs.Form.{factors_value, mark_value, wpa_value, line_value, may_follow, entry_item, line_item, factors, mark, wpa, required, form}
use Rattle.return_format.specs.Return.{log_fits, writable, return_of, valid_year}
use Rattle.return_writing.specs.Written.{any_entry, no_entries, no_lines}

-- how many bytes the outages of a log take
abbrev pub outages_size : Log → ℕ
outages_size log = total caused_bytes (log_entries log)

-- ---- the fields of a return
pub line_size : (l : Line) → length (field_of 6 line_value l) ≡ 13
unfolding field_of
line_size l = simp (length-append, length_head, bytes_length)

pub factors_size : (number : ℕ) (f : ℕ × ℕ) → length (field_of 5 (factors_value number) f) ≡ 7
unfolding field_of
factors_size number f = simp (length-append, length_head, bytes_length)

mark_size : (n : ℕ) → length (field_of 8 mark_value n) ≡ 4
unfolding field_of
mark_size n = simp (length-append, length_head, bytes_length)

pub wpa_size : (z : ℤ) → length (field_of 9 wpa_value z) ≡ 11
unfolding field_of
wpa_size z = simp (length-append, length_head, bytes_length)

-- ---- a field that may be left out
pub none_size : {t : Bool} (bs : List ℕ) → t ≡ true → length (unless t bs) ≡ 0
none_size bs e = rw e

pub some_size : {t : Bool} (bs : List ℕ) → t ≡ false → length (unless t bs) ≡ length bs
some_size bs e = rw e

-- an adjustment of 0 is left out, by its bits
pub wpa_none : (z : ℤ) → SFits w64 z → of_z w64 z ≡ 0 → is_none z ≡ true
wpa_none z f e = let back : to_z w64 (of_z w64 z) ≡ z = to_z-of_z f in let zero : z ≡ pos 0 = sym back ∙ ap (to_z w64) e in rw zero refl

nothing : (z : ℤ) → nat_abs z ≡ 0 → of_z w64 z ≡ 0
nothing (pos n) e = rw e refl
nothing (negsuc n) e = absurd (omega arith)

pub wpa_some : (z : ℤ) → (of_z w64 z ≡ 0 → ⊥) → is_none z ≡ false
wpa_some z f = ne_eqb (nat_abs z) 0 (λ e. f (nothing z e))

pub mark_in : {t : Bool} → t ≡ true → length (mark.write (cond t 1 0)) ≡ 4
mark_in e = rw e (mark_size 1)

pub mark_out : {t : Bool} → t ≡ false → length (mark.write (cond t 1 0)) ≡ 0
mark_out e = rw e

-- ---- a return is its required fields and the others
entries_same : (number : ℕ) (before es : List Entry) → texts (entry_item number) before es ≡ texts any_entry before es
unfolding texts
entries_same number before [] = refl
entries_same number before (e ∷ es) =
    ap₂ (λ (a b : List ℕ). a ++ b) (where_text (may_follow number before) 7 e) (entries_same number (before ++ (e ∷ [])) es)

-- ---- outages one by one
-- one more
pub size_next : (row : List Entry) (i : ℕ) → i < length row → total caused_bytes (take (i + 1) row) ≡ total caused_bytes (take i row) + caused_bytes (get_or row i zero_entry)
size_next row i h =
    ap (λ (n : ℕ). total caused_bytes (take n row)) (add-one i)
    ∙ ap (total caused_bytes) (take-suc row i zero_entry h)
    ∙ total_append caused_bytes (take i row) (get_or row i zero_entry ∷ [])
    ∙ omega arith

-- at most so many bytes
pub size_most : (es : List Entry) → total caused_bytes es ≤ most_entry_bytes * length es
size_most [] = omega arith
size_most (e ∷ es) = omega (arith, (caused_most e).1, size_most es)

outages_sized : (before es : List Entry) → sizes any_entry before es ≡ total caused_bytes es
unfolding sizes
outages_sized before [] = refl
outages_sized before (e ∷ es) = ap (λ (n : ℕ). caused_bytes e + n) (outages_sized (before ++ (e ∷ [])) es)

-- the bytes of each
module _ (y : Year) where
  abbrev pub headed : List ℕ
  headed = required.write (y.number, (y.pppi, (y.rate, y.aic)))

  headed_size : length headed ≡ 23
  unfolding field_of
  headed_size = simp (length-append, length_head, bytes_length)

  abbrev pub factored : List ℕ
  factored = (factors y.number).write (y.pyc, y.pyf)

  abbrev pub lined : List ℕ
  lined = texts line_item no_lines (take y.line_count y.lines)

  abbrev pub logged : List ℕ
  logged = texts any_entry no_entries (log_entries y.log)

  abbrev pub marked : List ℕ
  marked = mark.write (cond y.exceptional 1 0)

  abbrev pub paid : List ℕ
  paid = wpa.write y.wpa

  pub parts_of : return_of y ≡ headed ++ (factored ++ (lined ++ (logged ++ (marked ++ paid))))
  unfolding return_of form
  parts_of = rw (entries_same y.number [] (log_entries y.log))

-- ---- a valid year has no more lines and outages than slots
pub log_small : (y : Year) → valid_log y.log ≡ true → y.log.count ≤ slots
log_small y v = valid_room y.log v

module _ (y : Year) (valid : valid_year y ≡ true) where
  pub few_outages : y.log.count ≤ slots
  few_outages = log_small y (and_left (valid_log y.log) (writable y) valid)

  pub few_lines : y.line_count ≤ line_slots
  few_lines =
      let record-good = and_left (good_year y) (log_fits y.log y.number) (and_right (valid_log y.log) (writable y) valid) in
      (lines_say y.lines y.line_count (year_says y record-good).lines).few

  module _ (l : length y.lines ≡ line_slots) where
    lines_size : length (lined y) ≡ 13 * y.line_count
    lines_size =
        texts_size line_item (λ before x. line_size x) no_lines (take y.line_count y.lines)
        ∙ sizes_same line_item 13 (λ before x. refl) no_lines (take y.line_count y.lines)
        ∙ ap (λ (n : ℕ). 13 * n) (length-take-le y.line_count y.lines (omega (arith, few_lines)))

  outages_size_law : length (logged y) ≡ outages_size y.log
  outages_size_law =
      texts_size any_entry (λ before x. caused_size 7 x) no_entries (log_entries y.log) ∙ outages_sized no_entries (log_entries y.log)

  -- and they take so many bytes at most
  pub outages_most : length y.log.entries ≡ slots → outages_size y.log ≤ most_entry_bytes * slots
  outages_most e =
      omega (arith, size_most (log_entries y.log), length-take-le y.log.count y.log.entries (omega (arith, few_outages)), few_outages)

  -- how many bytes its return has
  pub year_size : length y.lines ≡ line_slots
      → length (return_of y) ≡ 23 + (length (factored y) + (13 * y.line_count + (outages_size y.log + (length (marked y) + length (paid y)))))
  year_size l =
      ap length (parts_of y)
      ∙ length-append (headed y) (factored y ++ (lined y ++ (logged y ++ (marked y ++ paid y))))
      ∙ ap₂ (λ (m n : ℕ). m + n) (headed_size y)
      (length-append (factored y) (lined y ++ (logged y ++ (marked y ++ paid y)))
      ∙ ap (λ (n : ℕ). length (factored y) + n)
      (length-append (lined y) (logged y ++ (marked y ++ paid y))
      ∙ ap₂ (λ (m n : ℕ). m + n) (lines_size l)
      (length-append (logged y) (marked y ++ paid y) ∙ ap₂ (λ (m n : ℕ). m + n) outages_size_law (length-append (marked y) (paid y)))))
