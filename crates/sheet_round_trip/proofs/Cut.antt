-- Of bytes that are longer than the longest sheet and one piece, these say all: the rest changes neither number nor place. Assumes
-- nothing.
use mathlib.Core.Path.{◌≡◌, refl, sym, ap, ◌∙◌}
use mathlib.Core.Bool.{Bool, true, false}
use mathlib.Core.List.{List, [], ◌∷◌, ◌++◌, append_assoc}
use Rattle.std.specs.Prelude.{Option, Some, None}
use Prim.Native.Nat.{ℕ, zero, suc, ◌+◌, ◌-◌, ◌*◌, ◌≤◌, ◌<◌}
use native.Mathlib.Nat.{le_refl}
use native.Mathlib.Omega.{arith}
use borrow.Author.Tests.{leb-true}
use lib.Dec.{leb}
use lib.ListN.{length, take, drop, length-append, length-drop, take-append-drop}
use lib.Seq.{take_at, drop-append-le, length-take-le}
use Rattle.lists.proofs.Tests.{and_right}
use Rattle.entries.specs.Row.{first_regime_end, last_regime_end}
use Rattle.outage.specs.Log.{good_regime_end}
use Rattle.codec.specs.Format.{Res, got, stopped, more}
use Rattle.codec.specs.Message.{refused, finish, reading_all}
use Rattle.codec.specs.Shapes.{ruled, scan_by}
use Rattle.codec.specs.Theorems.{is_whole}
use Rattle.codec.proofs.Message.{short_reading}
use Rattle.codec.proofs.Places.{rest_of, moved}
use Rattle.outage_field.specs.Field.{entry_bytes}
use Rattle.sheet_format.specs.Pieces.{Piece, meant}
use Rattle.sheet_format.specs.Rule.{piece_number}
use Rattle.sheet_format.specs.Sheet.{piece_item, sheet_form, log_meant, sheet_reading}
use Rattle.sheet_format.proofs.Kept.{Kept, none_kept, piece_fine, one_kept}
use Rattle.sheet_format.proofs.Looks.{item_laws, piece_size, look_marked, look_cause}
use Rattle.sheet_round_trip.specs.Sheets.{most_pieces, longest_sheet}
use Rattle.sheet_round_trip.proofs.Pieces.{few_pieces}

-- ---- a piece has thirteen bytes, and what follows them does not matter
module _ (w : List ℕ) (long : length w ≡ 13) where
  not_whole : (r : List ℕ) → is_whole w ≡ false → (o : Option Piece) → (piece_item []).look (w ++ r) ≡ o → o ≡ None
  not_whole r h None e = refl
  not_whole r h (Some a) e =
      let t = ((item_laws []).taken (w ++ r) a e).0 in
      let k : is_whole w ≡ true = ap is_whole (sym (take_at w r 13 long) ∙ ap (λ (n : ℕ). take n (w ++ r)) (sym (piece_size [] a))) ∙ t in
      absurd (let z : ◌≡◌ {A = ℕ} 0 1 = cc in omega arith)

  alike : (r q : List ℕ) → (piece_item []).look (w ++ r) ≡ (piece_item []).look (w ++ q)
  alike r q = by (is_whole w) refl
    where
      by : (b : Bool) → is_whole w ≡ b → (piece_item []).look (w ++ r) ≡ (piece_item []).look (w ++ q)
      by true h = (item_laws []).alike w r q h
      by false h = not_whole r h ((piece_item []).look (w ++ r)) refl ∙ sym (not_whole q h ((piece_item []).look (w ++ q)) refl)

look_cut : (w x : List ℕ) → 13 ≤ length w → (piece_item []).look w ≡ (piece_item []).look (w ++ x)
look_cut w x h =
    let s = take-append-drop 13 w in
    ap (piece_item []).look (sym s)
    ∙ alike (take 13 w) (length-take-le 13 w h) (drop 13 w) (drop 13 w ++ x)
    ∙ ap (piece_item []).look (sym (append_assoc (take 13 w) (drop 13 w) x) ∙ ap (λ (l : List ℕ). l ++ x) s)

module _ (regime_end : ℕ) (most : regime_end ≤ last_regime_end) where
  kept_few : (before : List Piece) → Kept regime_end before → length before ≤ most_pieces
  kept_few before k = omega (arith, few_pieces regime_end 0 (meant before) most (omega arith) k.valid, ap length k.back, k.few)

  -- ---- both stop at one place
  record Same (x : List ℕ) (short long : Res (List Piece)) : Type 0 where
    some_left : 0 < length (rest_of short)
    is : long ≡ moved short (rest_of short ++ x)

  module _ (n m : ℕ) (before : List Piece) (w x : List ℕ) (h : 13 ≤ length w)
      (ih : (a : Piece) → (piece_item before).look w ≡ Some a → piece_number regime_end before a ≡ 0
      → Same x (scan_by piece_item (piece_number regime_end) n (before ++ (a ∷ [])) (drop ((piece_item before).size a) w)) (scan_by piece_item (piece_number regime_end) m (before ++ (a ∷ [])) (drop ((piece_item before).size a) (w ++ x)))) where
    same_ruled : (a : Piece) → (piece_item before).look w ≡ Some a → (k : ℕ) → piece_number regime_end before a ≡ k
        → Same x (ruled w k (scan_by piece_item (piece_number regime_end) n (before ++ (a ∷ [])) (drop ((piece_item before).size a) w)))
        (ruled (w ++ x) k (scan_by piece_item (piece_number regime_end) m (before ++ (a ∷ [])) (drop ((piece_item before).size a) (w ++ x))))
    same_ruled a e zero z = ih a e z
    same_ruled a e (suc k) z = record { some_left = omega arith; is = refl }

    same_step : (o : Option Piece) → (piece_item before).look w ≡ o
        → Same x (more before w (λ a. ruled w (piece_number regime_end before a) (scan_by piece_item (piece_number regime_end) n (before ++ (a ∷ [])) (drop ((piece_item before).size a) w))) o)
        (more before (w ++ x) (λ a. ruled (w ++ x) (piece_number regime_end before a) (scan_by piece_item (piece_number regime_end) m (before ++ (a ∷ [])) (drop ((piece_item before).size a) (w ++ x)))) o)
    same_step None e = record { some_left = omega arith; is = refl }
    same_step (Some a) e = same_ruled a e (piece_number regime_end before a) refl

  same_scan : (n m : ℕ) (before : List Piece) (w x : List ℕ) → length w ≤ n → length (w ++ x) ≤ m → Kept regime_end before → 13 * (most_pieces + 1 - length before) ≤ length w
      → Same x (scan_by piece_item (piece_number regime_end) n before w) (scan_by piece_item (piece_number regime_end) m before (w ++ x))
  unfolding scan_by
  same_scan zero m before w x a b k c = absurd (omega (arith, kept_few before k))
  same_scan (suc n) zero before w x a b k c = absurd (omega (arith, kept_few before k, length-append w x))
  same_scan (suc n) (suc m) before w x a b k c =
      let h : 13 ≤ length w = omega (arith, kept_few before k) in
      rw (← look_cut w x h) (same_step n m before w x h (λ p e z.
      let s : (piece_item before).size p ≡ 13 = piece_size before p in
      let d : drop 13 (w ++ x) ≡ drop 13 w ++ x = drop-append-le 13 w x h in
      let g = same_scan n m (before ++ (p ∷ [])) (drop 13 w) x (omega (arith, length-drop 13 w)) (rw (length-append (drop 13 w) x) (omega (arith, length-drop 13 w, length-append w x)))
      (one_kept k p (piece_fine regime_end before p (look_cause w p e) z) (look_marked w p e)) (rw (length-append before (p ∷ [])) (omega (arith, length-drop 13 w, kept_few before k))) in
      rw (s, d) g) ((piece_item before).look w) refl)

  same_finish : (n : ℕ) (x : List ℕ) (short long : Res (List Piece)) → Same x short long → finish (log_meant regime_end) n short ≡ finish (log_meant regime_end) (n + length x) long
  same_finish n x (got ps []) long s = absurd (omega (arith, s.some_left))
  same_finish n x (got ps (y ∷ rest)) long s =
      let e : n + length x - length ((y ∷ rest) ++ x) ≡ n - length (y ∷ rest) = omega (arith, length-append (y ∷ rest) x) in
      rw s.is (ap (refused 13) (sym e))
  same_finish n x (stopped why rest) long s =
      let e : n + length x - length (rest ++ x) ≡ n - length rest = omega (arith, length-append rest x) in
      rw s.is (ap (refused why) (sym e))

-- ---- what is read of bytes that are longer is what their first are read as
pub cut_same : (regime_end : ℕ) → good_regime_end regime_end ≡ true → (bs : List ℕ) → longest_sheet + entry_bytes ≤ length bs → sheet_reading regime_end (take (longest_sheet + entry_bytes) bs) ≡ sheet_reading regime_end bs
unfolding sheet_reading
cut_same regime_end good bs h =
    let most = leb-true regime_end last_regime_end (and_right (leb first_regime_end regime_end) (leb regime_end last_regime_end) good) in
    let w = take (longest_sheet + entry_bytes) bs in
    let x = drop (longest_sheet + entry_bytes) bs in
    let whole : w ++ x ≡ bs = take-append-drop (longest_sheet + entry_bytes) bs in
    let n : length w ≡ longest_sheet + entry_bytes = length-take-le (longest_sheet + entry_bytes) bs h in
    let s = same_scan regime_end most (length w) (length (w ++ x)) [] w x (le_refl (length w)) (le_refl (length (w ++ x))) (none_kept regime_end) (omega arith) in
    short_reading (sheet_form regime_end) (log_meant regime_end) (length w) w (le_refl (length w))
    ∙ same_finish regime_end most (length w) x ((sheet_form regime_end).read w) ((sheet_form regime_end).read (w ++ x)) s
    ∙ ap (λ (k : ℕ). finish (log_meant regime_end) k ((sheet_form regime_end).read (w ++ x))) (sym (length-append w x))
    ∙ sym (short_reading (sheet_form regime_end) (log_meant regime_end) (length (w ++ x)) (w ++ x) (le_refl (length (w ++ x))))
    ∙ ap (λ (l : List ℕ). reading_all (sheet_form regime_end) (log_meant regime_end) l) whole
