-- What the format may write are pieces that keep the rule; and how many pieces entries have. Assumes nothing.
use mathlib.Core.Path.{◌≡◌, refl, ap}
use mathlib.Core.Bool.{Bool, true, false, cond, ◌&&◌}
use mathlib.Core.List.{List, [], ◌∷◌, ◌++◌, append-nil}
use mathlib.Core.Logic.{inl, inr}
use Prim.Native.Nat.{ℕ, zero, suc, ◌+◌, ◌-◌, ◌/◌, ◌≤◌}
use native.Mathlib.Omega.{arith}
use borrow.Author.Tests.{eq-eqb, ne_eqb, eqb-true}
use lib.Dec.{eqb}
use lib.ListN.{length, length-append}
use lib.Seq.{append_snoc}
use Rattle.lists.specs.Lists.{all}
use Rattle.lists.proofs.Tests.{and_left, and_right, and_made}
use Rattle.entries.specs.declared.Entry.{Entry}
use Rattle.entries.specs.Row.{last_regime_end}
use Rattle.entries.proofs.Keeps.{good_span_law, good_end}
use Rattle.codec.specs.Format.{all_fine}
use Rattle.codec.specs.Shapes.{all_keep}
use Rattle.outage_field.specs.Field.{span_layout, span_of, entry_layout}
use Rattle.outage_field.proofs.Laws.{entry_fine}
use Rattle.sheet_format.specs.Pieces.{Piece, first_day, last_day, continued_on, pieces_of, pieces_in}
use Rattle.sheet_format.specs.Shown.{cause_one}
use Rattle.sheet_format.specs.Rule.{piece_number}
use Rattle.sheet_format.specs.Sheet.{piece_item}
use Rattle.sheet_format.proofs.Apart.{follows, shown_good, first_from, first_good, rest_follows}
use Rattle.sheet_format.proofs.Kept.{Kept, Marked, piece_fine, one_kept}

-- ---- marks
marked_is : (before : List Piece) (p : Piece) → (piece_item before).fine p ≡ true → Marked p
marked_is before p h = by (eqb p.1 0) refl h
  where
    by : (b : Bool) → eqb p.1 0 ≡ b → cond b (entry_layout.fine p.0 && eqb p.1 0) (entry_layout.fine p.0 && eqb p.1 1) ≡ true → Marked p
    by true e h = inl (eqb-true p.1 0 e)
    by false e h = inr (eqb-true p.1 1 (and_right (entry_layout.fine p.0) (eqb p.1 1) h))

-- it has cause 1
cause_is : (before : List Piece) (p : Piece) → (piece_item before).fine p ≡ true → p.0.cause ≡ 1
cause_is before p h = eqb-true p.0.cause 1 (and_right (span_layout.fine (span_of p.0)) (cause_one p.0) (by (eqb p.1 0) h))
  where
    by : (b : Bool) → cond b (entry_layout.fine p.0 && eqb p.1 0) (entry_layout.fine p.0 && eqb p.1 1) ≡ true → entry_layout.fine p.0 ≡ true
    by true h = and_left (entry_layout.fine p.0) (eqb p.1 0) h
    by false h = and_left (entry_layout.fine p.0) (eqb p.1 1) h

marked_fine : (before : List Piece) (p : Piece) → Marked p → entry_layout.fine p.0 ≡ true → (piece_item before).fine p ≡ true
marked_fine before p (inl z) f = rw (eq-eqb p.1 0 z) (and_made f refl)
marked_fine before p (inr z) f = rw (ne_eqb p.1 0 (λ e. omega arith), eq-eqb p.1 1 z) (and_made f refl)

-- each piece has one of the two marks, and cause 1
abbrev AllMarked : List Piece → Type 0
AllMarked [] = Unit {0}
AllMarked (p ∷ ps) = (Marked p × (p.0.cause ≡ 1)) × AllMarked ps

marked_append : (ps qs : List Piece) → AllMarked ps → AllMarked qs → AllMarked (ps ++ qs)
marked_append [] qs a b = b
marked_append (p ∷ ps) qs a b = (a.0, marked_append ps qs a.1 b)

continued_marked : (e : Entry) → e.cause ≡ 1 → (day n : ℕ) → AllMarked (continued_on e day n)
continued_marked e c day zero = tt
continued_marked e c day (suc n) = ((inr refl, c), continued_marked e c (suc day) n)

pub pieces_marked : (es : List Entry) → all cause_one es ≡ true → AllMarked (pieces_in es)
unfolding pieces_of
pieces_marked [] h = tt
pieces_marked (e ∷ es) h =
    let c = eqb-true e.cause 1 (and_left (cause_one e) (all cause_one es) h) in
    let r = pieces_marked es (and_right (cause_one e) (all cause_one es) h) in
    ((inl refl, c), marked_append (continued_on e (suc (first_day e)) (last_day e - first_day e)) (pieces_in es) (continued_marked e c (suc (first_day e)) (last_day e - first_day e)) r)

-- ---- what the format may write keeps the rule
module _ (regime_end : ℕ) where
  pub all_kept : (before ps : List Piece) → Kept regime_end before → all_fine piece_item before ps ≡ true → all_keep (piece_number regime_end) before ps ≡ true → Kept regime_end (before ++ ps)
  unfolding all_fine all_keep
  all_kept before [] k f h = rw append-nil k
  all_kept before (p ∷ ps) k f h =
      let w = and_left ((piece_item before).fine p) (all_fine piece_item (before ++ (p ∷ [])) ps) f in
      let z = eqb-true (piece_number regime_end before p) 0 (and_left (eqb (piece_number regime_end before p) 0) (all_keep (piece_number regime_end) (before ++ (p ∷ [])) ps) h) in
      rw (← append_snoc before p ps)
      (all_kept (before ++ (p ∷ [])) ps (one_kept k p (piece_fine regime_end before p (cause_is before p w) z) (marked_is before p w))
      (and_right ((piece_item before).fine p) (all_fine piece_item (before ++ (p ∷ [])) ps) f)
      (and_right (eqb (piece_number regime_end before p) 0) (all_keep (piece_number regime_end) (before ++ (p ∷ [])) ps) h))

  -- and what keeps it may be written
  pub all_fine_law : regime_end ≤ last_regime_end → (before ps : List Piece) → AllMarked ps → all_keep (piece_number regime_end) before ps ≡ true → all_fine piece_item before ps ≡ true
  unfolding all_fine all_keep
  all_fine_law r before [] m h = refl
  all_fine_law r before (p ∷ ps) m h =
      let z = eqb-true (piece_number regime_end before p) 0 (and_left (eqb (piece_number regime_end before p) 0) (all_keep (piece_number regime_end) (before ++ (p ∷ [])) ps) h) in
      let g = shown_good regime_end p.0 (piece_fine regime_end before p m.0.1 z).good in
      and_made (marked_fine before p m.0.0 (entry_fine regime_end r p.0 g m.0.1))
      (all_fine_law r (before ++ (p ∷ [])) ps m.1 (and_right (eqb (piece_number regime_end before p) 0) (all_keep (piece_number regime_end) (before ++ (p ∷ [])) ps) h))

-- ---- how many pieces
continued_length : (e : Entry) (day n : ℕ) → length (continued_on e day n) ≡ n
continued_length e day zero = refl
continued_length e day (suc n) = ap suc (continued_length e (suc day) n)

pieces_length : (e : Entry) → length (pieces_of e) ≡ suc (last_day e - first_day e)
unfolding pieces_of
pieces_length e = ap suc (continued_length e (suc (first_day e)) (last_day e - first_day e))

-- one a day, and one more for each entry
pub few_pieces : (regime_end from : ℕ) (es : List Entry) → regime_end ≤ last_regime_end → from ≤ regime_end → follows regime_end from es ≡ true → length (pieces_in es) + (from - 1) / 1440 ≤ 9466 + length es
few_pieces regime_end from [] r h f = omega arith
few_pieces regime_end from (e ∷ es) r h f =
    let g = first_good regime_end from e es f in
    omega (
      arith,
      few_pieces regime_end e.end es r (good_end regime_end e g) (rest_follows regime_end from e es f),
      pieces_length e,
      length-append (pieces_of e) (pieces_in es),
      good_span_law regime_end e g,
      first_from regime_end from e es f,
    )
