-- Bytes written one run after another into a buffer. Assumes nothing.
use mathlib.Core.Path.{◌≡◌, refl, sym, ap, ◌∙◌}
use mathlib.Core.Bool.{true, false, cond}
use mathlib.Core.List.{List, [], ◌++◌, append_assoc}
use Prim.Native.Nat.{ℕ, ◌+◌, ◌≤◌, ◌<◌}
use native.Mathlib.Nat.{zero-add, add-zero}
use native.Mathlib.Omega.{arith}
use borrow.Author.Tests.{le-leb, lt-leb}
use lib.Dec.{leb}
use lib.ListN.{length, take, drop, length-append}
use lib.Seq.{sets, sets-eq, length-sets, drop-drop}
use borrow.Rule.Slice.PartMut.{put_mid}
use Rattle.codec.specs.Buffers.{laid, after, Wrote}
use Rattle.codec.proofs.Numbers.{sets_append}

-- the buffer keeps its length
pub same : {o : List ℕ} {at : ℕ} {a o' : List ℕ} {n : ℕ} → Wrote o at a o' n → length o' ≡ length o
same {o} {at} {a} w = ap length w.is ∙ length-sets o at a

-- nothing written
pub nothing : (o : List ℕ) (at : ℕ) → Wrote o at [] o at
nothing o at = record { is = refl; to = sym (add-zero at) }

-- one run after another is one run
pub then : {o : List ℕ} {at : ℕ} {a o1 : List ℕ} {n1 : ℕ} {b o2 : List ℕ} {n2 : ℕ} → Wrote o at a o1 n1 → Wrote o1 n1 b o2 n2 → Wrote o at (a ++ b) o2 n2
then {o} {at} {a} {o1} {n1} {b} {o2} {n2} v w = record {
  is = w.is ∙ rw (v.is, v.to) (sets_append o at a b);
  to = w.to ∙ rw (v.to, length-append a b) (omega arith);
}

-- a run from the start: those bytes, and the rest as it was
pub front : {o a o' : List ℕ} {n : ℕ} → Wrote o 0 a o' n → length a ≤ length o → o' ≡ a ++ drop (length a) o
front {o} {a} w h = w.is ∙ sets-eq a o 0 (rw (zero-add (length a)) h) ∙ rw (zero-add (length a))

-- a part of the buffer written over
pub part_is : (o bs : List ℕ) (at n : ℕ) → length bs ≡ n → at + n ≤ length o → put_mid at n o bs ≡ sets o at bs
part_is o bs at n e h =
    let d : drop n (drop at o) ≡ drop (at + length bs) o = rw e (drop-drop n at o) in
    sym (sets-eq bs o at (rw e h) ∙ append_assoc (take at o) bs (drop (at + length bs) o) ∙ ap (λ (t : List ℕ). take at o ++ (bs ++ t)) (sym d))

-- ---- where there is room the bytes are written
pub laid_room : (o : List ℕ) (at : ℕ) (bs : List ℕ) → at + length bs ≤ length o → (laid o at bs ≡ sets o at bs) × (after o at bs ≡ at + length bs)
unfolding laid after
laid_room o at bs h = rw (le-leb (at + length bs) (length o) h) (refl, refl)

pub laid_none : (o : List ℕ) (at : ℕ) (bs : List ℕ) → length o < at + length bs → (laid o at bs ≡ o) × (after o at bs ≡ at)
unfolding laid after
laid_none o at bs h = rw (lt-leb (at + length bs) (length o) h) (refl, refl)

-- no bytes change nothing, room or not
pub laid_empty : (o : List ℕ) (at : ℕ) → (laid o at [] ≡ o) × (after o at [] ≡ at)
unfolding laid after
laid_empty o at = by (leb (at + 0) (length o))
  where
    by : (t : _) → (cond t o o ≡ o) × (cond t (at + 0) at ≡ at)
    by true = (refl, add-zero at)
    by false = (refl, refl)

pub wrote : {o : List ℕ} {at : ℕ} {bs o' : List ℕ} {n : ℕ} → at + length bs ≤ length o → (o' ≡ laid o at bs) × (n ≡ after o at bs) → Wrote o at bs o' n
wrote {o} {at} {bs} h w = record { is = w.0 ∙ (laid_room o at bs h).0; to = w.1 ∙ (laid_room o at bs h).1 }

-- ---- what a call that writes answers
pub written : {o : List ℕ} {at : ℕ} {bs o' : List ℕ} {n : ℕ} → at + length bs ≤ length o → Wrote o at bs o' n → (o' ≡ laid o at bs) × (n ≡ after o at bs)
written {o} {at} {bs} h w = (w.is ∙ sym (laid_room o at bs h).0, w.to ∙ sym (laid_room o at bs h).1)

pub unwritten : (o : List ℕ) (at : ℕ) (bs : List ℕ) → length o < at + length bs → (o ≡ laid o at bs) × (at ≡ after o at bs)
unwritten o at bs h = (sym (laid_none o at bs h).0, sym (laid_none o at bs h).1)
