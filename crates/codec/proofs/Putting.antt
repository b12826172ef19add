-- Fields written one after another into a buffer with room for them. Assumes nothing.
use mathlib.Core.Path.{◌≡◌, ap, ◌∙◌}
use mathlib.Core.Bool.{Bool, true, false}
use mathlib.Core.List.{List, [], ◌++◌}
use Prim.Native.Nat.{ℕ, ◌+◌, ◌≤◌, ◌<◌}
use native.Mathlib.Omega.{arith}
use lib.ListN.{length, take, get_or, length-append}
use Rattle.codec.specs.Numbers.{bytes_of}
use Rattle.codec.specs.Fields.{head}
use Rattle.codec.specs.Format.{Item, texts, unless}
use Rattle.codec.specs.Buffers.{laid, after, Wrote}
use Rattle.codec.specs.Leaves.{number_bytes, number_field_bytes}
use Rattle.codec.proofs.Lengths.{texts_more, texts_within}
use Rattle.codec.proofs.Buffers.{wrote, then, nothing, same}
use Rattle.codec.proofs.Leaves.{bytes_there, field_bytes_there}

-- ---- a run with room for it and for what follows
pub room_after : {o : List ℕ} {at : ℕ} {a o1 : List ℕ} {n1 : ℕ} (b : List ℕ) → at + length (a ++ b) ≤ length o → Wrote o at a o1 n1 → n1 + length b ≤ length o1
room_after {a} b h w = omega (arith, h, w.to, same w, length-append a b)

-- and there is room for the first of two
pub room_for : (o : List ℕ) (at : ℕ) (a b : List ℕ) → at + length (a ++ b) ≤ length o → at + length a ≤ length o
room_for o at a b h = omega (arith, h, length-append a b)

-- what a call that writes answers
abbrev pub Laid : List ℕ → ℕ → List ℕ → List ℕ → ℕ → Type 0
Laid o at bs o1 n1 = (o1 ≡ laid o at bs) × (n1 ≡ after o at bs)

number_is : (o : List ℕ) (at : ℕ) {o1 : List ℕ} {n1 : ℕ} (n v : ℕ) → n ≤ 8 → Laid o at (number_bytes n v) o1 n1 → Laid o at (bytes_of n v) o1 n1
number_is o at n v k e = (e.0 ∙ ap (laid o at) (bytes_there n v k), e.1 ∙ ap (after o at) (bytes_there n v k))

field_is : (o : List ℕ) (at : ℕ) {o1 : List ℕ} {n1 : ℕ} (tag n v : ℕ) → n ≤ 8 → Laid o at (number_field_bytes tag n v) o1 n1 → Laid o at (head tag n ++ bytes_of n v) o1 n1
field_is o at tag n v k e = (e.0 ∙ ap (laid o at) (field_bytes_there tag n v k), e.1 ∙ ap (after o at) (field_bytes_there tag n v k))

module _ {o : List ℕ} {at : ℕ} {o1 : List ℕ} {n1 : ℕ} where
  -- the last run
  pub number_last : (n v : ℕ) → n ≤ 8 → at + length (bytes_of n v) ≤ length o → Laid o at (number_bytes n v) o1 n1 → Wrote o at (bytes_of n v) o1 n1
  number_last n v k h e = wrote h (number_is o at n v k e)

  pub field_last : (tag n v : ℕ) → n ≤ 8 → at + length (head tag n ++ bytes_of n v) ≤ length o → Laid o at (number_field_bytes tag n v) o1 n1 → Wrote o at (head tag n ++ bytes_of n v) o1 n1
  field_last tag n v k h e = wrote h (field_is o at tag n v k e)

  -- a run, and those after it in the room that is left
  module _ {b o2 : List ℕ} {n2 : ℕ} where
    pub run_then : (a : List ℕ) → at + length (a ++ b) ≤ length o → Laid o at a o1 n1 → (n1 + length b ≤ length o1 → Wrote o1 n1 b o2 n2) → Wrote o at (a ++ b) o2 n2
    run_then a h e k =
        let w : Wrote o at a o1 n1 = wrote (omega (arith, h, length-append a b)) e in
        then w (k (room_after b h w))

    pub number_then : (n v : ℕ) → n ≤ 8 → at + length (bytes_of n v ++ b) ≤ length o → Laid o at (number_bytes n v) o1 n1 → (n1 + length b ≤ length o1 → Wrote o1 n1 b o2 n2) → Wrote o at (bytes_of n v ++ b) o2 n2
    number_then n v k h e = run_then (bytes_of n v) h (number_is o at n v k e)

    pub field_then : (tag n v : ℕ) → n ≤ 8 → at + length ((head tag n ++ bytes_of n v) ++ b) ≤ length o → Laid o at (number_field_bytes tag n v) o1 n1 → (n1 + length b ≤ length o1 → Wrote o1 n1 b o2 n2) → Wrote o at ((head tag n ++ bytes_of n v) ++ b) o2 n2
    field_then tag n v k h e = run_then (head tag n ++ bytes_of n v) h (field_is o at tag n v k e)

-- ---- a field that may be left out
pub left_out : {t : Bool} (bs o : List ℕ) (at : ℕ) → t ≡ true → Wrote o at (unless t bs) o at
left_out bs o at e = rw e (nothing o at)

pub put_in : {t : Bool} {bs o : List ℕ} {at : ℕ} {o' : List ℕ} {next : ℕ} → t ≡ false → Wrote o at bs o' next → Wrote o at (unless t bs) o' next
put_in e w = rw e w

-- ---- a field that repeats: what holds in a loop that writes the first `count` of a row, i of them so far
pub record Putting {A : Type 0} (f : List A → Item A) (row : List A) (count : ℕ) (o : List ℕ) (at : ℕ) (now : List ℕ) (next i : ℕ) : Type 0 where
  pub passed : i ≤ count
  pub slots : count ≤ length row
  pub room : at + length (texts f [] (take count row)) ≤ length o
  pub laid : Wrote o at (texts f [] (take i row)) now next

module _ {A : Type 0} (f : List A → Item A) (row : List A) (count : ℕ) where
  pub none_put : (o : List ℕ) (at : ℕ) → count ≤ length row → at + length (texts f [] (take count row)) ≤ length o → Putting f row count o at o at 0
  unfolding texts
  none_put o at h r = record { passed = omega arith; slots = h; room = r; laid = nothing o at }

module _ {A : Type 0} {f : List A → Item A} {row : List A} {count : ℕ} {o : List ℕ} {at : ℕ} {now : List ℕ} {next i : ℕ} (p : Putting f row count o at now next i) where
  -- there is room for one more
  pub one_room : (d : A) → i < count → next + length ((f (take i row)).text (get_or row i d)) ≤ length now
  one_room d h = omega (arith, p.room, p.laid.to, same p.laid, texts_within f d row count i h p.slots)

  -- one more is written
  pub one_put : {o2 : List ℕ} {n2 : ℕ} (d : A) → i < count → Wrote now next ((f (take i row)).text (get_or row i d)) o2 n2 → Putting f row count o at o2 n2 (i + 1)
  one_put d h w =
      record { passed = omega arith; slots = p.slots; room = p.room; laid = rw (texts_more f d row i (omega (arith, p.slots))) (then p.laid w) }
