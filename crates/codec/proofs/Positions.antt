-- The same from a place of the bytes on, as code reads them. Assumes nothing.
use mathlib.Core.Path.{◌≡◌, refl, sym, ap, ◌∙◌}
use mathlib.Core.Bool.{Bool, true, false, ◌&&◌}
use mathlib.Core.List.{List}
use Rattle.std.specs.Prelude.{Option, Some, None}
use mathlib.Core.Logic.{⊎_elim}
use Prim.Native.Nat.{ℕ, ◌+◌, ◌-◌, ◌≤◌, ◌<◌}
use native.Mathlib.Omega.{arith}
use lib.ListN.{length, take, drop, get_or, length-drop}
use lib.Dec.{leb, eqb}
use lib.Seq.{drop-drop}
use borrow.Author.Tests.{leb-true}
use Rattle.lists.proofs.Tests.{and_left, and_right, le_or_lt}
use Rattle.codec.specs.Numbers.{spelled}
use Rattle.codec.specs.Fields.{framed}
use Rattle.codec.specs.Format.{Value, when, num, Item, field, tagged, malformed, one, opt, ReadAt, StoppedAt}
use Rattle.codec.proofs.Numbers.{framed_at, framed_short}
use Rattle.codec.proofs.Values.{when_true}

-- ---- the same at a position of a list, as code reads it

pub room : (tag len : ℕ) (s : List ℕ) (at : ℕ) → framed tag len (drop at s) ≡ true → at + 3 + len ≤ length s
room tag len s at e = ⊎_elim long short (le_or_lt (at + 3) (length s))
  where
    short : length s < at + 3 → at + 3 + len ≤ length s
    short n = let f : false ≡ true = sym (framed_short tag len (drop at s) (simp length-drop (omega arith))) ∙ e in cc

    long : at + 3 ≤ length s → at + 3 + len ≤ length s
    long k =
        let e' : (eqb (get_or s at 0) tag && (eqb (spelled 0 (take 2 (drop (at + 1) s))) len && leb len (length s - at - 3))) ≡ true = sym (framed_at tag len s at k) ∙ e in
        let e2 : leb len (length s - at - 3) ≡ true = and_right (eqb (spelled 0 (take 2 (drop (at + 1) s))) len) _ (and_right (eqb (get_or s at 0) tag) _ e') in
        omega (arith, leb-true len (length s - at - 3) e2)

pub field_not : {A : Type 0} (tag : ℕ) (v : Value A) (bs : List ℕ) → framed tag v.len bs ≡ false → field tag v bs ≡ None
unfolding field
field_not tag v bs e = rw e

pub field_is : {A : Type 0} (tag : ℕ) (v : Value A) (s : List ℕ) (at : ℕ) → framed tag v.len (drop at s) ≡ true → field tag v (drop at s) ≡ v.get (drop (at + 3) s)
unfolding field
field_is tag v s at e = rw (e, drop-drop 3 at s)

-- a field that was read is there
pub field_room : {A : Type 0} (tag : ℕ) (v : Value A) (s : List ℕ) (at : ℕ) (a : A) → at ≤ length s → field tag v (drop at s) ≡ Some a → at + 3 + v.len ≤ length s
unfolding field
field_room tag v s at a h e = go (framed tag v.len (drop at s)) refl e
  where
    go : (t : Bool) → framed tag v.len (drop at s) ≡ t → when t (v.get (drop 3 (drop at s))) ≡ Some a → at + 3 + v.len ≤ length s
    go true f w = room tag v.len s at f
    go false f w = cc

-- a field that is found lies inside the bytes
abbrev pub Inside : {A : Type 0} → Item A → Type 0
Inside {A} f = (bs : List ℕ) (a : A) → f.look bs ≡ Some a → f.size a ≤ length bs

pub tagged_inside : {A : Type 0} (tag : ℕ) (v : Value A) → Inside (tagged tag v)
tagged_inside tag v bs a e = omega (arith, field_room tag v bs 0 a (omega arith) e)

pub drop_more : (n p q : ℕ) (s : List ℕ) → p + n ≡ q → drop n (drop p s) ≡ drop q s
drop_more n p q s e = drop-drop n p s ∙ ap (λ (k : ℕ). drop k s) e

-- what was read is in range
pub num_range : (n lo hi : ℕ) (l : List ℕ) (v : ℕ) → (num n lo hi).get l ≡ Some v → (lo ≤ v) × (v ≤ hi)
num_range n lo hi l v g =
    let x = spelled 0 (take n l) in
    let w = when_true (leb lo x && leb x hi) x v g in
    let h1 : lo ≤ x = leb-true lo x (and_left (leb lo x) (leb x hi) w.0) in
    let h2 : x ≤ hi = leb-true x hi (and_right (leb lo x) (leb x hi) w.0) in
    (omega (arith, w.1), omega (arith, w.1))

-- a field that may be left out, read at a position: it is there, it is left out, or it has to be there and is not
module _ {A : Type 0} (tag : ℕ) (v : Value A) (d : Option A) (is : A → Bool) (s : List ℕ) (at : ℕ) where
  pub opt_some : (a : A) (next : ℕ) → at ≤ length s → at + (3 + v.len) ≡ next → field tag v (drop at s) ≡ Some a → ReadAt (opt (tagged tag v) d is) s at a next
  opt_some a next h n e = record { is = rw (e, drop_more (3 + v.len) at next s n); inside = omega (arith, field_room tag v s at a h e) }

  pub opt_none : {x : A} → d ≡ Some x → at ≤ length s → field tag v (drop at s) ≡ None → ReadAt (opt (tagged tag v) d is) s at x at
  opt_none k h e = record { is = rw (e, k); inside = h }

  pub opt_missing : d ≡ None → at ≤ length s → field tag v (drop at s) ≡ None → StoppedAt (opt (tagged tag v) d is) s at malformed at
  opt_missing k h e = record { is = rw (e, k); inside = h }

pub one_some : {A : Type 0} (tag : ℕ) (v : Value A) (s : List ℕ) (at : ℕ) (a : A) (next : ℕ) → at ≤ length s → at + (3 + v.len) ≡ next → field tag v (drop at s) ≡ Some a → ReadAt (one (tagged tag v)) s at a next
one_some tag v s at a next h n e = record { is = rw (e, drop_more (3 + v.len) at next s n); inside = omega (arith, field_room tag v s at a h e) }

pub field_range : (tag n lo hi : ℕ) (bs : List ℕ) (v : ℕ) → field tag (num n lo hi) bs ≡ Some v → (lo ≤ v) × (v ≤ hi)
unfolding field
field_range tag n lo hi bs v e = go (framed tag n bs) e
  where
    go : (t : Bool) → when t ((num n lo hi).get (drop 3 bs)) ≡ Some v → (lo ≤ v) × (v ≤ hi)
    go true w = num_range n lo hi (drop 3 bs) v w
    go false w = cc
