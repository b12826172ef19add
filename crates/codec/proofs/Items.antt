-- The laws of fields with a tag. Assumes nothing.
use mathlib.Core.Path.{◌≡◌, refl, sym, ap, ◌∙◌}
use mathlib.Core.Bool.{Bool, true, false, ◌&&◌}
use mathlib.Core.List.{List, [], ◌∷◌, ◌++◌, append_assoc}
use Rattle.std.specs.Prelude.{Option, Some, None}
use Prim.Native.Nat.{ℕ, suc, ◌+◌, ◌≤◌, ◌<◌}
use native.Mathlib.Nat.{le_trans, le_refl}
use native.Mathlib.Omega.{arith}
use lib.ListN.{length, take, drop, length-append}
use lib.Dec.{leb, eqb}
use lib.Seq.{drop_at, length-take-le, drop-drop}
use borrow.Author.Tests.{eq-eqb, eqb-true, ne_eqb, le-leb, leb-true}
use Rattle.lists.proofs.Tests.{and_left, and_right}
use Rattle.codec.specs.Numbers.{spelled, bytes_of}
use Rattle.codec.specs.Theorems.{Bytes}
use Rattle.codec.specs.Fields.{head, framed}
use Rattle.codec.specs.Theorems.{is_whole}
use Rattle.codec.specs.Format.{Value, when, Item, field, field_of, tagged}
use Rattle.codec.proofs.Numbers.{bytes_length, spelled_bytes, bytes_spelled}
use Rattle.codec.proofs.Values.{ValueLaws, bytes_drop, bytes_take}

-- the list starts with no tag below k
abbrev pub Over : ℕ → List ℕ → Type 0
Over k [] = Unit {0}
Over k (t ∷ r) = k ≤ t

pub over_le : {j k : ℕ} → j ≤ k → (bs : List ℕ) → Over k bs → Over j bs
over_le h [] o = tt
over_le h (t ∷ r) o = le_trans h o

pub record ItemLaws {A : Type 0} (f : Item A) : Type 0 where
  pub after : (a : A) (rest : List ℕ) → f.fine a ≡ true → drop (f.size a) (f.text a ++ rest) ≡ rest
  pub there : (a : A) (rest : List ℕ) → f.fine a ≡ true → f.look (f.text a ++ rest) ≡ Some a
  pub back : (bs : List ℕ) (a : A) → Bytes bs → f.look bs ≡ Some a → (bs ≡ f.text a ++ drop (f.size a) bs) × (f.fine a ≡ true)
  pub tags : f.tag ≤ f.last
  pub other : (bs : List ℕ) → Over (suc f.last) bs → f.look bs ≡ None
  pub over : (a : A) (rest : List ℕ) → Over f.tag (f.text a ++ rest)
  -- a field found is whole
  pub taken : (bs : List ℕ) (a : A) → f.look bs ≡ Some a → (is_whole (take (f.size a) bs) ≡ true) × (f.size a ≤ length bs)
  -- what follows a whole field does not matter
  pub alike : (w r q : List ℕ) → is_whole w ≡ true → f.look (w ++ r) ≡ f.look (w ++ q)

-- a frame is the head and as many bytes as it says
framed_there : (tag len : ℕ) (p rest : List ℕ) → len < 65536 → length p ≡ len → framed tag len (head tag len ++ (p ++ rest)) ≡ true
unfolding framed head bytes_of
framed_there tag len p rest h e = rw (eq-eqb tag tag refl, eq-eqb _ len (spelled_bytes 2 len h), length-append p rest, le-leb len (length p + length rest) (omega arith))

framed_back : (tag len : ℕ) (bs : List ℕ) → Bytes bs → framed tag len bs ≡ true → (bs ≡ head tag len ++ drop 3 bs) × (len ≤ length (drop 3 bs))
unfolding framed head
framed_back tag len [] b h = cc
framed_back tag len (t ∷ []) b h = cc
framed_back tag len (t ∷ u ∷ []) b h = cc
framed_back tag len (t ∷ u ∷ v ∷ r) b h =
    let h1 : (eqb (spelled 0 (u ∷ v ∷ [])) len && leb len (length r)) ≡ true = and_right (eqb t tag) _ h in
    let e0 : t ≡ tag = eqb-true t tag (and_left (eqb t tag) _ h) in
    let e1 : spelled 0 (u ∷ v ∷ []) ≡ len = eqb-true _ len (and_left (eqb (spelled 0 (u ∷ v ∷ [])) len) _ h1) in
    let e2 : bytes_of 2 (spelled 0 (u ∷ v ∷ [])) ≡ u ∷ v ∷ [] = bytes_spelled (u ∷ v ∷ []) (bytes_take 2 (u ∷ v ∷ r) (λ i. b (suc i))) in
    (rw (← e0, ← e1, e2), leb-true len (length r) (and_right (eqb (spelled 0 (u ∷ v ∷ [])) len) _ h1))

framed_other : (tag len : ℕ) (bs : List ℕ) → Over (suc tag) bs → framed tag len bs ≡ false
unfolding framed
framed_other tag len [] o = refl
framed_other tag len (t ∷ []) o = refl
framed_other tag len (t ∷ u ∷ []) o = refl
framed_other tag len (t ∷ u ∷ v ∷ r) o = rw (ne_eqb t tag (omega arith))

-- what a frame holds is one field
framed_whole : (tag len : ℕ) (bs : List ℕ) → framed tag len bs ≡ true → (is_whole (take (3 + len) bs) ≡ true) × (3 + len ≤ length bs)
unfolding framed is_whole
framed_whole tag len [] h = cc
framed_whole tag len (t ∷ []) h = cc
framed_whole tag len (t ∷ u ∷ []) h = cc
framed_whole tag len (t ∷ u ∷ v ∷ r) h =
    let h1 : (eqb (spelled 0 (u ∷ v ∷ [])) len && leb len (length r)) ≡ true = and_right (eqb t tag) _ h in
    let k : len ≤ length r = leb-true len (length r) (and_right (eqb (spelled 0 (u ∷ v ∷ [])) len) _ h1) in
    let e : 3 + len ≡ suc (suc (suc len)) = omega arith in
    (rw (e, length-take-le len r k) (and_left (eqb (spelled 0 (u ∷ v ∷ [])) len) _ h1), omega arith)

pub length_head : (tag len : ℕ) → length (head tag len) ≡ 3
unfolding head
length_head tag len = rw (bytes_length 2 len)

module _ {A : Type 0} (tag : ℕ) (v : Value A) (short : v.len < 65536) (l : ValueLaws v) where
  tagged_after : (a : A) (rest : List ℕ) → v.fine a ≡ true → drop (3 + v.len) (field_of tag v a ++ rest) ≡ rest
  unfolding field_of
  tagged_after a rest h = drop_at (head tag v.len ++ v.put a) rest (3 + v.len) (rw (length-append, length_head, l.size a h))

  tagged_there : (a : A) (rest : List ℕ) → v.fine a ≡ true → field tag v (field_of tag v a ++ rest) ≡ Some a
  unfolding field_of field
  tagged_there a rest h =
      let e : (head tag v.len ++ v.put a) ++ rest ≡ head tag v.len ++ (v.put a ++ rest) = append_assoc (head tag v.len) (v.put a) rest in
      rw (e, framed_there tag v.len (v.put a) rest short (l.size a h), drop_at (head tag v.len) (v.put a ++ rest) 3 (length_head tag v.len)) (l.there a rest h)

  tagged_back : (bs : List ℕ) (a : A) → Bytes bs → (t : Bool) → framed tag v.len bs ≡ t → when t (v.get (drop 3 bs)) ≡ Some a → (bs ≡ field_of tag v a ++ drop (3 + v.len) bs) × (v.fine a ≡ true)
  unfolding field_of
  tagged_back bs a b false e w = cc
  tagged_back bs a b true e w =
      let k = framed_back tag v.len bs b e in
      let p = l.back (drop 3 bs) a (bytes_drop 3 bs b) k.1 w in
      let q : drop v.len (drop 3 bs) ≡ drop (3 + v.len) bs = drop-drop v.len 3 bs in
      (k.0 ∙ ap (λ (m : List ℕ). head tag v.len ++ m) (p.0 ∙ ap (λ (m : List ℕ). v.put a ++ m) q) ∙ sym (append_assoc (head tag v.len) (v.put a) (drop (3 + v.len) bs)), p.1)

  tagged_other : (bs : List ℕ) → Over (suc tag) bs → field tag v bs ≡ None
  unfolding field
  tagged_other bs o = rw (framed_other tag v.len bs o)

  tagged_over : (a : A) (rest : List ℕ) → Over tag (field_of tag v a ++ rest)
  unfolding field_of head
  tagged_over a rest = le_refl tag

  tagged_taken : (bs : List ℕ) (a : A) (t : Bool) → framed tag v.len bs ≡ t → when t (v.get (drop 3 bs)) ≡ Some a → (is_whole (take (3 + v.len) bs) ≡ true) × (3 + v.len ≤ length bs)
  tagged_taken bs a false e w = cc
  tagged_taken bs a true e w = framed_whole tag v.len bs e

  -- the length that the head says is the value's, or it is not and no such field is found
  tagged_alike : (w r q : List ℕ) → is_whole w ≡ true → field tag v (w ++ r) ≡ field tag v (w ++ q)
  unfolding field framed is_whole
  tagged_alike [] r q h = cc
  tagged_alike (t ∷ []) r q h = cc
  tagged_alike (t ∷ u ∷ []) r q h = cc
  tagged_alike (t ∷ u ∷ s ∷ p) r q h = by (eqb t tag) (eqb (spelled 0 (u ∷ s ∷ [])) v.len) refl
    where
      found : List ℕ → Bool → Bool → Option A
      found m a b = when (a && (b && leb v.len (length (p ++ m)))) (v.get (p ++ m))

      here : (m : List ℕ) → length p ≡ v.len → found m true true ≡ v.get (p ++ m)
      here m e = rw (le-leb v.len (length (p ++ m)) (rw (length-append p m) (omega arith)))

      by : (a b : Bool) → eqb (spelled 0 (u ∷ s ∷ [])) v.len ≡ b → found r a b ≡ found q a b
      by false b e = refl
      by true false e = refl
      by true true e =
          let n : length p ≡ v.len = sym (eqb-true _ (length p) h) ∙ eqb-true _ v.len e in
          here r n ∙ l.alike p r q n ∙ sym (here q n)

  pub tagged_laws : ItemLaws (tagged tag v)
  unfolding field
  tagged_laws = record { tags = le_refl tag; after = tagged_after; there = tagged_there; back = λ bs a b h. tagged_back bs a b (framed tag v.len bs) refl h; other = tagged_other; over = tagged_over; taken = λ bs a h. tagged_taken bs a (framed tag v.len bs) refl h; alike = tagged_alike }
