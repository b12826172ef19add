-- The laws of a field that is one of two, and of a value with a number beside it that is not written. Assumes nothing.
use mathlib.Core.Path.{◌≡◌, refl, sym, ap, ap₂, ◌∙◌}
use mathlib.Core.Bool.{Bool, true, false, cond, ◌&&◌}
use mathlib.Core.List.{List, ◌++◌, append_assoc}
use Rattle.std.specs.Prelude.{Option, Some, None}
use Prim.Native.Nat.{ℕ, ◌≤◌, ◌<◌}
use native.Mathlib.Omega.{arith}
use lib.Dec.{eqb}
use lib.ListN.{length, take, drop}
use borrow.Author.Tests.{eq-eqb, eqb-true, ne_eqb}
use Rattle.lists.proofs.Tests.{and_left, and_right, and_made}
use Rattle.codec.specs.Numbers.{bytes_of}
use Rattle.codec.specs.Theorems.{Bytes}
use Rattle.codec.specs.Fields.{head, framed}
use Rattle.codec.specs.Theorems.{is_whole}
use Rattle.codec.specs.Format.{Value, when, map_o, Item, field, field_of}
use Rattle.codec.specs.Shapes.{beside, first_found, either}
use Rattle.codec.proofs.Numbers.{spelled_bytes}
use Rattle.codec.proofs.Values.{ValueLaws}
use Rattle.codec.proofs.Items.{Over, over_le, ItemLaws}

-- ---- a number beside a value
-- what is found of it is the value and the number
pub beside_field : {A : Type 0} (k : ℕ) (v : Value A) (tag : ℕ) (bs : List ℕ) → field tag (beside k v) bs ≡ map_o (λ (a : A). (a, k)) (field tag v bs)
unfolding field
beside_field {A} k v tag bs = by (framed tag v.len bs)
  where
    by : (t : Bool) → when {A = A × ℕ} t (map_o (λ (a : A). (a, k)) (v.get (drop 3 bs))) ≡ map_o (λ (a : A). (a, k)) (when t (v.get (drop 3 bs)))
    by true = refl
    by false = refl

module _ {A : Type 0} (k : ℕ) (v : Value A) (l : ValueLaws v) where
  beside_there : (p : A × ℕ) (rest : List ℕ) → (v.fine p.0 && eqb p.1 k) ≡ true → map_o (λ (a : A). (a, k)) (v.get (v.put p.0 ++ rest)) ≡ Some p
  beside_there p rest h =
      let e : p.1 ≡ k = eqb-true p.1 k (and_right (v.fine p.0) (eqb p.1 k) h) in
      ap (map_o (λ (a : A). (a, k))) (l.there p.0 rest (and_left (v.fine p.0) (eqb p.1 k) h)) ∙ (λ i. Some (p.0, sym e i))

  beside_back : (bs : List ℕ) (p : A × ℕ) → Bytes bs → v.len ≤ length bs → (o : Option A) → v.get bs ≡ o → map_o (λ (a : A). (a, k)) o ≡ Some p → (bs ≡ v.put p.0 ++ drop v.len bs) × ((v.fine p.0 && eqb p.1 k) ≡ true)
  beside_back bs p b h None e g = cc
  beside_back bs p b h (Some a) e g =
      let q : ◌≡◌ {A = A × ℕ} (a, k) p = cc in
      let m = l.back bs a b h e in
      rw (← q) (m.0, and_made m.1 (eq-eqb k k refl))

  -- the number beside what is found
  pub beside_is : (tag : ℕ) (bs : List ℕ) (p : A × ℕ) → field tag (beside k v) bs ≡ Some p → p.1 ≡ k
  unfolding field
  beside_is tag bs p e = by (framed tag v.len bs) (v.get (drop 3 bs)) e
    where
      by : (t : Bool) (o : Option A) → when t (map_o (λ (a : A). (a, k)) o) ≡ Some p → p.1 ≡ k
      by true (Some a) e = let q : ◌≡◌ {A = A × ℕ} (a, k) p = cc in sym (ap (λ (x : A × ℕ). x.1) q)
      by true None e = cc
      by false o e = cc

  pub beside_laws : ValueLaws (beside k v)
  beside_laws =
      record {
        size = λ p f. l.size p.0 (and_left (v.fine p.0) (eqb p.1 k) f);
        there = beside_there;
        back = λ bs p b h g. beside_back bs p b h (v.get bs) refl g;
        alike = λ w r q e. ap (map_o (λ (a : A). (a, k))) (l.alike w r q e);
      }

-- ---- two fields that no bytes are both of
-- of one tag and different lengths
framed_length : (tag n m : ℕ) (p : List ℕ) → m < 65536 → (m ≡ n → ⊥) → framed tag n (head tag m ++ p) ≡ false
unfolding framed head bytes_of
framed_length tag n m p h ne = rw (eq-eqb tag tag refl, ne_eqb _ n (λ e. ne (sym (spelled_bytes 2 m h) ∙ e)))

pub lengths_apart : {A : Type 0} (tag : ℕ) (v w : Value A) → w.len < 65536 → (w.len ≡ v.len → ⊥) → (a : A) (rest : List ℕ) → field tag v (field_of tag w a ++ rest) ≡ None
unfolding field field_of
lengths_apart tag v w h ne a rest = rw (append_assoc (head tag w.len) (w.put a) rest, framed_length tag v.len w.len (w.put a ++ rest) h ne)

-- of different tags
framed_tag : (s t n m : ℕ) (p : List ℕ) → (t ≡ s → ⊥) → framed s n (head t m ++ p) ≡ false
unfolding framed head bytes_of
framed_tag s t n m p ne = rw (ne_eqb t s ne)

pub tags_apart : {A : Type 0} (s t : ℕ) (v w : Value A) → (t ≡ s → ⊥) → (a : A) (rest : List ℕ) → field s v (field_of t w a ++ rest) ≡ None
unfolding field field_of
tags_apart s t v w ne a rest = rw (append_assoc (head t w.len) (w.put a) rest, framed_tag s t v.len w.len (w.put a ++ rest) ne)

-- ---- one of two: the test tells which was found
module _ {A : Type 0} (is : A → Bool) (f g : Item A) (lf : ItemLaws f) (lg : ItemLaws g) (low : f.tag ≤ g.tag) (high : f.last ≤ g.last)
    (first : (bs : List ℕ) (a : A) → f.look bs ≡ Some a → is a ≡ true) (second : (bs : List ℕ) (a : A) → g.look bs ≡ Some a → is a ≡ false)
    (apart : (a : A) (rest : List ℕ) → g.fine a ≡ true → f.look (g.text a ++ rest) ≡ None) where
  either_after : (a : A) (rest : List ℕ) (b : Bool) → cond b (f.fine a) (g.fine a) ≡ true → drop (cond b (f.size a) (g.size a)) (cond b (f.text a) (g.text a) ++ rest) ≡ rest
  either_after a rest true h = lf.after a rest h
  either_after a rest false h = lg.after a rest h

  either_there : (a : A) (rest : List ℕ) (b : Bool) → cond b (f.fine a) (g.fine a) ≡ true
      → first_found (f.look (cond b (f.text a) (g.text a) ++ rest)) (g.look (cond b (f.text a) (g.text a) ++ rest)) ≡ Some a
  either_there a rest true h = rw (lf.there a rest h)
  either_there a rest false h = rw (apart a rest h) (lg.there a rest h)

  either_back : (bs : List ℕ) (a : A) → Bytes bs → (o : Option A) → f.look bs ≡ o → first_found o (g.look bs) ≡ Some a
      → (bs ≡ cond (is a) (f.text a) (g.text a) ++ drop (cond (is a) (f.size a) (g.size a)) bs) × (cond (is a) (f.fine a) (g.fine a) ≡ true)
  either_back bs a b (Some x) e h =
      let q : f.look bs ≡ Some a = e ∙ h in
      rw (first bs a q) (lf.back bs a b q)
  either_back bs a b None e h = rw (second bs a h) (lg.back bs a b h)

  either_over : (a : A) (rest : List ℕ) (b : Bool) → Over f.tag (cond b (f.text a) (g.text a) ++ rest)
  either_over a rest true = lf.over a rest
  either_over a rest false = over_le low (g.text a ++ rest) (lg.over a rest)

  either_taken : (bs : List ℕ) (a : A) (o : Option A) → f.look bs ≡ o → first_found o (g.look bs) ≡ Some a
      → (is_whole (take (cond (is a) (f.size a) (g.size a)) bs) ≡ true) × (cond (is a) (f.size a) (g.size a) ≤ length bs)
  either_taken bs a (Some x) e h =
      let q : f.look bs ≡ Some a = e ∙ h in
      rw (first bs a q) (lf.taken bs a q)
  either_taken bs a None e h = rw (second bs a h) (lg.taken bs a h)

  pub either_laws : ItemLaws (either is f g)
  either_laws =
      record {
        after = λ a rest h. either_after a rest (is a) h;
        there = λ a rest h. either_there a rest (is a) h;
        back = λ bs a b h. either_back bs a b (f.look bs) refl h;
        tags = omega (arith, low, lg.tags);
        other = λ bs o. ap₂ first_found (lf.other bs (over_le (omega (arith, high)) bs o)) (lg.other bs o);
        over = λ a rest. either_over a rest (is a);
        taken = λ bs a h. either_taken bs a (f.look bs) refl h;
        alike = λ w r q h. ap₂ first_found (lf.alike w r q h) (lg.alike w r q h);
      }
