-- The laws of fields in order: what is written is read back, and what is read is what would be written. The tags of a part
-- lie from `lo` on and below `hi`, and what follows it starts with none below `hi`. Assumes nothing.
use mathlib.Core.Path.{◌≡◌, refl, sym, ap, subst, ◌∙◌}
use mathlib.Core.Bool.{Bool, true, false, ◌&&◌, ◌||◌}
use mathlib.Core.List.{List, ◌++◌, append_assoc}
use Rattle.std.specs.Prelude.{Option, Some, None}
use Prim.Native.Nat.{ℕ, suc}
use native.Mathlib.Omega.{arith}
use lib.ListN.{drop}
use Rattle.lists.proofs.Tests.{and_left, and_right}
use Rattle.codec.specs.Theorems.{Bytes}
use Rattle.codec.specs.Format.{Item, Res, got, stopped, Codec, need, one, absent, or_else, unless, opt, pair_up, and_then, both}
use Rattle.codec.proofs.Values.{bytes_right}
use Rattle.codec.proofs.Items.{Over, over_le, ItemLaws}

pub record Lawful {A : Type 0} (c : Codec A) (lo hi : ℕ) : Type 0 where
  pub there : (a : A) (rest : List ℕ) → c.ok a ≡ true → Over hi rest → c.read (c.write a ++ rest) ≡ got a rest
  pub over : (a : A) (rest : List ℕ) → c.ok a ≡ true → Over hi rest → Over lo (c.write a ++ rest)
  pub back : (bs : List ℕ) (a : A) (rest : List ℕ) → Bytes bs → c.read bs ≡ got a rest → (bs ≡ c.write a ++ rest) × (c.ok a ≡ true)

-- a field that is left out stands for the value that it is left out for
absent_got : {A : Type 0} (d : Option A) (bs : List ℕ) (a : A) (rest : List ℕ) → absent d bs ≡ got a rest → (d ≡ Some a) × (bs ≡ rest)
absent_got (Some x) bs a rest h =
    let p : x ≡ a = cc in
    let q : bs ≡ rest = cc in
    (ap Some p, q)
absent_got None bs a rest h = cc

module _ {A : Type 0} (f : Item A) (l : ItemLaws f) where
  need_back : (bs : List ℕ) (o : Option A) → f.look bs ≡ o → (a : A) (rest : List ℕ) → Bytes bs → need f bs o ≡ got a rest → (bs ≡ f.text a ++ rest) × (f.fine a ≡ true)
  need_back bs None e a rest b h = cc
  need_back bs (Some x) e a rest b h =
      let p : x ≡ a = cc in
      let q : drop (f.size x) bs ≡ rest = cc in
      rw (← q, ← p) (l.back bs x b e)

  pub one_lawful : Lawful (one f) f.tag (suc f.last)
  one_lawful =
      record {
        there = λ a rest h o. rw (l.there a rest h) (ap (got a) (l.after a rest h));
        over = λ a rest h o. l.over a rest;
        back = λ bs a rest b h. need_back bs (f.look bs) refl a rest b h;
      }

  module _ (d : Option A) (is : A → Bool) (is-d : (x : A) → d ≡ Some x → is x ≡ true) (d-is : (a : A) → is a ≡ true → d ≡ Some a) (not-fine : (a : A) → f.fine a ≡ true → is a ≡ false) where
    opt_there : (a : A) (t : Bool) → is a ≡ t → (rest : List ℕ) → (t || f.fine a) ≡ true → Over (suc f.last) rest → or_else f d (unless t (f.text a) ++ rest) (f.look (unless t (f.text a) ++ rest)) ≡ got a rest
    opt_there a true e rest h o = rw (l.other rest o) (ap (λ (x : Option A). absent x rest) (d-is a e))
    opt_there a false e rest h o = rw (l.there a rest h) (ap (got a) (l.after a rest h))

    opt_over : (a : A) (t : Bool) → (rest : List ℕ) → Over (suc f.last) rest → Over f.tag (unless t (f.text a) ++ rest)
    opt_over a true rest o = over_le (omega (arith, l.tags)) rest o
    opt_over a false rest o = l.over a rest

    opt_back : (bs : List ℕ) (o : Option A) → f.look bs ≡ o → (a : A) (rest : List ℕ) → Bytes bs → or_else f d bs o ≡ got a rest → (bs ≡ unless (is a) (f.text a) ++ rest) × ((is a || f.fine a) ≡ true)
    opt_back bs None e a rest b h =
        let k = absent_got d bs a rest h in
        rw (is-d a k.0) (k.1, refl)
    opt_back bs (Some x) e a rest b h =
        let p : x ≡ a = cc in
        let q : drop (f.size x) bs ≡ rest = cc in
        let k = l.back bs x b e in
        rw (← q, ← p, not-fine x k.1) k

    pub opt_lawful : Lawful (opt f d is) f.tag (suc f.last)
    opt_lawful =
        record {
          there = λ a rest h o. opt_there a (is a) refl rest h o;
          over = λ a rest h o. opt_over a (is a) rest o;
          back = λ bs a rest b h. opt_back bs (f.look bs) refl a rest b h;
        }

module _ {A B : Type 0} (c : Codec A) (d : A → Codec B) (lo mid hi : ℕ) (lc : Lawful c lo mid) (ld : (a : A) → Lawful (d a) mid hi) where
  both_there : (a : A) (b : B) (rest : List ℕ) → (c.ok a && (d a).ok b) ≡ true → Over hi rest → and_then d (c.read ((c.write a ++ (d a).write b) ++ rest)) ≡ got (a, b) rest
  both_there a b rest h o =
      let ha : c.ok a ≡ true = and_left (c.ok a) ((d a).ok b) h in
      let hb : (d a).ok b ≡ true = and_right (c.ok a) ((d a).ok b) h in
      rw (append_assoc (c.write a) ((d a).write b) rest, lc.there a ((d a).write b ++ rest) ha ((ld a).over b rest hb o), (ld a).there b rest hb o)

  both_over : (a : A) (b : B) (rest : List ℕ) → (c.ok a && (d a).ok b) ≡ true → Over hi rest → Over lo ((c.write a ++ (d a).write b) ++ rest)
  both_over a b rest h o =
      let ha : c.ok a ≡ true = and_left (c.ok a) ((d a).ok b) h in
      let hb : (d a).ok b ≡ true = and_right (c.ok a) ((d a).ok b) h in
      rw (append_assoc (c.write a) ((d a).write b) rest) (lc.over a ((d a).write b ++ rest) ha ((ld a).over b rest hb o))

  both_back : (bs r1 : List ℕ) (x : A) → Bytes bs → (bs ≡ c.write x ++ r1) × (c.ok x ≡ true) → (r : Res B) → (d x).read r1 ≡ r → (p : A × B) (rest : List ℕ) → pair_up x r ≡ got p rest → (bs ≡ (c.write p.0 ++ (d p.0).write p.1) ++ rest) × ((c.ok p.0 && (d p.0).ok p.1) ≡ true)
  both_back bs r1 x b k (stopped n r2) e p rest h = cc
  both_back bs r1 x b k (got y r2) e p rest h =
      let pe : (x, y) ≡ p = cc in
      let q : r2 ≡ rest = cc in
      let b1 : Bytes r1 = bytes_right (c.write x) r1 (subst Bytes k.0 b) in
      let m = (ld x).back r1 y r2 b1 e in
      rw (← pe, ← q)
      (k.0 ∙ ap (λ (n : List ℕ). c.write x ++ n) m.0 ∙ sym (append_assoc (c.write x) ((d x).write y) r2), rw k.1 m.1)

  and_back : (bs : List ℕ) → Bytes bs → (r : Res A) → c.read bs ≡ r → (p : A × B) (rest : List ℕ) → and_then d r ≡ got p rest → (bs ≡ (c.write p.0 ++ (d p.0).write p.1) ++ rest) × ((c.ok p.0 && (d p.0).ok p.1) ≡ true)
  and_back bs b (stopped n r) e p rest h = cc
  and_back bs b (got x r1) e p rest h = both_back bs r1 x b (lc.back bs x r1 b e) ((d x).read r1) refl p rest h

  pub both_lawful : Lawful (both c d) lo hi
  both_lawful =
      record {
        there = λ p rest h o. both_there p.0 p.1 rest h o;
        over = λ p rest h o. both_over p.0 p.1 rest h o;
        back = λ bs p rest b h. and_back bs b (c.read bs) refl p rest h;
      }
