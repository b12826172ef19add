-- The laws of values: what is written is read back, what is read is what would be written, and no other byte counts.
-- Assumes nothing.
use mathlib.Core.Path.{◌≡◌, refl, sym, ap, ap₂, ◌∙◌}
use mathlib.Core.Bool.{Bool, true, false, ◌&&◌}
use mathlib.Core.List.{List, [], ◌∷◌, ◌++◌, append_assoc}
use Rattle.std.specs.Prelude.{Option, Some, None}
use Rattle.std.specs.Bool.{then_some}
use Prim.Native.Nat.{ℕ, zero, suc, ◌+◌, ◌≤◌, ◌<◌, ◌^◌}
use native.Mathlib.Nat.{lt_of_le_of_lt}
use native.Mathlib.Omega.{arith}
use lib.ListN.{length, take, drop, length-append, length-drop, take-append-drop}
use lib.Dec.{leb}
use lib.Seq.{take_at, drop_at, get_or-append-add, length-take-le, get_or-drop, drop-drop, drop-append-le}
use borrow.Author.Tests.{leb-true}
use lib.IntN.{ℤ, pos, negsuc, nat_abs}
use mir.Syntax.{w64}
use mir.Val.{to_z, of_z, SFits}
use mir.ValLaws.{to_z-of_z, of_z-to_z, of_z_fits}
use Rattle.lists.proofs.Tests.{and_left, and_right}
use Rattle.codec.specs.Numbers.{spelled, bytes_of}
use Rattle.codec.specs.Theorems.{Bytes}
use Rattle.codec.specs.Format.{Value, when, map_o, bind_o, num, int, pair, mapped, restricted}
use Rattle.codec.proofs.Numbers.{bytes_length, spelled_bytes, bytes_spelled, fits_word, spelled_small}

pub bytes_drop : (n : ℕ) (s : List ℕ) → Bytes s → Bytes (drop n s)
bytes_drop n s b = λ i. rw (get_or-drop n s i 0) (b (n + i))

pub bytes_right : (a b : List ℕ) → Bytes (a ++ b) → Bytes b
bytes_right a b h = λ i. rw (get_or-append-add a b i 0) at (h (length a + i))

pub bytes_take : (n : ℕ) (s : List ℕ) → Bytes s → Bytes (take n s)
bytes_take zero s b i = omega arith
bytes_take (suc n) [] b i = omega arith
bytes_take (suc n) (x ∷ xs) b zero = b 0
bytes_take (suc n) (x ∷ xs) b (suc i) = bytes_take n xs (λ j. b (suc j)) i

pub record ValueLaws {A : Type 0} (v : Value A) : Type 0 where
  pub size : (a : A) → v.fine a ≡ true → length (v.put a) ≡ v.len
  pub there : (a : A) (rest : List ℕ) → v.fine a ≡ true → v.get (v.put a ++ rest) ≡ Some a
  pub back : (l : List ℕ) (a : A) → Bytes l → v.len ≤ length l → v.get l ≡ Some a → (l ≡ v.put a ++ drop v.len l) × (v.fine a ≡ true)
  pub alike : (p r q : List ℕ) → length p ≡ v.len → v.get (p ++ r) ≡ v.get (p ++ q)

pub when_true : {A : Type 0} (t : Bool) (a b : A) → when t (Some a) ≡ Some b → (t ≡ true) × (a ≡ b)
when_true true a b h = (refl, cc)
when_true false a b h = cc

pub some_when : {A : Type 0} (t : Bool) (a : A) → then_some t a ≡ when t (Some a)
some_when true a = refl
some_when false a = refl

-- the bytes of what the first n bytes spell are those bytes
bytes_take_back : (n : ℕ) (l : List ℕ) → Bytes l → n ≤ length l → l ≡ bytes_of n (spelled 0 (take n l)) ++ drop n l
bytes_take_back n l b h =
    let e : length (take n l) ≡ n = length-take-le n l h in
    let d : bytes_of (length (take n l)) (spelled 0 (take n l)) ≡ take n l = bytes_spelled (take n l) (bytes_take n l b) in
    let d' : bytes_of n (spelled 0 (take n l)) ≡ take n l = ap (λ (k : ℕ). bytes_of k (spelled 0 (take n l))) (sym e) ∙ d in
    rw d' (sym (take-append-drop n l))

spelled_there : (n v : ℕ) (rest : List ℕ) → v < 256 ^ n → spelled 0 (take n (bytes_of n v ++ rest)) ≡ v
spelled_there n v rest h = rw (take_at (bytes_of n v) rest n (bytes_length n v)) (spelled_bytes n v h)

pub num_laws : (n lo hi : ℕ) → hi < 256 ^ n → ValueLaws (num n lo hi)
num_laws n lo hi h =
    record {
      size = λ a f. bytes_length n a;
      there = λ a rest f. there a rest f (spelled_there n a rest (lt_of_le_of_lt (leb-true a hi (and_right (leb lo a) (leb a hi) f)) h));
      back = λ l a b k g. back l a b k (when_true _ (spelled 0 (take n l)) a g);
      alike = λ p r q e. rw (take_at p r n e, take_at p q n e);
    }
  where
    there : (a : ℕ) (rest : List ℕ) → (leb lo a && leb a hi) ≡ true → spelled 0 (take n (bytes_of n a ++ rest)) ≡ a → (num n lo hi).get (bytes_of n a ++ rest) ≡ Some a
    there a rest f e = rw (e, f)

    back : (l : List ℕ) (a : ℕ) → Bytes l → n ≤ length l → ((leb lo (spelled 0 (take n l)) && leb (spelled 0 (take n l)) hi) ≡ true) × (spelled 0 (take n l) ≡ a) → (l ≡ bytes_of n a ++ drop n l) × ((leb lo a && leb a hi) ≡ true)
    back l a b k g = rw (← g.1) (bytes_take_back n l b k, g.0)

pub int_laws : (m : ℕ) → m < 2 ^ 63 → ValueLaws (int m)
int_laws m h =
    record {
      size = λ z f. bytes_length 8 (of_z w64 z);
      there = λ z rest f. there z rest f (fits z f);
      back = λ l z b k g. back l z b k (when_true _ (to_z w64 (spelled 0 (take 8 l))) z g);
      alike = λ p r q e. rw (take_at p r 8 e, take_at p q 8 e);
    }
  where
    fits : (z : ℤ) → leb (nat_abs z) m ≡ true → SFits w64 z
    fits (pos k) f = record { sfits = omega (arith, leb-true k m f) }
    fits (negsuc k) f = record { sfits = omega (arith, leb-true (suc k) m f) }

    there : (z : ℤ) (rest : List ℕ) → leb (nat_abs z) m ≡ true → SFits w64 z → (int m).get (bytes_of 8 (of_z w64 z) ++ rest) ≡ Some z
    there z rest f s = rw (spelled_there 8 (of_z w64 z) rest (of_z_fits w64 z s).fits, to_z-of_z w64 z s, f)

    back : (l : List ℕ) (z : ℤ) → Bytes l → 8 ≤ length l → (leb (nat_abs (to_z w64 (spelled 0 (take 8 l)))) m ≡ true) × (to_z w64 (spelled 0 (take 8 l)) ≡ z) → (l ≡ bytes_of 8 (of_z w64 z) ++ drop 8 l) × (leb (nat_abs z) m ≡ true)
    back l z b k g =
        let u : spelled 0 (take 8 l) < 2 ^ 64 = fits_word 8 (spelled 0 (take 8 l)) (omega arith) (spelled_small 8 l b k) in
        rw (← g.1) (rw (of_z-to_z w64 (spelled 0 (take 8 l)) (record { fits = u })) (bytes_take_back 8 l b k), g.0)

module _ {A B : Type 0} (v : Value A) (w : Value B) (lv : ValueLaws v) (lw : ValueLaws w) where
  pair_there : (a : A) (b : B) (rest : List ℕ) → (v.fine a && w.fine b) ≡ true → (pair v w).get ((v.put a ++ w.put b) ++ rest) ≡ Some (a, b)
  pair_there a b rest h =
      let ha : v.fine a ≡ true = and_left (v.fine a) (w.fine b) h in
      let hb : w.fine b ≡ true = and_right (v.fine a) (w.fine b) h in
      rw (append_assoc (v.put a) (w.put b) rest, lv.there a (w.put b ++ rest) ha, drop_at (v.put a) (w.put b ++ rest) v.len (lv.size a ha), lw.there b rest hb)

  pair_back2 : (l : List ℕ) (a : A) → (l ≡ v.put a ++ drop v.len l) × (v.fine a ≡ true) → Bytes l → v.len + w.len ≤ length l → (o : Option B) → w.get (drop v.len l) ≡ o → (p : A × B) → map_o (λ b. (a, b)) o ≡ Some p → (l ≡ (v.put p.0 ++ w.put p.1) ++ drop (v.len + w.len) l) × ((v.fine p.0 && w.fine p.1) ≡ true)
  pair_back2 l a k b h None e p g = cc
  pair_back2 l a k b h (Some y) e p g =
      let pe : (a, y) ≡ p = cc in
      let hl : w.len ≤ length (drop v.len l) = simp length-drop (omega arith) in
      let m = lw.back (drop v.len l) y (bytes_drop v.len l b) hl e in
      let q : drop w.len (drop v.len l) ≡ drop (v.len + w.len) l = drop-drop w.len v.len l in
      rw (← pe)
      (k.0 ∙ ap (λ (n : List ℕ). v.put a ++ n) (m.0 ∙ ap (λ (n : List ℕ). w.put y ++ n) q) ∙ sym (append_assoc (v.put a) (w.put y) (drop (v.len + w.len) l)), rw k.1 m.1)

  pair_back : (l : List ℕ) → Bytes l → v.len + w.len ≤ length l → (o : Option A) → v.get l ≡ o → (p : A × B) → bind_o o (λ a. map_o (λ b. (a, b)) (w.get (drop v.len l))) ≡ Some p → (l ≡ (v.put p.0 ++ w.put p.1) ++ drop (v.len + w.len) l) × ((v.fine p.0 && w.fine p.1) ≡ true)
  pair_back l b h None e p g = cc
  pair_back l b h (Some a) e p g = pair_back2 l a (lv.back l a b (omega arith) e) b h (w.get (drop v.len l)) refl p g

  pair_alike : (p r q : List ℕ) → length p ≡ v.len + w.len → (pair v w).get (p ++ r) ≡ (pair v w).get (p ++ q)
  pair_alike p r q e =
      let n : v.len ≤ length p = omega arith in
      let a : length (take v.len p) ≡ v.len = length-take-le v.len p n in
      let b : length (drop v.len p) ≡ w.len = simp length-drop (omega arith) in
      let s : (m : List ℕ) → p ++ m ≡ take v.len p ++ (drop v.len p ++ m) = λ m. ap (λ (x : List ℕ). x ++ m) (sym (take-append-drop v.len p)) ∙ append_assoc (take v.len p) (drop v.len p) m in
      let g : v.get (p ++ r) ≡ v.get (p ++ q) = ap v.get (s r) ∙ lv.alike (take v.len p) (drop v.len p ++ r) (drop v.len p ++ q) a ∙ ap v.get (sym (s q)) in
      rw (g, drop-append-le v.len p r n, drop-append-le v.len p q n, lw.alike (drop v.len p) r q b)

  pub pair_laws : ValueLaws (pair v w)
  pair_laws =
      record {
        size = λ p f. length-append (v.put p.0) (w.put p.1) ∙ ap₂ (λ (m n : ℕ). m + n) (lv.size p.0 (and_left (v.fine p.0) (w.fine p.1) f)) (lw.size p.1 (and_right (v.fine p.0) (w.fine p.1) f));
        there = λ p rest f. pair_there p.0 p.1 rest f;
        back = λ l p b h g. pair_back l b h (v.get l) refl p g;
        alike = pair_alike;
      }

module _ {A B : Type 0} (to : A → B) (from : B → A) (v : Value A) (tf : (b : B) → to (from b) ≡ b) (ft : (a : A) → from (to a) ≡ a) (lv : ValueLaws v) where
  map_back : (l : List ℕ) → Bytes l → v.len ≤ length l → (o : Option A) → v.get l ≡ o → (b : B) → map_o to o ≡ Some b → (l ≡ v.put (from b) ++ drop v.len l) × (v.fine (from b) ≡ true)
  map_back l by h None e b g = cc
  map_back l by h (Some a) e b g =
      let pe : to a ≡ b = cc in
      rw (← pe, ft a) (lv.back l a by h e)

  pub mapped_laws : ValueLaws (mapped to from v)
  mapped_laws =
      record {
        size = λ b f. lv.size (from b) f;
        there = λ b rest f. ap (map_o to) (lv.there (from b) rest f) ∙ ap Some (tf b);
        back = λ l b by h g. map_back l by h (v.get l) refl b g;
        alike = λ p r q e. ap (map_o to) (lv.alike p r q e);
      }

module _ {A : Type 0} (t : A → Bool) (v : Value A) (lv : ValueLaws v) where
  restricted_there : (a : A) (rest : List ℕ) → (v.fine a && t a) ≡ true → (restricted t v).get (v.put a ++ rest) ≡ Some a
  restricted_there a rest f = rw (lv.there a rest (and_left (v.fine a) (t a) f), and_right (v.fine a) (t a) f)

  restricted_back : (l : List ℕ) → Bytes l → v.len ≤ length l → (o : Option A) → v.get l ≡ o → (a : A) → bind_o o (λ x. when (t x) (Some x)) ≡ Some a → (l ≡ v.put a ++ drop v.len l) × ((v.fine a && t a) ≡ true)
  restricted_back l by h None e a g = cc
  restricted_back l by h (Some x) e a g =
      let w = when_true (t x) x a g in
      let k = lv.back l x by h e in
      rw (← w.1) (k.0, rw k.1 w.0)

  pub restricted_laws : ValueLaws (restricted t v)
  restricted_laws =
      record {
        size = λ a f. lv.size a (and_left (v.fine a) (t a) f);
        there = restricted_there;
        back = λ l a by h g. restricted_back l by h (v.get l) refl a g;
        alike = λ p r q e. ap (λ (o : Option A). bind_o o (λ x. when (t x) (Some x))) (lv.alike p r q e);
      }
