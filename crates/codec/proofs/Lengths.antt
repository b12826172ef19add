-- How many bytes are written, and a list of fields written or tested one by one. Assumes nothing.
use mathlib.Core.Path.{◌≡◌, refl, sym, ap, ◌∙◌}
use mathlib.Core.Bool.{Bool, true, false}
use mathlib.Core.List.{List, [], ◌∷◌, ◌++◌, append_assoc, append-nil}
use Prim.Native.Nat.{ℕ, ◌+◌, ◌*◌, ◌≤◌, ◌<◌}
use native.Mathlib.Nat.{mul-zero, mul-suc}
use native.Mathlib.Omega.{arith}
use native.Mathlib.Numerals.{add-one}
use lib.ListN.{length, take, drop, get_or, length-append, length-drop, take-append-drop}
use lib.Seq.{append_snoc, take-suc, take-take}
use Rattle.lists.proofs.Tests.{and_left, and_right}
use Rattle.codec.specs.Format.{Value, Item, field_of, unless, texts, all_fine}
use Rattle.codec.specs.Theorems.{sizes}
use Rattle.codec.proofs.Values.{ValueLaws}
use Rattle.codec.proofs.Items.{ItemLaws, length_head}

-- ---- lengths

pub field_length : {A : Type 0} (tag : ℕ) (v : Value A) → ValueLaws v → (a : A) → v.fine a ≡ true → length (field_of tag v a) ≡ 3 + v.len
unfolding field_of
field_length tag v l a h = rw (length-append, length_head, l.size a h)

pub unless_length : (t : Bool) (bs : List ℕ) (n : ℕ) → (t ≡ false → length bs ≡ n) → length (unless t bs) ≤ n
unless_length true bs n h = omega arith
unless_length false bs n h = omega (arith, h refl)

-- a field that may be written is as long as its size
pub item_length : {A : Type 0} (f : Item A) → ItemLaws f → (a : A) → f.fine a ≡ true → length (f.text a) ≡ f.size a
item_length f l a h =
    let e : drop (f.size a) (f.text a) ≡ [] = ap (drop (f.size a)) (sym (append-nil (f.text a))) ∙ l.after a [] h in
    let t = (l.taken (f.text a ++ []) a (l.there a [] h)).1 in
    omega (arith, ap length e, length-drop (f.size a) (f.text a), rw (append-nil (f.text a)) at t)

-- fields that may be written are as long as their sizes together
pub texts_length : {A : Type 0} (f : List A → Item A) → ((before : List A) → ItemLaws (f before)) → (before l : List A) → all_fine f before l ≡ true → length (texts f before l) ≡ sizes f before l
unfolding texts all_fine sizes
texts_length f h before [] a = refl
texts_length f h before (x ∷ l) a =
    let e = item_length (f before) (h before) x (and_left ((f before).fine x) (all_fine f (before ++ (x ∷ [])) l) a) in
    let r = texts_length f h (before ++ (x ∷ [])) l (and_right ((f before).fine x) (all_fine f (before ++ (x ∷ [])) l) a) in
    rw (length-append ((f before).text x) (texts f (before ++ (x ∷ [])) l), e, r)

-- so are all, where each of them is
pub texts_size : {A : Type 0} (f : List A → Item A) → ((before : List A) (a : A) → length ((f before).text a) ≡ (f before).size a) → (before l : List A) → length (texts f before l) ≡ sizes f before l
unfolding texts sizes
texts_size f h before [] = refl
texts_size f h before (x ∷ l) = rw (length-append ((f before).text x) (texts f (before ++ (x ∷ [])) l), h before x, texts_size f h (before ++ (x ∷ [])) l)

-- fields of at most k bytes each, and of k each
pub sizes_most : {A : Type 0} (f : List A → Item A) (k : ℕ) → ((before : List A) (a : A) → (f before).size a ≤ k) → (before l : List A) → sizes f before l ≤ k * length l
unfolding sizes
sizes_most f k h before [] = omega (arith, mul-zero k)
sizes_most f k h before (x ∷ l) = omega (arith, h before x, sizes_most f k h (before ++ (x ∷ [])) l, mul-suc k (length l))

pub sizes_same : {A : Type 0} (f : List A → Item A) (k : ℕ) → ((before : List A) (a : A) → (f before).size a ≡ k) → (before l : List A) → sizes f before l ≡ k * length l
unfolding sizes
sizes_same f k h before [] = omega (arith, mul-zero k)
sizes_same f k h before (x ∷ l) = omega (arith, h before x, sizes_same f k h (before ++ (x ∷ [])) l, mul-suc k (length l))

-- ---- loops over the first n of a list: one more

module _ {A : Type 0} (f : List A → Item A) (d : A) where
  texts_snoc : (before l : List A) (a : A) → texts f before (l ++ (a ∷ [])) ≡ texts f before l ++ (f (before ++ l)).text a
  unfolding texts
  texts_snoc before [] a = rw (append-nil before, append-nil ((f before).text a))
  texts_snoc before (x ∷ l) a =
      rw (texts_snoc (before ++ (x ∷ [])) l a, append_snoc before x l, append_assoc ((f before).text x) (texts f (before ++ (x ∷ [])) l) ((f (before ++ (x ∷ l))).text a))

  texts_front : (before a b : List A) → length (texts f before a) ≤ length (texts f before (a ++ b))
  unfolding texts
  texts_front before [] b = omega arith
  texts_front before (x ∷ a) b =
      let k = texts_front (before ++ (x ∷ [])) a b in
      simp length-append (omega arith)

  pub texts_more : (l : List A) (i : ℕ) → i < length l → texts f [] (take (i + 1) l) ≡ texts f [] (take i l) ++ (f (take i l)).text (get_or l i d)
  texts_more l i h = rw (add-one i, take-suc l i d h) (texts_snoc [] (take i l) (get_or l i d))

  -- those before a place and the one there are not longer than all
  pub texts_within : (l : List A) (n i : ℕ) → i < n → n ≤ length l → length (texts f [] (take i l)) + length ((f (take i l)).text (get_or l i d)) ≤ length (texts f [] (take n l))
  texts_within l n i h k =
      let m : i + 1 ≤ n = omega arith in
      let e : take n l ≡ take (i + 1) l ++ drop (i + 1) (take n l) = sym (take-append-drop (i + 1) (take n l)) ∙ ap (λ (r : List A). r ++ drop (i + 1) (take n l)) (take-take (i + 1) n l m) in
      let one : length (texts f [] (take (i + 1) l)) ≡ length (texts f [] (take i l)) + length ((f (take i l)).text (get_or l i d)) =
      ap length (texts_more l i (omega arith)) ∙ length-append (texts f [] (take i l)) ((f (take i l)).text (get_or l i d)) in
      omega (arith, ap (λ (r : List A). length (texts f [] r)) e, texts_front [] (take (i + 1) l) (drop (i + 1) (take n l)))
