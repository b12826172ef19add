-- A field's head says where it ends, so bytes are whole fields in one way
-- only. Assumes nothing.
use mathlib.Core.Path.{◌≡◌, refl, sym, ap, ◌∙◌}
use mathlib.Core.Bool.{true}
use mathlib.Core.List.{List, [], ◌∷◌, ◌++◌, append_assoc, append-nil, append_cancel_left}
use Prim.Native.Nat.{ℕ}
use borrow.Author.Tests.{eqb-true}
use lib.ListN.{length, take}
use lib.Seq.{take_at}
use Rattle.lists.specs.Lists.{all}
use Rattle.lists.proofs.Tests.{and_left, and_right}
use Rattle.codec.specs.Theorems.{is_whole, joined}

-- the fields of two lists of fields, one after the other
pub joined_append : (fs gs : List (List ℕ)) → joined (fs ++ gs) ≡ joined fs ++ joined gs
unfolding joined
joined_append [] gs = refl
joined_append (f ∷ fs) gs = rw (joined_append fs gs, append_assoc f (joined fs) (joined gs))

-- a whole field has its head
pub no_empty : (f rest : List ℕ) → is_whole f ≡ true → f ++ rest ≡ [] → ⊥
unfolding is_whole
no_empty [] rest h e = cc
no_empty (x ∷ f) rest h e = cc

-- bytes begin with one whole field at most
same_first : (f g r q : List ℕ) → is_whole f ≡ true → is_whole g ≡ true → f ++ r ≡ g ++ q → f ≡ g
unfolding is_whole
same_first [] g r q h k e = cc
same_first (t ∷ []) g r q h k e = cc
same_first (t ∷ u ∷ []) g r q h k e = cc
same_first (t ∷ u ∷ v ∷ a) [] r q h k e = cc
same_first (t ∷ u ∷ v ∷ a) (x ∷ []) r q h k e = cc
same_first (t ∷ u ∷ v ∷ a) (x ∷ y ∷ []) r q h k e = cc
same_first (t ∷ u ∷ v ∷ a) (x ∷ y ∷ z ∷ b) r q h k e =
    let e1 : t ≡ x = cc in
    let e2 : u ≡ y = cc in
    let e3 : v ≡ z = cc in
    let e4 : a ++ r ≡ b ++ q = cc in
    let n : length a ≡ length b = sym (eqb-true _ (length a) h) ∙ (cc) ∙ eqb-true _ (length b) k in
    let e5 : a ≡ b = sym (take_at a r (length a) refl) ∙ ap (take (length a)) e4 ∙ take_at b q (length a) (sym n) in
    cc

-- where whole fields begin with the bytes of others, they begin with those fields, and the bytes behind are the rest of them
pub record Further (fs gs : List (List ℕ)) (rest : List ℕ) : Type 0 where
  pub more : List (List ℕ)
  pub is : gs ≡ fs ++ more
  pub whole : all is_whole more ≡ true
  pub left : rest ≡ joined more

pub further : (fs gs : List (List ℕ)) (rest : List ℕ) → all is_whole fs ≡ true → all is_whole gs ≡ true → joined fs ++ rest ≡ joined gs → Further fs gs rest
unfolding joined
further [] gs rest h k e = record { more = gs; is = refl; whole = k; left = e }
further (f ∷ fs) [] rest h k e =
    absurd (no_empty f (joined fs ++ rest) (and_left (is_whole f) (all is_whole fs) h) (sym (append_assoc f (joined fs) rest) ∙ e))
further (f ∷ fs) (g ∷ gs) rest h k e =
    let split : f ++ (joined fs ++ rest) ≡ g ++ joined gs = sym (append_assoc f (joined fs) rest) ∙ e in
    let s : f ≡ g = same_first f g (joined fs ++ rest) (joined gs) (and_left (is_whole f) (all is_whole fs) h) (and_left (is_whole g) (all is_whole gs) k) split in
    let tail : joined fs ++ rest ≡ joined gs = append_cancel_left f (joined fs ++ rest) (joined gs) (split ∙ ap (λ (m : List ℕ). m ++ joined gs) (sym s)) in
    let r = further fs gs rest (and_right (is_whole f) (all is_whole fs) h) (and_right (is_whole g) (all is_whole gs) k) tail in
    record { more = r.more; is = cc r.is; whole = r.whole; left = r.left }

-- bytes are whole fields in one way only
pub same_fields : (fs gs : List (List ℕ)) → all is_whole fs ≡ true → all is_whole gs ≡ true → joined fs ≡ joined gs → fs ≡ gs
unfolding joined
same_fields fs gs h k e = by r.more r.whole (sym r.left) r.is
  where
    r : Further fs gs []
    r = further fs gs [] h k (append-nil (joined fs) ∙ e)

    by : (more : List (List ℕ)) → all is_whole more ≡ true → joined more ≡ [] → gs ≡ fs ++ more → fs ≡ gs
    by [] w z s = sym (s ∙ append-nil fs)
    by (f ∷ more) w z s = absurd (no_empty f (joined more) (and_left (is_whole f) (all is_whole more) w) z)
