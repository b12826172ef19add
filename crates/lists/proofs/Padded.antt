-- Laws on a row of n slots, of which the first hold a list and the others z. Assumes nothing.
use mathlib.Core.Path.{◌≡◌, refl, sym, ap, ◌∙◌}
use mathlib.Core.Bool.{Bool, true}
use mathlib.Core.List.{List, [], ◌∷◌, ◌++◌}
use Prim.Native.Nat.{ℕ, zero, suc, ◌+◌, ◌-◌, ◌≤◌, ◌<◌}
use native.Mathlib.Omega.{arith}
use lib.ListN.{length, take, drop, set, replicate, length-append, length-drop, length-replicate, take-append-drop}
use lib.Seq.{set_at, set-append_seam, append_snoc, length-take-le, take-append_seam, drop-append_seam}
use Rattle.lists.specs.Lists.{all, padded}
use Rattle.lists.proofs.Tests.{and_left, and_right, and_made}

module _ {A : Type 0} (n : ℕ) (z : A) where
  pub padded_length : (l : List A) → length l ≤ n → length (padded n z l) ≡ n
  padded_length l h = length-append l (replicate (n - length l) z) ∙ omega (arith, length-replicate (n - length l) z)

  -- the first slots are the list
  pub padded_front : (l : List A) → take (length l) (padded n z l) ≡ l
  padded_front l = take-append_seam l (replicate (n - length l) z)

  -- one more is held
  pub padded_more : (l : List A) (a : A) (k : ℕ) → length l ≡ k → k < n → set (padded n z l) k a ≡ padded n z (l ++ (a ∷ []))
  padded_more l a k e h =
      let m : n - length l ≡ suc (n - (length l + 1)) = omega arith in
      rw (m, set_at l z (replicate (n - (length l + 1)) z) a k e, length-append l (a ∷ []), append_snoc l a (replicate (n - (length l + 1)) z))

  -- the last that is held is another
  pub padded_last : (front : List A) (a b : A) → set (padded n z (front ++ (a ∷ []))) (length front) b ≡ padded n z (front ++ (b ∷ []))
  padded_last front a b =
      let m : n - length (front ++ (a ∷ [])) ≡ n - length (front ++ (b ∷ [])) = omega (arith, length-append front (a ∷ []), length-append front (b ∷ [])) in
      let rest = replicate (n - length (front ++ (b ∷ []))) z in
      ap (λ (k : ℕ). set ((front ++ (a ∷ [])) ++ replicate k z) (length front) b) m
      ∙ ap (λ (l : List A). set l (length front) b) (append_snoc front a rest)
      ∙ set-append_seam front a rest b
      ∙ sym (append_snoc front b rest)

-- ---- a test that z passes, and nothing else
module _ {A : Type 0} (n : ℕ) (z : A) (is : A → Bool) where
  all_pass : is z ≡ true → (m : ℕ) → all is (replicate m z) ≡ true
  all_pass e zero = refl
  all_pass e (suc m) = and_made e (all_pass e m)

  -- the slots past the list pass
  pub padded_free : is z ≡ true → (l : List A) → all is (drop (length l) (padded n z l)) ≡ true
  padded_free e l = ap (all is) (drop-append_seam l (replicate (n - length l) z)) ∙ all_pass e (n - length l)

  module _ (only : (a : A) → is a ≡ true → a ≡ z) where
    all_are : (l : List A) → all is l ≡ true → l ≡ replicate (length l) z
    all_are [] e = refl
    all_are (a ∷ l) e =
        let p = only a (and_left (is a) (all is l) e) in
        let q = all_are l (and_right (is a) (all is l) e) in
        cc

    -- a row whose slots past the first k pass holds those
    pub padded_back : (row : List A) (k : ℕ) → length row ≡ n → k ≤ n → all is (drop k row) ≡ true → padded n z (take k row) ≡ row
    padded_back row k e h f =
        let m : n - length (take k row) ≡ length (drop k row) = omega (arith, length-take-le k row (omega arith), length-drop k row) in
        ap (λ (r : List A). take k row ++ r) (ap (λ (i : ℕ). replicate i z) m ∙ sym (all_are (drop k row) f)) ∙ take-append-drop k row
