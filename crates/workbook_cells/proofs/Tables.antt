-- Lists by their index, and the first index that a test holds at. Assumes nothing.
use mathlib.Core.Path.{◌≡◌, refl, sym, ap, ◌∙◌}
use mathlib.Core.Logic.{◌⊎◌, inl, inr}
use mathlib.Core.Bool.{Bool, true, false, not, cond, true≢false}
use mathlib.Core.List.{List, [], ◌∷◌, ◌++◌, append-nil}
use Prim.Native.Nat.{ℕ, zero, suc, ◌+◌, ◌-◌, ◌≤◌, ◌<◌}
use native.Mathlib.Omega.{arith}
use native.Mathlib.Numerals.{add-one}
use native.Mathlib.Nat.{not-suc-le-zero, le_refl, zero-add, add-zero, add-suc, suc-add}
use borrow.Author.Tests.{lt-ltb, le-ltb}
use lib.Dec.{ltb}
use lib.ListN.{length, get_or, set, replicate, length-append}
use lib.Seq.{append_snoc}
use Rattle.std.specs.Prelude.{MatchBool, HoldsAt}
use Rattle.std.specs.List.{AllWithin, range_with_len}
use Rattle.std.proofs.lemmas.List.FromFn.{length-range_with_len, get_or-range_with_len, length-map-range_with_len, get_or-map-range_with_len, map-range_with_len_more, fill_by_all}
use Rattle.lists.specs.Lists.{padded}
use Rattle.lists.proofs.Tests.{le_or_lt}
use Rattle.lists.proofs.Padded.{padded_more}
use Rattle.workbook_cells.specs.Workbook.{tabulated, first_from}

-- ---- f of 0 to before n
module _ {A : Type 0} (f : ℕ → A) where
  pub tabulated_length : (n : ℕ) → length (tabulated f n) ≡ n
  unfolding tabulated
  tabulated_length n = length-map-range_with_len f 0 n

  -- one more
  pub tabulated_more : (m : ℕ) (z : A) (n : ℕ) → n < m → set (padded m z (tabulated f n)) n (f n) ≡ padded m z (tabulated f (n + 1))
  unfolding tabulated
  tabulated_more m z n h =
      padded_more m z (tabulated f n) (f n) n (tabulated_length n) h
      ∙ sym (ap (padded m z) (map-range_with_len_more f 0 n n (omega arith)))

  -- what stands at an index
  pub tabulated_at : (n i : ℕ) (d : A) → i < n → get_or (tabulated f n) i d ≡ f i
  unfolding tabulated
  tabulated_at n i d h = get_or-map-range_with_len f 0 n i i d h (omega arith)

  -- a list of such elements
  pub tabulated_is : (l : List A) (n : ℕ) (d : A) → length l ≡ n → ((i : ℕ) → i < n → get_or l i d ≡ f i) → l ≡ tabulated f n
  unfolding tabulated
  tabulated_is l n d e h = fill_by_all f l n d e h

-- ---- the last three of a row
module _ {A : Type 0} (n : ℕ) (e : A) where
  pub three_set : (front : List A) (x y z : A) (k : ℕ) → length front ≡ k → k + 3 ≡ n
      → set (set (set (padded n e front) k x) (k + 1) y) (k + 2) z ≡ front ++ (x ∷ y ∷ z ∷ [])
  three_set front x y z k l h =
      let a = front ++ (x ∷ []) in
      let b = a ++ (y ∷ []) in
      let c = b ++ (z ∷ []) in
      let la : length a ≡ k + 1 = length-append front (x ∷ []) ∙ omega arith in
      let lb : length b ≡ k + 2 = length-append a (y ∷ []) ∙ omega arith in
      let lc : length c ≡ n = length-append b (z ∷ []) ∙ omega arith in
      let none : n - length c ≡ 0 = omega arith in
      ap (λ (r : List A). set (set r (k + 1) y) (k + 2) z) (padded_more n e front x k l (omega arith))
      ∙ ap (λ (r : List A). set r (k + 2) z) (padded_more n e a y (k + 1) la (omega arith))
      ∙ padded_more n e b z (k + 2) lb (omega arith)
      ∙ ap (λ (i : ℕ). c ++ replicate i e) none
      ∙ append-nil c
      ∙ append_snoc a y (z ∷ [])
      ∙ append_snoc front x (y ∷ z ∷ [])

-- ---- the first index that a test holds at
module _ (bad : ℕ → Bool) where
  pub first_here : (n at : ℕ) → bad at ≡ true → first_from bad (suc n) at ≡ at
  unfolding first_from
  first_here n at e = ap (λ (b : Bool). cond b at (first_from bad n (suc at))) e

  pub first_on : (n at : ℕ) → bad at ≡ false → first_from bad (suc n) at ≡ first_from bad n (suc at)
  unfolding first_from
  first_on n at e = ap (λ (b : Bool). cond b at (first_from bad n (suc at))) e

  -- from one index to before another, as a loop goes
  pub stops : (to i : ℕ) → i < to → bad i ≡ true → first_from bad (to - i) i ≡ i
  stops to i h e = let n : to - i ≡ suc (to - (i + 1)) = omega arith in ap (λ (k : ℕ). first_from bad k i) n ∙ first_here (to - (i + 1)) i e

  pub goes_on : (to i : ℕ) → i < to → bad i ≡ false → first_from bad (to - (i + 1)) (i + 1) ≡ first_from bad (to - i) i
  goes_on to i h e =
      let n : to - i ≡ suc (to - (i + 1)) = omega arith in
      ap (first_from bad (to - (i + 1))) (add-one i) ∙ sym (ap (λ (k : ℕ). first_from bad k i) n ∙ first_on (to - (i + 1)) i e)

  pub ends : (to i : ℕ) → i ≤ to → to ≤ i → first_from bad (to - i) i ≡ to
  unfolding first_from
  ends to i h l = let n : to - i ≡ 0 = omega arith in let e : i ≡ to = omega arith in ap (λ (k : ℕ). first_from bad k i) n ∙ e

  -- where it lies at most
  pub first_most : (n at : ℕ) → first_from bad n at ≤ at + n
  unfolding first_from
  first_most zero at = omega arith
  first_most (suc n) at = by (bad at) (first_most n (suc at))
    where
      by : (b : Bool) → first_from bad n (suc at) ≤ suc at + n → cond b at (first_from bad n (suc at)) ≤ at + suc n
      by true h = omega arith
      by false h = omega arith

  -- n indices and then m more
  pub first_split : (n m at : ℕ) → first_from bad (n + m) at ≡ cond (ltb (first_from bad n at) (at + n)) (first_from bad n at) (first_from bad m (at + n))
  unfolding first_from
  first_split zero m at =
      ap (λ (k : ℕ). first_from bad k at) (zero-add m)
      ∙ ap (first_from bad m) (sym (add-zero at))
      ∙ sym (ap (λ (b : Bool). cond b at (first_from bad m (at + 0))) (le-ltb at (at + 0) (omega arith)))
  first_split (suc n) m at = ap (λ (k : ℕ). first_from bad k at) (suc-add n m) ∙ by (bad at) (first_split n m (suc at))
    where
      by : (b : Bool) → first_from bad (n + m) (suc at) ≡ cond (ltb (first_from bad n (suc at)) (suc at + n)) (first_from bad n (suc at)) (first_from bad m (suc at + n))
          → cond b at (first_from bad (n + m) (suc at))
          ≡ cond (ltb (cond b at (first_from bad n (suc at))) (at + suc n)) (cond b at (first_from bad n (suc at))) (first_from bad m (at + suc n))
      by true h = sym (ap (λ (t : Bool). cond t at (first_from bad m (at + suc n))) (lt-ltb at (at + suc n) (omega arith)))
      by false h =
          h
          ∙ ap (λ (k : ℕ). cond (ltb (first_from bad n (suc at)) k) (first_from bad n (suc at)) (first_from bad m k)) (sym (add-suc at n ∙ sym (suc-add at n)))

  -- none of the first n: the test holds at none of them
  pub first_none : (n at : ℕ) → first_from bad n at ≡ at + n → (i : ℕ) → at ≤ i → i < at + n → bad i ≡ false
  unfolding first_from
  first_none zero at e i l h = absurd (not-suc-le-zero {n = 0} (omega arith))
  first_none (suc n) at e i l h = by (bad at) refl e (le_or_lt (suc at) i) (λ e g k. first_none n (suc at) e i g k)
    where
      by : (b : Bool) → bad at ≡ b → cond b at (first_from bad n (suc at)) ≡ at + suc n → (suc at ≤ i) ⊎ (i < suc at)
          → (first_from bad n (suc at) ≡ suc at + n → suc at ≤ i → i < suc at + n → bad i ≡ false) → bad i ≡ false
      by true t e side later = absurd (not-suc-le-zero {n = 0} (omega arith))
      by false t e (inl g) later = later (omega arith) g (omega arith)
      by false t e (inr g) later = let same : i ≡ at = omega arith in ap bad same ∙ t

  pub none_first : (n at : ℕ) → ((i : ℕ) → at ≤ i → i < at + n → bad i ≡ false) → first_from bad n at ≡ at + n
  unfolding first_from
  none_first zero at h = sym (add-zero at)
  none_first (suc n) at h =
      ap (λ (b : Bool). cond b at (first_from bad n (suc at))) (h at (le_refl at) (omega arith))
      ∙ none_first n (suc at) (λ i l g. h i (omega arith) (omega arith))
      ∙ omega arith

  -- where it holds at one of them, there is a first: it holds there, and at none before
  pub first_below : (n at i : ℕ) → at ≤ i → i < at + n → bad i ≡ true → first_from bad n at < at + n
  first_below n at i l h e = by (le_or_lt (at + n) (first_from bad n at))
    where
      by : (at + n ≤ first_from bad n at) ⊎ (first_from bad n at < at + n) → first_from bad n at < at + n
      by (inr g) = g
      by (inl g) = absurd (true≢false (sym e ∙ first_none n at (omega (arith, first_most n at)) i l h))

  pub first_found : (n at : ℕ) → first_from bad n at < at + n
      → (bad (first_from bad n at) ≡ true) × ((j : ℕ) → at ≤ j → j < first_from bad n at → bad j ≡ false)
  unfolding first_from
  first_found zero at h = absurd (not-suc-le-zero {n = 0} (omega arith))
  first_found (suc n) at h = by (bad at) refl h (first_found n (suc at))
    where
      by : (b : Bool) → bad at ≡ b → cond b at (first_from bad n (suc at)) < at + suc n
          → (first_from bad n (suc at) < suc at + n → (bad (first_from bad n (suc at)) ≡ true) × ((j : ℕ) → suc at ≤ j → j < first_from bad n (suc at) → bad j ≡ false))
          → (bad (cond b at (first_from bad n (suc at))) ≡ true) × ((j : ℕ) → at ≤ j → j < cond b at (first_from bad n (suc at)) → bad j ≡ false)
      by true e h later = (e, λ j l g. absurd (not-suc-le-zero {n = 0} (omega arith)))
      by false e h later =
          let f = later (omega arith) in (
            f.0,
            λ j l g. before j l (le_or_lt (suc at) j) (λ m. f.1 j m g),
          )
        where
          before : (j : ℕ) → at ≤ j → (suc at ≤ j) ⊎ (j < suc at) → (suc at ≤ j → bad j ≡ false) → bad j ≡ false
          before j l (inl m) past = past m
          before j l (inr m) past = let same : j ≡ at = omega arith in ap bad same ∙ e

  -- by a test of each index in turn
  pub each_tested : (n at : ℕ) (r : Bool)
      → MatchBool r (AllWithin (λ i. bad i ≡ false) (range_with_len at n) 0 (length (range_with_len at n)))
      ((k : ℕ) × (k < length (range_with_len at n)) × HoldsAt (λ i. bad i ≡ true) (range_with_len at n) k)
      → r ≡ not (ltb (first_from bad n at) (at + n))
  each_tested n at true h = sym (ap not (le-ltb (first_from bad n at) (at + n) (omega (arith, none_first n at none))))
    where
      none : (i : ℕ) → at ≤ i → i < at + n → bad i ≡ false
      none i l g =
          let here : at + (i - at) ≡ i = omega arith in
          sym (ap bad (get_or-range_with_len at n (i - at) 0 (omega arith) ∙ here)) ∙ h (i - at) 0 (omega arith) (omega (arith, length-range_with_len at n))
  each_tested n at false h =
      let k = h.0 in
      let less : k < n = omega (arith, h.1, length-range_with_len at n) in
      sym (ap not (lt-ltb (first_from bad n at) (at + n) (first_below n at (at + k) (omega arith) (omega arith) (sym (ap bad (get_or-range_with_len at n k 0 less)) ∙ h.2 0))))

-- two tests that agree have one first index
pub first_same : (bad other : ℕ → Bool) (n at : ℕ) → ((i : ℕ) → at ≤ i → i < at + n → bad i ≡ other i) → first_from bad n at ≡ first_from other n at
unfolding first_from
first_same bad other zero at h = refl
first_same bad other (suc n) at h =
    ap (λ (b : Bool). cond b at (first_from bad n (suc at))) (h at (le_refl at) (omega arith))
    ∙ ap (λ (k : ℕ). cond (other at) at k) (first_same bad other n (suc at) (λ i l g. h i (omega arith) (omega arith)))
