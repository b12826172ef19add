-- What the lines count, added up one by one, is the licence's total. Assumes nothing.
use mathlib.Core.Path.{◌≡◌, refl, sym, ap, ◌∙◌}
use mathlib.Core.Bool.{true, false, cond, ◌||◌}
use mathlib.Core.List.{List, [], ◌∷◌}
use Prim.Native.Nat.{ℕ, zero, suc, ◌≤◌}
use native.Mathlib.Omega.{arith}
use lib.Dec.{ltb, eqb}
use lib.IntN.{ℤ, pos, neg_ℤ, ◌+ℤ◌, ◌-ℤ◌, +ℤ_idl, +ℤ_idr, +ℤ_assoc, +ℤ_comm, neg_ℤ-+ℤ}
use Rattle.lists.specs.Lists.{all}
use Rattle.lists.proofs.Tests.{and_left, and_right}
use Rattle.year.specs.declared.Line.{Line}
use Rattle.year.specs.Year.{good_line}
use Rattle.year.proofs.Says.{line_says}
use Rattle.revenue.specs.Revenue.{pounds_of, sum_of_kind, at_least_zero, NAR}
use Rattle.revenue.specs.Theorems.{counted_as, counted_of, summed_of}

-- ---- sums
-- two summands change places
swap : (a b c : ℤ) → (a +ℤ b) +ℤ c ≡ (a +ℤ c) +ℤ b
swap a b c = +ℤ_assoc a b c ∙ ap (λ (z : ℤ). a +ℤ z) (+ℤ_comm b c) ∙ sym (+ℤ_assoc a c b)

-- the middle two of four summands change places
cross : (a b c d : ℤ) → (a +ℤ b) +ℤ (c +ℤ d) ≡ (a +ℤ c) +ℤ (b +ℤ d)
cross a b c d = sym (+ℤ_assoc (a +ℤ b) c d) ∙ ap (λ (z : ℤ). z +ℤ d) (swap a b c) ∙ +ℤ_assoc (a +ℤ c) b d

-- a number and those of a list
abbrev added : ℤ → List ℤ → ℤ
added a [] = a
added a (x ∷ xs) = added (a +ℤ x) xs

-- a summand at the end goes to the front
apart : (a m : ℤ) (xs : List ℤ) → added a xs +ℤ m ≡ added (a +ℤ m) xs
apart a m [] = refl
apart a m (x ∷ xs) = apart (a +ℤ x) m xs ∙ ap (λ (z : ℤ). added z xs) (swap a x m)

-- of a list of pairs: their sums, their firsts, their seconds
abbrev sums : List (ℤ × ℤ) → List ℤ
sums [] = []
sums (p ∷ ps) = (p.0 +ℤ p.1) ∷ sums ps

abbrev firsts : List (ℤ × ℤ) → List ℤ
firsts [] = []
firsts (p ∷ ps) = p.0 ∷ firsts ps

abbrev seconds : List (ℤ × ℤ) → List ℤ
seconds [] = []
seconds (p ∷ ps) = p.1 ∷ seconds ps

-- a sum of sums, taken apart
parted : (a b : ℤ) (ps : List (ℤ × ℤ)) → added (a +ℤ b) (sums ps) ≡ added a (firsts ps) +ℤ added b (seconds ps)
parted a b [] = refl
parted a b (p ∷ ps) = ap (λ (z : ℤ). added z (sums ps)) (cross a b p.0 p.1) ∙ parted (a +ℤ p.0) (b +ℤ p.1) ps

-- ---- the total without capacity market revenue, of what each kind has
abbrev pub costs : (ℕ → ℤ) → ℤ
costs f = f 7 +ℤ f 8 +ℤ f 9

abbrev pub others : (ℕ → ℤ) → ℤ
others f = f 1 +ℤ f 6 +ℤ f 5 +ℤ f 4 +ℤ f 3 +ℤ f 10 -ℤ costs f -ℤ f 11

module _ (f g : ℕ → ℤ) where
  costs_apart : neg_ℤ (costs (λ k. f k +ℤ g k)) ≡ neg_ℤ (costs f) +ℤ neg_ℤ (costs g)
  costs_apart = ap neg_ℤ (parted (f 7) (g 7) ((f 8, g 8) ∷ (f 9, g 9) ∷ [])) ∙ neg_ℤ-+ℤ (costs f) (costs g)

  -- what comes in of both, with x and y
  abbrev receipts : ℤ → ℤ → ℤ
  receipts x y =
      added (f 1 +ℤ g 1) ((f 6 +ℤ g 6) ∷ (f 5 +ℤ g 5) ∷ (f 4 +ℤ g 4) ∷ (f 3 +ℤ g 3) ∷ (f 10 +ℤ g 10) ∷ x ∷ y ∷ [])

  others_apart : others (λ k. f k +ℤ g k) ≡ others f +ℤ others g
  others_apart =
      ap (λ (z : ℤ). receipts z (neg_ℤ (f 11 +ℤ g 11))) costs_apart
      ∙ ap (receipts (neg_ℤ (costs f) +ℤ neg_ℤ (costs g))) (neg_ℤ-+ℤ (f 11) (g 11))
      ∙ parted (f 1) (g 1) ((f 6, g 6) ∷ (f 5, g 5) ∷ (f 4, g 4) ∷ (f 3, g 3) ∷ (f 10, g 10) ∷ (neg_ℤ (costs f), neg_ℤ (costs g)) ∷ (neg_ℤ (f 11), neg_ℤ (g 11)) ∷ [])

-- ---- one line
-- what holds of 1 to 11 holds of each kind
kinds : (P : ℕ → Type 0) → P 1 → P 2 → P 3 → P 4 → P 5 → P 6 → P 7 → P 8 → P 9 → P 10 → P 11 → (k : ℕ) → 1 ≤ k → k ≤ 11 → P k
kinds P a b c d e f g h i j k zero l m = absurd (omega arith)
kinds P a b c d e f g h i j k (suc zero) l m = a
kinds P a b c d e f g h i j k (suc (suc zero)) l m = b
kinds P a b c d e f g h i j k (suc (suc (suc zero))) l m = c
kinds P a b c d e f g h i j k (suc (suc (suc (suc zero)))) l m = d
kinds P a b c d e f g h i j k (suc (suc (suc (suc (suc zero))))) l m = e
kinds P a b c d e f g h i j k (suc (suc (suc (suc (suc (suc zero)))))) l m = f
kinds P a b c d e f g h i j k (suc (suc (suc (suc (suc (suc (suc zero))))))) l m = g
kinds P a b c d e f g h i j k (suc (suc (suc (suc (suc (suc (suc (suc zero)))))))) l m = h
kinds P a b c d e f g h i j k (suc (suc (suc (suc (suc (suc (suc (suc (suc zero))))))))) l m = i
kinds P a b c d e f g h i j k (suc (suc (suc (suc (suc (suc (suc (suc (suc (suc zero)))))))))) l m = j
kinds P a b c d e f g h i j k (suc (suc (suc (suc (suc (suc (suc (suc (suc (suc (suc zero))))))))))) l m = k
kinds P a b c d e f g h i j k (suc (suc (suc (suc (suc (suc (suc (suc (suc (suc (suc (suc n)))))))))))) l m = absurd (omega arith)

-- nothing adds nothing
ruleset nothing = (+ℤ_idl, +ℤ_idr)

-- what a line counts is what it adds to its kind
one_line : (p : ℤ) (k : ℕ) → 1 ≤ k → k ≤ 11 → cond (eqb k 2) (pos 0) (cond (ltb k 7 || eqb k 10) p (neg_ℤ p)) ≡ others (λ i. cond (eqb k i) p (pos 0))
one_line p =
    kinds (λ k. cond (eqb k 2) (pos 0) (cond (ltb k 7 || eqb k 10) p (neg_ℤ p)) ≡ others (λ i. cond (eqb k i) p (pos 0)))
    (simp nothing)
    refl
    (simp nothing)
    (simp nothing)
    (simp nothing)
    (simp nothing)
    (simp nothing)
    (simp nothing)
    (simp nothing)
    (simp nothing)
    (simp nothing)

-- ---- the lines
module _ (rate : ℕ) where
  pub cmr_is : (ls : List Line) → summed_of true rate ls ≡ sum_of_kind 2 rate ls
  unfolding summed_of sum_of_kind counted_of counted_as
  cmr_is [] = refl
  cmr_is (l ∷ ls) = ap (λ (z : ℤ). cond (eqb l.kind 2) (pounds_of rate l) (pos 0) +ℤ z) (cmr_is ls)

  pub others_is : (ls : List Line) → all good_line ls ≡ true → summed_of false rate ls ≡ others (λ k. sum_of_kind k rate ls)
  unfolding summed_of sum_of_kind counted_of counted_as
  others_is [] e = refl
  others_is (l ∷ ls) e =
      let s = line_says l (and_left (good_line l) (all good_line ls) e) in
      ap (λ (z : ℤ). z +ℤ summed_of false rate ls)
      (one_line (pounds_of rate l) l.kind s.from_first s.to_last)
      ∙ ap (λ (z : ℤ). others (λ k. cond (eqb l.kind k) (pounds_of rate l) (pos 0)) +ℤ z) (others_is ls (and_right (good_line l) (all good_line ls) e))
      ∙ sym (others_apart (λ k. cond (eqb l.kind k) (pounds_of rate l) (pos 0)) (λ k. sum_of_kind k rate ls))

  -- the others, and capacity market revenue lifted to zero, are the total
  pub total_is : (ls : List Line) → all good_line ls ≡ true → summed_of false rate ls +ℤ at_least_zero (summed_of true rate ls) ≡ NAR rate ls
  total_is ls e =
      let kind_sum : ℕ → ℤ = λ k. sum_of_kind k rate ls in
      ap (λ (z : ℤ). z +ℤ at_least_zero (summed_of true rate ls)) (others_is ls e)
      ∙ ap (λ (z : ℤ). others kind_sum +ℤ at_least_zero z) (cmr_is ls)
      ∙ apart (kind_sum 1 +ℤ kind_sum 6) (at_least_zero (kind_sum 2)) (kind_sum 5 ∷ kind_sum 4 ∷ kind_sum 3 ∷ kind_sum 10 ∷ neg_ℤ (costs kind_sum) ∷ neg_ℤ (kind_sum 11) ∷ [])
