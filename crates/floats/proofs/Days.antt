-- Day numbers that may end in a half, read off a float by doubling, a cut, and comparing back. Assumes nothing.
use Rattle.std.proofs.Common.{◌≡◌, ℕ, zero, suc, ◌<◌, ◌≤◌, Bool, true, false, cond, ◌&&◌, T, leb, ℤ, pos, negsuc, sym, refl, ap, ◌∙◌, subst, arith, le-leb, leb-true}
use Rattle.std.specs.Prelude.{Option, Some, None}
use Rattle.std.specs.Bool.{then_some}
use Rattle.std.proofs.lemmas.Option.{none-some, same_Some}
use lib.Ieee.{Float, binary64, mul, of_int, eq, to_unsigned}
use lib.Ieee.Exact.{HasValue}
use Rattle.lists.proofs.Tests.{and_left, and_right, and_made}
use Rattle.floats.specs.Floats.{signed, times_of, between, half_days}
use Rattle.floats.proofs.Exactly.{of_int_law, half_exact, double_exact, one_half, two}
use Rattle.floats.proofs.Equal.{value, equal, cut}
use Rattle.floats.proofs.Times.{says, times_is, not_positive}

-- ---- what lies in a range is found
pub record Between (least most : ℕ) (found : Option ℤ) (n : ℕ) : Type 0 where
  pub is : found ≡ Some (pos n)
  pub low : least ≤ n
  pub high : n ≤ most

pub between_is : (least most : ℕ) (found : Option ℤ) (n : ℕ) → between least most found ≡ Some n → Between least most found n
between_is least most None n h = absurd (none-some _ h)
between_is least most (Some (negsuc k)) n h = absurd (none-some _ h)
between_is least most (Some (pos k)) n h = by (leb least k && leb k most) refl h
  where
    by : (b : Bool) → (leb least k && leb k most) ≡ b → cond b (Some k) None ≡ Some n → Between least most (Some (pos k)) n
    by false t h = absurd (none-some _ h)
    by true t h =
        let e : k ≡ n = same_Some _ _ h in record {
          is = ap (λ (i : ℕ). Some (pos i)) e;
          low = subst (λ (i : ℕ). least ≤ i) e (leb-true least k (and_left (leb least k) (leb k most) t));
          high = subst (λ (i : ℕ). i ≤ most) e (leb-true k most (and_right (leb least k) (leb k most) t));
        }

pub between_some : (least most n : ℕ) → least ≤ n → n ≤ most → between least most (Some (pos n)) ≡ Some n
between_some least most n l h = rw (and_made (le-leb least n l) (le-leb n most h)) refl

-- a positive number has no minus
pub positive : (x : Float) (c n : ℕ) → 0 < n → times_of c x ≡ Some (pos n) → HasValue x false n c
positive x c n l e = let s = says x c (pos n) e in by n l s.sign s.has s.is
  where
    by : (n : ℕ) → 0 < n → (b : Bool) → HasValue x b n c → signed b n ≡ pos n → HasValue x false n c
    by n l false p e = p
    by zero l true p e = absurd (lt_none l)
      where
        lt_none : 0 < 0 → ⊥
        lt_none h = omega arith
    by (suc n) l true p e = absurd (not_positive e)

-- where a test fails that every such number passes, there is none
no_days : (x : Float) → ((n : ℕ) → 122 ≤ n → n ≤ 146100 → HasValue x false n 2 → ⊥) → half_days x ≡ None
no_days x never = by (half_days x) refl
  where
    by : (found : Option ℕ) → half_days x ≡ found → found ≡ None
    by None e = refl
    by (Some n) e =
        let b = between_is 122 146100 (times_of 2 x) n e in
        absurd (never n b.low b.high (positive x 2 n (above b.low) b.is))
      where
        above : {n : ℕ} → 122 ≤ n → 0 < n
        above h = omega arith

twice : (x : Float) (n : ℕ) → 122 ≤ n → n ≤ 146100 → HasValue x false n 2 → HasValue (mul binary64 x two) false n 1
twice x n l h p = double_exact x n (omega arith) (omega arith) p

back : (n : ℕ) → 122 ≤ n → n ≤ 146100 → HasValue (mul binary64 (of_int binary64 (pos n)) one_half) false n 2
back n l h = half_exact (of_int binary64 (pos n)) n (omega arith) (omega arith) (of_int_law n (omega arith))

refuted : (b : Bool) → T b → b ≡ false → ⊥
refuted b t e = subst T e t

-- ---- the ways out of `halves_of`: k is the cut of the double
module _ (x : Float) where
  abbrev doubled : Float
  doubled = mul binary64 x two

  module _ (k : ℕ) (cut_of : k ≡ to_unsigned 64 doubled) where
    cut_is : (n : ℕ) → 122 ≤ n → n ≤ 146100 → HasValue x false n 2 → k ≡ n
    cut_is n l h p = cut_of ∙ cut doubled n (omega arith) (twice x n l h p)

    pub too_early : k < 122 → half_days x ≡ None
    too_early g = no_days x (λ n l h p. let e : k ≡ n = cut_is n l h p in omega arith)

    pub too_late : 146100 < k → half_days x ≡ None
    too_late g = no_days x (λ n l h p. let e : k ≡ n = cut_is n l h p in omega arith)

    not_halves : (y : Float) → y ≡ of_int binary64 (pos k) → eq (mul binary64 y one_half) x ≡ false → half_days x ≡ None
    not_halves y f g =
        no_days x (λ n l h p.
        refuted (eq (mul binary64 y one_half) x)
        (subst (λ (z : Float). T (eq (mul binary64 z one_half) x)) (sym (f ∙ ap (λ (j : ℕ). of_int binary64 (pos j)) (cut_is n l h p)))
        (equal (mul binary64 (of_int binary64 (pos n)) one_half) x false n 2 (omega arith) (back n l h) p)) g)

    are_halves : (y : Float) → y ≡ of_int binary64 (pos k) → 122 ≤ k → k ≤ 146100 → eq (mul binary64 y one_half) x ≡ true → half_days x ≡ Some k
    are_halves y f l h g =
        ap (between 122 146100)
        (times_is x false k 2
        (value (mul binary64 (of_int binary64 (pos k)) one_half) x false k 2 (omega arith) (back k l h)
        (subst (λ (z : Float). T (eq (mul binary64 z one_half) x)) f (subst T (sym g) tt))))
        ∙ between_some 122 146100 k l h

    pub halves_test : (y : Float) → y ≡ of_int binary64 (pos k) → 122 ≤ k → k ≤ 146100 → then_some (eq (mul binary64 y one_half) x) k ≡ half_days x
    halves_test y f l h = by (eq (mul binary64 y one_half) x) refl
      where
        by : (same : Bool) → eq (mul binary64 y one_half) x ≡ same → then_some same k ≡ half_days x
        by true e = sym (are_halves y f l h e)
        by false e = sym (not_halves y f e)
