-- Whole pounds and floats: out exactly, and back by a cut that is compared. Assumes nothing.
use Rattle.std.proofs.Common.{◌≡◌, ℕ, zero, suc, ◌^◌, ◌<◌, ◌≤◌, Bool, true, false, cond, T, leb, ℤ, pos, negsuc, nat_abs, sym, refl, ap, ◌∙◌, subst, true≢false, arith, ltb-false, le-ltb, le-leb, leb-true}
use Rattle.std.specs.Prelude.{Option, Some, None}
use Rattle.std.specs.Bool.{then_some}
use Rattle.std.proofs.lemmas.Option.{none-some, same_Some}
use lib.Signed.{lt_z}
use lib.Ieee.{Float, nan, inf, fin, binary64, fits, of_int, eq, to_signed}
use lib.Ieee.Fits.{of_int-fits}
use lib.Ieee.Bits.{is_true}
use lib.Ieee.Back.{whole_unique}
use lib.Ieee.Digits.{Equals}
use lib.Ieee.Exact.{HasValue}
use Rattle.floats.specs.Floats.{signed, whole_in, within, most_pounds, whole_pounds}
use Rattle.floats.proofs.Exactly.{whole}
use Rattle.floats.proofs.Equal.{size, value, equal, equal_zeros, cut_positive, cut_negative}
use Rattle.floats.proofs.Times.{Says, says, times_is, not_positive}

-- ---- out: the float of a whole number says that number
of_signed : (s : Bool) (a : ℕ) → a < 2 ^ 53 → whole_in (of_int binary64 (signed s a)) ≡ Some (signed s a)
unfolding of_int
of_signed false a h = times_is (of_int binary64 (pos a)) false a 1 (whole false a h)
of_signed true zero h = times_is (of_int binary64 (pos 0)) false 0 1 (whole false 0 h)
of_signed true (suc n) h = times_is (of_int binary64 (negsuc n)) true (suc n) 1 (whole true (suc n) h)

pub out_whole : (z : ℤ) → nat_abs z ≤ most_pounds → whole_in (of_int binary64 z) ≡ Some z
out_whole (pos n) h = of_signed false n (omega arith)
out_whole (negsuc n) h = of_signed true (suc n) (omega arith)

within_some : (most : ℕ) (z : ℤ) → nat_abs z ≤ most → within most (Some z) ≡ Some z
within_some most z h = rw (le-leb (nat_abs z) most h) refl

-- whole pounds go out and come back without loss
pub out_and_back : (z : ℤ) → nat_abs z ≤ most_pounds → whole_pounds (of_int binary64 z) ≡ Some z
out_and_back z h = ap (within most_pounds) (out_whole z h) ∙ within_some most_pounds z h

-- ---- what is within a limit is found, and small
pub record Within (most : ℕ) (found : Option ℤ) (z : ℤ) : Type 0 where
  pub is : found ≡ Some z
  pub small : nat_abs z ≤ most

pub within_is : (most : ℕ) (found : Option ℤ) (z : ℤ) → within most found ≡ Some z → Within most found z
within_is most None z h = absurd (none-some _ h)
within_is most (Some y) z h = by (leb (nat_abs y) most) refl h
  where
    by : (b : Bool) → leb (nat_abs y) most ≡ b → cond b (Some y) None ≡ Some z → Within most (Some y) z
    by false t h = absurd (none-some _ h)
    by true t h = record { is = h; small = subst (λ (v : ℤ). nat_abs v ≤ most) (same_Some _ _ h) (leb-true (nat_abs y) most t) }

-- where a test fails that every such number passes, there is none
pub no_pounds : (x : Float) → ((z : ℤ) → nat_abs z ≤ most_pounds → Says x 1 z → ⊥) → whole_pounds x ≡ None
no_pounds x never = by (whole_pounds x) refl
  where
    by : (found : Option ℤ) → whole_pounds x ≡ found → found ≡ None
    by None e = refl
    by (Some z) e = let w = within_is most_pounds (whole_in x) z e in absurd (never z w.small (says x 1 z w.is))

-- ---- what the tests and the cut make of a number
sized : (x : Float) (s : Bool) (a : ℕ) → HasValue x s a 1 → Equals x a 1
sized nan s a p = absurd p
sized (inf _) s a p = absurd p
sized (fin t m e) s a p = p.1

cut_is : (x : Float) (z : ℤ) → nat_abs z ≤ most_pounds → Says x 1 z → to_signed 63 x ≡ z
cut_is x z h s = by s.sign s.has ∙ s.is
  where
    by : (b : Bool) → HasValue x b (nat_abs z) 1 → to_signed 63 x ≡ signed b (nat_abs z)
    by false p = cut_positive x (nat_abs z) (omega arith) p
    by true p = cut_negative x (nat_abs z) (omega arith) p

same_signed : (x : Float) (s : Bool) (a : ℕ) → a < 2 ^ 53 → HasValue x s a 1 → T (eq (of_int binary64 (signed s a)) x)
unfolding of_int
same_signed x false a h p = equal (of_int binary64 (pos a)) x false a 1 (omega arith) (whole false a h) p
same_signed x true zero h p = equal_zeros x (sized x true 0 p)
same_signed x true (suc n) h p = equal (of_int binary64 (negsuc n)) x true (suc n) 1 (omega arith) (whole true (suc n) h) p

same : (x : Float) (z : ℤ) → nat_abs z ≤ most_pounds → Says x 1 z → T (eq (of_int binary64 z) x)
same x z h s = subst (λ (v : ℤ). T (eq (of_int binary64 v) x)) s.is (same_signed x s.sign (nat_abs z) (omega arith) s.has)

either_zero : (x : Float) → Equals x 0 1 → whole_in x ≡ Some (pos 0)
either_zero nan p = absurd p
either_zero (inf _) p = absurd p
either_zero (fin false m e) p = times_is (fin false m e) false 0 1 (refl, p)
either_zero (fin true m e) p = times_is (fin true m e) true 0 1 (refl, p)

found_whole : (x : Float) (z : ℤ) → nat_abs z ≤ most_pounds → T (eq (of_int binary64 z) x) → whole_in x ≡ Some z
unfolding of_int
found_whole x (pos zero) h t = either_zero x (size (of_int binary64 (pos 0)) x false 0 1 (whole false 0 (omega arith)) t)
found_whole x (pos (suc n)) h t =
    times_is x false (suc n) 1 (value (of_int binary64 (pos (suc n))) x false (suc n) 1 (omega arith) (whole false (suc n) (omega arith)) t)
found_whole x (negsuc n) h t =
    times_is x true (suc n) 1 (value (of_int binary64 (negsuc n)) x true (suc n) 1 (omega arith) (whole true (suc n) (omega arith)) t)

-- ---- the limit, as the code tests it
in_range : (z : ℤ) → lt_z z (negsuc 29999999999) ≡ false → lt_z (pos 30000000000) z ≡ false → nat_abs z ≤ most_pounds
in_range (pos n) l h = ltb-false 30000000000 n h
in_range (negsuc n) l h = let g : n ≤ 29999999999 = ltb-false 29999999999 n l in omega arith

not_less : (z : ℤ) → nat_abs z ≤ most_pounds → lt_z z (negsuc 29999999999) ≡ false
not_less (pos n) h = refl
not_less (negsuc n) h = le-ltb 29999999999 n (omega arith)

not_more : (z : ℤ) → nat_abs z ≤ most_pounds → lt_z (pos 30000000000) z ≡ false
not_more (pos n) h = le-ltb 30000000000 n h
not_more (negsuc n) h = refl

refuted : (b : Bool) → T b → b ≡ false → ⊥
refuted b t e = subst T e t

-- ---- the ways out of `whole_of`: n is the cut, w the same as the machine reads it back
module _ (x : Float) where
  module _ (n w : ℤ) (back : w ≡ n) (cut : n ≡ to_signed 63 x) where
    cut_back : (z : ℤ) → nat_abs z ≤ most_pounds → Says x 1 z → w ≡ z
    cut_back z h s = back ∙ cut ∙ cut_is x z h s

    pub too_small : lt_z w (negsuc 29999999999) ≡ true → whole_pounds x ≡ None
    too_small e =
        no_pounds x (λ z h s. true≢false (sym e ∙ ap (λ (v : ℤ). lt_z v (negsuc 29999999999)) (cut_back z h s) ∙ not_less z h))

    pub too_large : lt_z (pos 30000000000) w ≡ true → whole_pounds x ≡ None
    too_large e = no_pounds x (λ z h s. true≢false (sym e ∙ ap (λ (v : ℤ). lt_z (pos 30000000000) v) (cut_back z h s) ∙ not_more z h))

    not_whole : (y : Float) → y ≡ of_int binary64 w → eq y x ≡ false → whole_pounds x ≡ None
    not_whole y f e =
        no_pounds x
        (λ z h s. refuted (eq y x) (subst (λ (v : Float). T (eq v x)) (sym (f ∙ ap (of_int binary64) (cut_back z h s))) (same x z h s)) e)

    is_whole : (y : Float) → y ≡ of_int binary64 w → lt_z w (negsuc 29999999999) ≡ false → lt_z (pos 30000000000) w ≡ false → eq y x ≡ true
        → whole_pounds x ≡ Some w
    is_whole y f l h e =
        let small = in_range w l h in
        ap (within most_pounds) (found_whole x w small (subst (λ (v : Float). T (eq v x)) f (subst T (sym e) tt)))
        ∙ within_some most_pounds w small

    pub whole_test : (y : Float) → y ≡ of_int binary64 w → lt_z w (negsuc 29999999999) ≡ false → lt_z (pos 30000000000) w ≡ false
        → then_some (eq y x) w ≡ whole_pounds x
    whole_test y f l h = by (eq y x) refl
      where
        by : (same : Bool) → eq y x ≡ same → then_some same w ≡ whole_pounds x
        by true e = sym (is_whole y f l h e)
        by false e = sym (not_whole y f e)

-- ---- back and out again: a float that says a number but 0 is that number's
pub same_float : (x : Float) (z : ℤ) → T (fits binary64 x) → whole_pounds x ≡ Some z → (z ≡ pos 0 → ⊥) → of_int binary64 z ≡ x
same_float x z f e nonzero =
    let w = within_is most_pounds (whole_in x) z e in
    let s = says x 1 z w.is in
    let t = says (of_int binary64 z) 1 z (out_whole z w.small) in
    whole_unique binary64 (of_int binary64 z) x s.sign (nat_abs z) (of_int-fits binary64 z) f
    (subst (λ (b : Bool). HasValue (of_int binary64 z) b (nat_abs z) 1) (one_sign z t.sign s.sign nonzero t.is s.is) t.has) s.has
  where
    one_sign : (z : ℤ) (a b : Bool) → (z ≡ pos 0 → ⊥) → signed a (nat_abs z) ≡ z → signed b (nat_abs z) ≡ z → a ≡ b
    one_sign (pos zero) a b never p q = absurd (never refl)
    one_sign (pos (suc n)) false false never p q = refl
    one_sign (pos (suc n)) false true never p q = absurd (not_positive q)
    one_sign (pos (suc n)) true b never p q = absurd (not_positive p)
    one_sign (negsuc n) false b never p q = absurd (not_positive (sym p))
    one_sign (negsuc n) true false never p q = absurd (not_positive (sym q))
    one_sign (negsuc n) true true never p q = refl

-- ---- 0: both zeros are equal to 0.0, and nothing else is
pub zero_float : of_int binary64 (pos 0) ≡ fin false 0 (pos 0)
unfolding of_int fits
zero_float =
    whole_unique binary64 (of_int binary64 (pos 0)) (fin false 0 (pos 0)) false 0 (of_int-fits binary64 (pos 0)) tt (whole false 0 (omega arith)) (refl, refl)

pub nought : (x : Float) → whole_pounds x ≡ Some (pos 0) → eq (fin false 0 (pos 0)) x ≡ true
nought x e =
    let s = says x 1 (pos 0) (within_is most_pounds (whole_in x) (pos 0) e).is in
    is_true (eq (fin false 0 (pos 0)) x) (equal_zeros x (sized x s.sign 0 s.has))

pub not_nought : (x : Float) (z : ℤ) → whole_pounds x ≡ Some z → (z ≡ pos 0 → ⊥) → eq (fin false 0 (pos 0)) x ≡ false
not_nought x z e nonzero = by (eq (fin false 0 (pos 0)) x) refl
  where
    by : (b : Bool) → eq (fin false 0 (pos 0)) x ≡ b → b ≡ false
    by false t = refl
    by true t =
        let zero_is = either_zero x (size (fin false 0 (pos 0)) x false 0 1 (refl, refl) (subst T (sym t) tt)) in
        absurd (nonzero (sym (same_Some _ _ (sym zero_is ∙ (within_is most_pounds (whole_in x) z e).is))))
