-- What `==` and a cut say of floats whose numbers are known. Assumes nothing.
use Rattle.std.proofs.Common.{◌≡◌, ℕ, zero, suc, ◌-◌, ◌*◌, ◌/◌, ◌^◌, ◌<◌, min, Bool, true, false, ◌||◌, T, eqb, ◌⊎◌, pos, neg_ℤ, sym, refl, ap, ◌∙◌, subst, inl, inr, true≢false, lt_irrefl, mul-pos, zero-mul, mul-one, mul_right_comm, mul-div_cancel, arith, eqb→eq}
use mathlib.Core.Bool.{beq}
use native.Mathlib.Nat.{eq_of_mul-eq-mul_right}
use lib.Ieee.{Float, nan, inf, fin, up, down, eq, to_unsigned, to_signed}
use lib.Ieee.Fits.{down_pos, and_l, and_r, and_i, eq→eqb}
use lib.Ieee.Digits.{Equals}
use lib.Ieee.Exact.{HasValue}

-- ---- tests
or_case : (a b : Bool) → T (a || b) → T a ⊎ T b
or_case true b t = inl tt
or_case false b t = inr t

or_first : (a b : Bool) → T a → T (a || b)
or_first true b t = tt
or_first false b t = absurd t

or_second : (a b : Bool) → T b → T (a || b)
or_second true b t = tt
or_second false b t = t

same_sign : (s t : Bool) → T (beq s t) → s ≡ t
same_sign true true h = refl
same_sign true false h = absurd h
same_sign false true h = absurd h
same_sign false false h = refl

own_sign : (s : Bool) → T (beq s s)
own_sign true = tt
own_sign false = tt

-- ---- `==`: equal floats have equal sizes, and equal signs but for a zero
pub size : (y x : Float) (s : Bool) (a c : ℕ) → HasValue y s a c → T (eq y x) → Equals x a c
unfolding eq
size nan _ s a c p t = absurd p
size (inf _) _ s a c p t = absurd p
size (fin u m e) nan s a c p t = t
size (fin u m e) (inf v) s a c p t = t
size (fin u m e) (fin v n d) s a c p t =
    let A = m * up e * down d in
    let B = n * up d * down e in
    let same : A ≡ B = eqb→eq A B (and_l (eqb A B) (beq u v || eqb A 0) t) in
    eq_of_mul-eq-mul_right (down e) (down_pos e) (n * up d * c) (a * down d)
    (mul_right_comm (n * up d) c (down e)
    ∙ ap (λ (k : ℕ). k * c) (sym same)
    ∙ mul_right_comm (m * up e) (down d) c
    ∙ ap (λ (k : ℕ). k * down d) p.1
    ∙ mul_right_comm a (down e) (down d))

pub value : (y x : Float) (s : Bool) (a c : ℕ) → 0 < a → HasValue y s a c → T (eq y x) → HasValue x s a c
unfolding eq
value nan _ s a c P p t = absurd p
value (inf _) _ s a c P p t = absurd p
value (fin u m e) nan s a c P p t = t
value (fin u m e) (inf v) s a c P p t = t
value (fin u m e) (fin v n d) s a c P p t =
    let A = m * up e * down d in
    let B = n * up d * down e in
    let some_size : A ≡ 0 → ⊥ = λ z. nothing (m * up e) (down d) c (a * down e) z p.1 (mul-pos P (down_pos e)) (down_pos d) in
    elim (or_case (beq u v) (eqb A 0) (and_r (eqb A B) (beq u v || eqb A 0) t)) [
      | inl b ↦ (sym (same_sign u v b) ∙ p.0, size (fin u m e) (fin v n d) s a c p t)
      | inr z ↦ absurd (some_size (eqb→eq A 0 z))
    ]
  where
    above : (k : ℕ) → 0 < suc k
    above k = omega arith

    nothing : (x d c b : ℕ) → x * d ≡ 0 → x * c ≡ b → 0 < b → 0 < d → ⊥
    nothing zero d c b z h B D = lt_irrefl 0 (subst (λ (k : ℕ). 0 < k) (sym h ∙ zero-mul c) B)
    nothing (suc x) d c b z h B D = lt_irrefl 0 (subst (λ (k : ℕ). 0 < k) z (mul-pos (above x) D))

pub equal : (y x : Float) (s : Bool) (a c : ℕ) → 0 < c → HasValue y s a c → HasValue x s a c → T (eq y x)
unfolding eq
equal nan _ s a c C p q = absurd p
equal (inf _) _ s a c C p q = absurd p
equal (fin u m e) nan s a c C p q = absurd q
equal (fin u m e) (inf _) s a c C p q = absurd q
equal (fin u m e) (fin v n d) s a c C p q =
    let A = m * up e * down d in
    let B = n * up d * down e in
    let same : A ≡ B =
    eq_of_mul-eq-mul_right c C A B
    (mul_right_comm (m * up e) (down d) c
    ∙ ap (λ (k : ℕ). k * down d) p.1
    ∙ mul_right_comm a (down e) (down d)
    ∙ ap (λ (k : ℕ). k * down e) (sym q.1)
    ∙ mul_right_comm (n * up d) c (down e)) in
    and_i (eqb A B) (beq u v || eqb A 0) (eq→eqb same)
    (or_first (beq u v) (eqb A 0) (subst (λ (b : Bool). T (beq u b)) (p.0 ∙ sym q.0) (own_sign u)))

pub equal_zeros : (x : Float) → Equals x 0 1 → T (eq (fin false 0 (pos 0)) x)
unfolding eq
equal_zeros nan p = absurd p
equal_zeros (inf _) p = absurd p
equal_zeros (fin t m e) p =
    and_i (eqb (0 * down e) (m * up e * 1)) (beq false t || eqb (0 * down e) 0) (eq→eqb {a = 0 * down e} {b = m * up e * 1} (sym p))
    (or_second (beq false t) (eqb (0 * down e) 0) (eq→eqb {a = 0 * down e} {b = 0} (zero-mul (down e))))

-- ---- the cut of a whole number
bare : (x a d : ℕ) → x * 1 ≡ a * d → x ≡ a * d
bare x a d h = sym (mul-one x) ∙ h

whole_part : (m d a : ℕ) → 0 < d → m * 1 ≡ a * d → m / d ≡ a
whole_part m d a D p = ap (λ (k : ℕ). k / d) (bare m a d p) ∙ mul-div_cancel a D

pub cut : (x : Float) (a : ℕ) → a < 2 ^ 64 → HasValue x false a 1 → to_unsigned 64 x ≡ a
unfolding to_unsigned
cut nan a h p = absurd p
cut (inf _) a h p = absurd p
cut (fin true n d) a h p = absurd (true≢false p.0)
cut (fin false n d) a h p = ap (λ (k : ℕ). min k (2 ^ 64 - 1)) (whole_part (n * up d) (down d) a (down_pos d) p.1) ∙ low a h
  where
    low : (k : ℕ) → k < 2 ^ 64 → min k (2 ^ 64 - 1) ≡ k
    low k l = omega arith

-- ---- the same with a sign
pub cut_positive : (x : Float) (a : ℕ) → a < 2 ^ 63 → HasValue x false a 1 → to_signed 63 x ≡ pos a
unfolding to_signed
cut_positive nan a h p = absurd p
cut_positive (inf _) a h p = absurd p
cut_positive (fin true m e) a h p = absurd (true≢false p.0)
cut_positive (fin false m e) a h p = ap (λ (k : ℕ). pos (min k (2 ^ 63 - 1))) (whole_part (m * up e) (down e) a (down_pos e) p.1) ∙ ap pos (low a h)
  where
    low : (k : ℕ) → k < 2 ^ 63 → min k (2 ^ 63 - 1) ≡ k
    low k l = omega arith

pub cut_negative : (x : Float) (a : ℕ) → a < 2 ^ 63 → HasValue x true a 1 → to_signed 63 x ≡ neg_ℤ (pos a)
unfolding to_signed
cut_negative nan a h p = absurd p
cut_negative (inf _) a h p = absurd p
cut_negative (fin false m e) a h p = absurd (true≢false (sym p.0))
cut_negative (fin true m e) a h p =
    ap (λ (k : ℕ). neg_ℤ (pos (min k (2 ^ 63)))) (whole_part (m * up e) (down e) a (down_pos e) p.1) ∙ ap (λ (k : ℕ). neg_ℤ (pos k)) (low a h)
  where
    low : (k : ℕ) → k < 2 ^ 63 → min k (2 ^ 63) ≡ k
    low k l = omega arith
