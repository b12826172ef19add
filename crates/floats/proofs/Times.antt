-- A float says a whole number, or so many parts, exactly where its value is that number. Assumes nothing.
use Rattle.std.proofs.Common.{◌≡◌, ℕ, zero, suc, ◌+◌, ◌*◌, ◌/◌, ◌%◌, Bool, true, false, cond, eqb, ℤ, pos, negsuc, nat_abs, sym, refl, ap, ◌∙◌, true≢false, add-zero, div-add-mod', mul-div_cancel, eq-eqb, eqb-true}
use Rattle.std.specs.Prelude.{Some, None}
use Rattle.std.proofs.lemmas.Option.{none-some, same_Some}
use native.Mathlib.Nat.{mul-mod_left}
use lib.Ieee.{Float, nan, inf, fin, up, down}
use lib.Ieee.Fits.{down_pos}
use lib.Ieee.Exact.{HasValue}
use Rattle.floats.specs.Floats.{signed, times_of}

pub signed_size : (s : Bool) (n : ℕ) → nat_abs (signed s n) ≡ n
signed_size false n = refl
signed_size true zero = refl
signed_size true (suc n) = refl

-- the number of a value
pub times_is : (x : Float) (s : Bool) (a c : ℕ) → HasValue x s a c → times_of c x ≡ Some (signed s a)
unfolding times_of
times_is nan s a c p = absurd p
times_is (inf _) s a c p = absurd p
times_is (fin t m e) s a c p =
    let k = m * up e * c in
    let even : k % down e ≡ 0 = ap (λ (n : ℕ). n % down e) p.1 ∙ mul-mod_left a (down e) in
    ap (λ (b : Bool). cond b (Some (signed t (k / down e))) None) (eq-eqb (k % down e) 0 even)
    ∙ ap (λ (n : ℕ). Some (signed t n)) (ap (λ (n : ℕ). n / down e) p.1 ∙ mul-div_cancel a (down_pos e))
    ∙ ap (λ (b : Bool). Some (signed b a)) p.0

-- and the value of a number
pub record Says (x : Float) (c : ℕ) (z : ℤ) : Type 0 where
  pub sign : Bool
  pub has : HasValue x sign (nat_abs z) c
  pub is : signed sign (nat_abs z) ≡ z

-- ---- signs
abbrev is_negative : ℤ → Bool
is_negative (pos n) = false
is_negative (negsuc n) = true

pub not_positive : {n m : ℕ} → negsuc m ≡ pos n → ⊥
not_positive e = true≢false (ap is_negative e)

pub says : (x : Float) (c : ℕ) (z : ℤ) → times_of c x ≡ Some z → Says x c z
unfolding times_of
says nan c z h = absurd (none-some _ h)
says (inf s) c z h = absurd (none-some _ h)
says (fin s m e) c z h = by (eqb (m * up e * c % down e) 0) refl h
  where
    by : (b : Bool) → eqb (m * up e * c % down e) 0 ≡ b → cond b (Some (signed s (m * up e * c / down e))) None ≡ Some z → Says (fin s m e) c z
    by false t h = absurd (none-some _ h)
    by true t h =
        let k = m * up e * c in
        let n = k / down e in
        let n-is : n ≡ nat_abs z = sym (signed_size s n) ∙ ap nat_abs (same_Some _ _ h) in
        let whole : k ≡ n * down e =
        sym (div-add-mod' k (down e)) ∙ ap (λ (r : ℕ). n * down e + r) (eqb-true (k % down e) 0 t) ∙ add-zero (n * down e) in
        record {
          sign = s;
          has = (refl, whole ∙ ap (λ (i : ℕ). i * down e) n-is);
          is = ap (signed s) (sym n-is) ∙ same_Some _ _ h;
        }
