-- The rounding rule. Only `up_near`, `up_most` and `up_even` look into `up_of`: every other law follows from them, for any divisor
-- above 0. Assumes nothing.
use mathlib.Core.Path.{◌≡◌, refl, sym, ap, ◌∙◌, subst}
use mathlib.Core.Bool.{Bool, true, false, cond, ◌&&◌}
use mathlib.Core.Logic.{◌⊎◌, inl, inr, ⊎_elim}
use Prim.Native.Nat.{ℕ, zero, suc, ◌+◌, ◌*◌, ◌-◌, ◌/◌, ◌%◌, ◌^◌, ◌≤◌, ◌<◌}
use native.Mathlib.Nat.{eq-or-lt_of_le, div-add-mod', div-eq_of_lt, mod-eq_of_lt, mod-lt, add-mul, le-mul_of_pos_right, lt_of_mul-lt-mul_right, mul-add-div_right, mul-add-mod_self_right, mul-le-mul_right}
use native.Mathlib.Omega.{arith}
use lib.Dec.{T, leb, ltb, eqb}
use lib.IntN.{ℤ, pos, negsuc, neg_ℤ, nat_abs, neg_ℤ-neg_ℤ, ◌-ℤ◌, ◌*ℤ◌}
use lib.Signed.{lt_z}
use borrow.Author.Tests.{ltb-true, ltb-false, eqb-true, lt-ltb, le-ltb, eq-eqb, le-leb, lt-leb}
use Rattle.money.specs.Pounds.{most_whole, saturated}
use Rattle.money.specs.Rounding.{up_of, rounded_of, round_div, on_magnitude, round_z, in_reach, scaled_of}
use Rattle.money.specs.Theorems.{IsNearest}
use Rattle.money.proofs.Pounds.{abs_neg, saturated_small}
use Rattle.money.proofs.Parts.{AtMost, over, under, diff, abs, within_half, neg_over, neg_under, times_over, times_under, to_eq}

-- what is added, times the divisor, is within half the divisor of the rest
up_near : (q r d : ℕ) → r < d → (2 * (up_of q r d * d) ≤ 2 * r + d) × (2 * r ≤ 2 * (up_of q r d * d) + d)
unfolding up_of
up_near q r d h = by (ltb d (2 * r)) refl (eqb d (2 * r)) refl
  where
    by : (past : Bool) → ltb d (2 * r) ≡ past → (half : Bool) → eqb d (2 * r) ≡ half
        → (2 * (cond past 1 (cond half (q % 2) 0) * d) ≤ 2 * r + d) × (2 * r ≤ 2 * (cond past 1 (cond half (q % 2) 0) * d) + d)
    by true e half f = omega (arith, ltb-true d (2 * r) e)
    by false e true f =
        let most : q % 2 ≤ 1 = omega arith in
        omega (arith, eqb-true d (2 * r) f, mul-le-mul_right d most)
    by false e false f = omega (arith, ltb-false d (2 * r) e)

-- it is 0 or 1
up_most : (q r d : ℕ) → up_of q r d ≤ 1
unfolding up_of
up_most q r d = by (ltb d (2 * r)) (eqb d (2 * r))
  where
    by : (past half : Bool) → cond past 1 (cond half (q % 2) 0) ≤ 1
    by true half = omega arith
    by false true = omega arith
    by false false = omega arith

-- at a half, it makes the quotient even
up_even : (q r d : ℕ) → d ≡ 2 * r → (q + up_of q r d) % 2 ≡ 0
unfolding up_of
up_even q r d e = simp (le-ltb d (2 * r) (omega arith), eq-eqb d (2 * r) e) (omega arith)

-- within a half: the rounded quotient times the divisor is within half the divisor of what is divided
pub round_div_near : (n d : ℕ) → 0 < d → (2 * (round_div n d * d) ≤ 2 * n + d) × (2 * n ≤ 2 * (round_div n d * d) + d)
unfolding round_div
round_div_near n d h =
    omega
    (arith, add-mul (n / d) (up_of (n / d) (n % d) d) d, div-add-mod' n d, up_near (n / d) (n % d) d (mod-lt n h))

-- a rest that leaves half the divisor on either side is half of it
half_rest : (u r d : ℕ) → u ≤ 1 → r < d → (2 * (u * d) ≡ 2 * r + d) ⊎ (2 * r ≡ 2 * (u * d) + d) → d ≡ 2 * r
half_rest zero r d _ h (inl e) = absurd (omega arith)
half_rest zero r d _ h (inr e) = omega arith
half_rest (suc zero) r d _ h (inl e) = omega arith
half_rest (suc zero) r d _ h (inr e) = absurd (omega arith)
half_rest (suc (suc u)) r d l h e = absurd (omega arith)

-- to even: where the rounded quotient times the divisor is half the divisor from what is divided, it is even
pub round_div_even : (n d : ℕ) → 0 < d → (2 * (round_div n d * d) ≡ 2 * n + d) ⊎ (2 * n ≡ 2 * (round_div n d * d) + d) → round_div n d % 2 ≡ 0
unfolding round_div
round_div_even n d h away =
    let u : ℕ = up_of (n / d) (n % d) d in
    up_even (n / d) (n % d) d
    (half_rest u (n % d) d (up_most (n / d) (n % d) d) (mod-lt n h)
    (⊎_elim
    (λ (e : 2 * ((n / d + u) * d) ≡ 2 * n + d). inl (omega (arith, add-mul (n / d) u d, div-add-mod' n d)))
    (λ (e : 2 * n ≡ 2 * ((n / d + u) * d) + d). inr (omega (arith, add-mul (n / d) u d, div-add-mod' n d)))
    away))

-- ---- on the magnitude
-- of a number below zero
pub on_below : (f : ℕ → ℕ) (z : ℤ) → lt_z z (pos 0) ≡ true → on_magnitude f z ≡ neg_ℤ (pos (f (nat_abs z)))
unfolding on_magnitude
on_below f (pos n) e = let lt : n < 0 = ltb-true n 0 e in absurd (omega arith)
on_below f (negsuc n) e = refl

-- of one that is not
pub on_above : (f : ℕ → ℕ) (z : ℤ) → lt_z z (pos 0) ≡ false → on_magnitude f z ≡ pos (f (nat_abs z))
unfolding on_magnitude
on_above f (pos n) e = refl
on_above f (negsuc n) e = absurd (subst T e tt)

-- and each is what `debit` and `credit` give, where it fits
pub debit_on : (f : ℕ → ℕ) (z : ℤ) → f (nat_abs z) < 2 ^ 63 → lt_z z (pos 0) ≡ true → saturated (neg_ℤ (pos (f (nat_abs z)))) ≡ on_magnitude f z
debit_on f z h e = saturated_small (neg_ℤ (pos (f (nat_abs z)))) (rw (abs_neg (pos (f (nat_abs z)))) h) ∙ sym (on_below f z e)

pub credit_on : (f : ℕ → ℕ) (z : ℤ) → f (nat_abs z) < 2 ^ 63 → lt_z z (pos 0) ≡ false → saturated (pos (f (nat_abs z))) ≡ on_magnitude f z
credit_on f z h e = saturated_small (pos (f (nat_abs z))) h ∙ sym (on_above f z e)

-- of either, without its sign
pub abs_on : (f : ℕ → ℕ) (z : ℤ) → nat_abs (on_magnitude f z) ≡ f (nat_abs z)
unfolding on_magnitude
abs_on f (pos n) = refl
abs_on f (negsuc n) = abs_neg (pos (f (suc n)))

-- of a number turned round, where nothing stays nothing
on_neg : (f : ℕ → ℕ) → f 0 ≡ 0 → (z : ℤ) → on_magnitude f (neg_ℤ z) ≡ neg_ℤ (on_magnitude f z)
unfolding on_magnitude
on_neg f e (pos zero) = simp e
on_neg f e (pos (suc n)) = refl
on_neg f e (negsuc n) = sym (neg_ℤ-neg_ℤ (pos (f (suc n))))

-- the magnitude of a multiple
pub abs_times : (z : ℤ) (by : ℕ) → nat_abs (z *ℤ pos by) ≡ nat_abs z * by
abs_times (pos n) by = refl
abs_times (negsuc n) by = abs_neg (pos (suc n * by))

-- ---- with a sign
-- a multiple of a number turned round has nothing above zero
none_over : (r d : ℕ) → over (neg_ℤ (pos r) *ℤ pos d) ≡ 0
unfolding under
none_over r d = times_over (neg_ℤ (pos r)) d ∙ ap (λ (k : ℕ). k * d) (neg_over (pos r)) ∙ omega arith

-- and all of it below
all_under : (r d : ℕ) → under (neg_ℤ (pos r) *ℤ pos d) ≡ r * d
unfolding over
all_under r d = times_under (neg_ℤ (pos r)) d ∙ ap (λ (k : ℕ). k * d) (neg_under (pos r))

-- within a half: the rounded quotient times the divisor is within half the divisor of what is divided
pub round_near : (z : ℤ) (d : ℕ) → 0 < d → 2 * nat_abs (round_z z d *ℤ pos d -ℤ z) ≤ d
unfolding round_z on_magnitude over under
round_near (pos n) d h =
    let near = round_div_near n d h in
    let by = diff (pos (round_div n d * d)) (pos n) in
    within_half (pos (round_div n d * d) -ℤ pos n) d (omega arith) (omega arith)
round_near (negsuc n) d h =
    let r : ℕ = round_div (suc n) d in
    let near = round_div_near (suc n) d h in
    let by = diff (neg_ℤ (pos r) *ℤ pos d) (negsuc n) in
    within_half (neg_ℤ (pos r) *ℤ pos d -ℤ negsuc n) d (omega (arith, none_over r d, all_under r d)) (omega (arith, none_over r d, all_under r d))

-- r times d lies near a and s times d near b: where the two distances are less than k times d and what b is past a, r is less than k past s
apart : (r s a b : ℤ) (d k : ℕ) → nat_abs (r *ℤ pos d -ℤ a) + nat_abs (s *ℤ pos d -ℤ b) + (over a + under b) < k * d + (over b + under a) → over r + under s < over s + under r + k
apart r s a b d k h =
    let less : (over r + under s) * d < (over s + under r + k) * d = omega (
      arith,
      abs (r *ℤ pos d -ℤ a),
      abs (s *ℤ pos d -ℤ b),
      diff (r *ℤ pos d) a,
      diff (s *ℤ pos d) b,
      times_over r d,
      times_under r d,
      times_over s d,
      times_under s d,
      add-mul (over r) (under s) d,
      add-mul (over s) (under r) d,
      add-mul (over s + under r) k d,
    ) in
    lt_of_mul-lt-mul_right d less

-- less than d: r is at most s
ordered : (r s a b : ℤ) (d : ℕ) → nat_abs (r *ℤ pos d -ℤ a) + nat_abs (s *ℤ pos d -ℤ b) + (over a + under b) < d + (over b + under a) → AtMost r s
ordered r s a b d h = omega (arith, apart r s a b d 1 (omega arith))

-- what lies nearer than half the divisor to q times it rounds to q
pub round_to : (z q : ℤ) (d : ℕ) → 2 * nat_abs (q *ℤ pos d -ℤ z) < d → round_z z d ≡ q
round_to z q d h =
    let near = round_near z d (omega arith) in
    to_eq (round_z z d) q
    (omega (arith, ordered (round_z z d) q z z d (omega arith), ordered q (round_z z d) z z d (omega arith)))

-- exact where the divisor divides
pub round_exact : (k : ℤ) (d : ℕ) → 0 < d → round_z (k *ℤ pos d) d ≡ k
round_exact k d h =
    let none = diff (k *ℤ pos d) (k *ℤ pos d) in
    round_to (k *ℤ pos d) k d (omega (arith, within_half (k *ℤ pos d -ℤ k *ℤ pos d) 0 (omega arith) (omega arith)))

-- monotone: a larger number rounds to no smaller one
pub round_mono : (a b : ℤ) (d : ℕ) → 0 < d → AtMost a b → AtMost (round_z a d) (round_z b d)
round_mono a b d h le =
    ⊎_elim
    (λ (e : over a + under b ≡ over b + under a). rw (to_eq a b e) (omega arith))
    (λ (lt : over a + under b < over b + under a).
    ordered (round_z a d) (round_z b d) a b d (omega (arith, round_near a d h, round_near b d h)))
    (eq-or-lt_of_le le)

-- ---- without a sign: the same of a number that is not below zero
-- what lies nearer than half the divisor to q times it rounds to q
pub round_div_to : (n q d : ℕ) → 2 * (q * d) < 2 * n + d → 2 * n < 2 * (q * d) + d → round_div n d ≡ q
unfolding round_z on_magnitude over under
round_div_to n q d l h =
    let apart = diff (pos (q * d)) (pos n) in
    ap nat_abs
    (round_to (pos n) (pos q) d (omega (arith, within_half (pos (q * d) -ℤ pos n) (d - 1) (omega arith) (omega arith))))

-- exact where the divisor divides
pub round_div_exact : (k d : ℕ) → 0 < d → round_div (k * d) d ≡ k
unfolding round_z on_magnitude
round_div_exact k d h = ap nat_abs (round_exact (pos k) d h)

-- monotone: a larger number rounds to no smaller one
pub round_div_mono : (m n d : ℕ) → 0 < d → m ≤ n → round_div m d ≤ round_div n d
unfolding round_z on_magnitude over under
round_div_mono m n d h le = omega (arith, round_mono (pos m) (pos n) d h (omega arith))

-- a quotient of at most a whole number rounds to at most that number
pub round_le : (n k d : ℕ) → 0 < d → n ≤ k * d → round_div n d ≤ k
round_le n k d h le = omega (arith, round_div_mono n (k * d) d h le, round_div_exact k d h)

-- nothing rounds to nothing
round_zero : (d : ℕ) → 0 < d → round_div 0 d ≡ 0
round_zero d h = omega (arith, round_le 0 0 d h (omega arith))

-- rounding gives no more than what is divided
pub round_le_self : (n d : ℕ) → 0 < d → round_div n d ≤ n
round_le_self n d h = round_le n n d h (le-mul_of_pos_right n h)

-- ---- with a sign, by the sign
-- signs mirrored
pub round_mirror : (z : ℤ) (d : ℕ) → 0 < d → round_z (neg_ℤ z) d ≡ neg_ℤ (round_z z d)
unfolding round_z
round_mirror z d h = on_neg (λ (n : ℕ). round_div n d) (round_zero d h) z

-- a multiple rounds on the magnitude of what is multiplied
pub round_times : (z : ℤ) (by over : ℕ) → 0 < over → round_z (z *ℤ pos by) over ≡ on_magnitude (λ (m : ℕ). round_div (m * by) over) z
unfolding round_z on_magnitude
round_times (pos n) by over h = refl
round_times (negsuc n) by over h = round_mirror (pos (suc n * by)) over h

-- of a number that is not below zero
pub round_nonneg : (z : ℤ) (by over : ℕ) → lt_z z (pos 0) ≡ false → round_z (z *ℤ pos by) over ≡ pos (round_div (nat_abs z * by) over)
unfolding round_z on_magnitude
round_nonneg (pos n) by over e = refl
round_nonneg (negsuc n) by over e = absurd (subst T e tt)

-- the magnitude of what is scaled is the magnitude scaled
pub abs_round : (z : ℤ) (by over : ℕ) → nat_abs (round_z (z *ℤ pos by) over) ≡ round_div (nat_abs z * by) over
unfolding round_z
abs_round z by over = abs_on (λ (m : ℕ). round_div m over) (z *ℤ pos by) ∙ ap (λ (m : ℕ). round_div m over) (abs_times z by)

-- ---- on a quotient, a rest and a divisor
-- a number that is split into q times d and a rest r rounds by these
pub rounded_is : (n q r d : ℕ) → n ≡ q * d + r → r < d → d ≤ 1000000000000 → round_div n d ≤ most_whole → rounded_of q r d ≡ round_div n d
unfolding rounded_of round_div
rounded_is n q r d e h k fits =
    let quotient : n / d ≡ q = rw e (mul-add-div_right (omega arith) q r ∙ omega (arith, div-eq_of_lt h)) in
    let rest : n % d ≡ r = rw e (mul-add-mod_self_right q d r ∙ mod-eq_of_lt h) in
    let sum : n / d + up_of (n / d) (n % d) d ≡ q + up_of q r d = rw (quotient, rest) in
    simp (lt-ltb r d h, le-leb d 1000000000000 k) (omega arith)

-- ---- scaled
-- in reach it is the product, divided and rounded
pub scaled_is : (z : ℤ) (by over : ℕ) → nat_abs z ≤ 10000000000 → by ≤ 900000000 → 0 < over → scaled_of z by over ≡ round_z (z *ℤ pos by) over
unfolding scaled_of
scaled_is z by over hz hb ho = simp (le-leb (nat_abs z) 10000000000 hz, le-leb by 900000000 hb, lt-ltb 0 over ho)

none_of : (t : Bool) (z : ℤ) → t ≡ false → cond t z (pos 0) ≡ pos 0
none_of t z e = simp e

no_and : (a : Bool) {b : Bool} → b ≡ false → (a && b) ≡ false
no_and true e = e
no_and false e = refl

-- a magnitude above 10^10 scales to 0
pub scaled_far : (z : ℤ) (by over : ℕ) → 10000000000 < nat_abs z → scaled_of z by over ≡ pos 0
unfolding scaled_of
scaled_far z by over h = none_of (in_reach z by over) (round_z (z *ℤ pos by) over) (simp (lt-leb (nat_abs z) 10000000000 h))

-- and so does any by a factor above 900,000,000
pub scaled_wide : (z : ℤ) (by over : ℕ) → 900000000 < by → scaled_of z by over ≡ pos 0
unfolding scaled_of
scaled_wide z by over h =
    none_of (in_reach z by over) (round_z (z *ℤ pos by) over) (no_and (leb (nat_abs z) 10000000000) (simp (lt-leb by 900000000 h)))

-- and any over 0
pub scaled_over_none : (z : ℤ) (by : ℕ) → scaled_of z by 0 ≡ pos 0
unfolding scaled_of
scaled_over_none z by = none_of (in_reach z by 0) (round_z (z *ℤ pos by) 0) (no_and (leb (nat_abs z) 10000000000) (no_and (leb by 900000000) refl))

cond_small : (t : Bool) (z : ℤ) (k : ℕ) → nat_abs z ≤ k → nat_abs (cond t z (pos 0)) ≤ k
cond_small true z k h = h
cond_small false z k h = omega arith

-- where the magnitude times the factor is at most k times the divisor, it is at most k
pub scaled_small : (z : ℤ) (by over k : ℕ) → 0 < over → nat_abs z * by ≤ k * over → nat_abs (scaled_of z by over) ≤ k
unfolding scaled_of
scaled_small z by over k h le =
    cond_small (in_reach z by over) (round_z (z *ℤ pos by) over) k (rw (abs_round z by over) (round_le (nat_abs z * by) k over h le))

-- ---- rule 1.5, by what it asks
-- where w is a less b, and half of d in magnitude, one of the two is half of d past the other
away : (w : ℤ) (a b d : ℕ) → over w + b ≡ under w + a → 2 * nat_abs w ≡ d → (2 * a ≡ 2 * b + d) ⊎ (2 * b ≡ 2 * a + d)
unfolding over under
away (pos k) a b d e h = inl (omega arith)
away (negsuc k) a b d e h = inr (omega arith)

-- what is rounded is the nearest, and even where it is half the divisor away
pub rounded_nearest : (z : ℤ) (d : ℕ) → 0 < d → IsNearest z d (round_z z d)
unfolding round_z on_magnitude over under
rounded_nearest (pos n) d h = record {
  near = round_near (pos n) d h;
  even = λ e.
      let by = diff (pos (round_div n d * d)) (pos n) in
      round_div_even n d h (away (pos (round_div n d * d) -ℤ pos n) (round_div n d * d) n d (omega arith) e);
}
rounded_nearest (negsuc n) d h =
    let r : ℕ = round_div (suc n) d in
    let by = diff (neg_ℤ (pos r) *ℤ pos d) (negsuc n) in
    record {
      near = round_near (negsuc n) d h;
      even = λ e.
          rw (abs_neg (pos r))
          (round_div_even (suc n) d h (⊎_elim inr inl (away (neg_ℤ (pos r) *ℤ pos d -ℤ negsuc n) (suc n) (r * d) d (omega (arith, none_over r d, all_under r d)) e)));
    }

-- and no other number is
pub nearest_rounded : (z r : ℤ) (d : ℕ) → 0 < d → IsNearest z d r → r ≡ round_z z d
nearest_rounded z r d h n = ⊎_elim half (λ (lt : 2 * nat_abs (r *ℤ pos d -ℤ z) < d). sym (round_to z r d lt)) (eq-or-lt_of_le n.near)
  where
    half : 2 * nat_abs (r *ℤ pos d -ℤ z) ≡ d → r ≡ round_z z d
    half e = to_eq r (round_z z d) (⊎_elim both one (eq-or-lt_of_le (rounded_nearest z d h).near))
      where
        both : 2 * nat_abs (round_z z d *ℤ pos d -ℤ z) ≡ d → over r + under (round_z z d) ≡ over (round_z z d) + under r
        both f =
            omega (
              arith,
              apart r (round_z z d) z z d 2 (omega arith),
              apart (round_z z d) r z z d 2 (omega arith),
              n.even e,
              (rounded_nearest z d h).even f,
              abs r,
              abs (round_z z d),
            )

        one : 2 * nat_abs (round_z z d *ℤ pos d -ℤ z) < d → over r + under (round_z z d) ≡ over (round_z z d) + under r
        one lt = omega (arith, ordered r (round_z z d) z z d (omega arith), ordered (round_z z d) r z z d (omega arith))
