-- Whole numbers below 2 ^ 53, their sums and their halves are floats without a rounding. Assumes nothing.
use Rattle.std.proofs.Common.{◌≡◌, ℕ, ◌+◌, ◌*◌, ◌^◌, ◌<◌, Bool, true, false, pos, sym, refl, ap, ◌∙◌, subst, true≢false, lt_of_lt_of_le, mul_assoc, mul_comm, add-mul, mul-pos, mul-one, lit<, lit≤, pow_mono, shl_lt}
use lib.Ieee.{Float, nan, inf, fin, binary64, up, down, round, add, sum, mul, of_int, of_bits}
use lib.Ieee.Fits.{down_pos}
use lib.Ieee.Exact.{HasValue, round_exact}
use lib.Ieee.Scale.{round_same}
use lib.Ieee.Positive.{positive_of_value, mul_at}

-- ---- the nearest float to a whole number, or to half of one, is that number
pub whole : (s : Bool) (n : ℕ) → n < 2 ^ 53 → HasValue (round binary64 s n 1) s n 1
whole s n h =
    round_exact binary64 s n 1 n 1074 (lit< tt) h (lt_of_lt_of_le (shl_lt 53 1074 h) (pow_mono {i = 1127} {j = 2098} (lit≤ tt)))
    (sym (mul-one (n * 2 ^ 1074)))

pub half : (s : Bool) (n : ℕ) → n < 2 ^ 53 → HasValue (round binary64 s n 2) s n 2
half s n h =
    round_exact binary64 s n 2 n 1073 (lit< tt) h (lt_of_lt_of_le (shl_lt 53 1073 h) (pow_mono {i = 1126} {j = 2098} (lit≤ tt)))
    (sym (mul_assoc n (2 ^ 1073) 2))

pub of_int_law : (n : ℕ) → n < 2 ^ 53 → HasValue (of_int binary64 (pos n)) false n 1
unfolding of_int
of_int_law n h = whole false n h

-- ---- a sum of two whole numbers
cross : (m e n d a b : ℕ) → m * 1 ≡ a * e → n * 1 ≡ b * d → (m * d + n * e) * 1 ≡ (a + b) * (e * d)
cross m e n d a b p q =
    mul-one (m * d + n * e)
    ∙ ap (λ (x : ℕ). x * d + n * e) (sym (mul-one m) ∙ p)
    ∙ ap (λ (x : ℕ). a * e * d + x * e) (sym (mul-one n) ∙ q)
    ∙ ap (λ (x : ℕ). x + b * d * e) (mul_assoc a e d)
    ∙ ap (λ (x : ℕ). a * (e * d) + x) (mul_assoc b d e ∙ ap (λ (x : ℕ). b * x) (mul_comm d e))
    ∙ sym (add-mul a b (e * d))

sum_at : (x y : Float) (a b : ℕ) → HasValue x false a 1 → HasValue y false b 1 → add binary64 x y ≡ round binary64 false (a + b) 1
unfolding add sum
sum_at nan y a b p q = absurd p
sum_at (inf _) y a b p q = absurd p
sum_at (fin false m e) nan a b p q = absurd q
sum_at (fin false m e) (inf _) a b p q = absurd q
sum_at (fin true m e) y a b p q = absurd (true≢false p.0)
sum_at (fin false m e) (fin true n d) a b p q = absurd (true≢false q.0)
sum_at (fin false m e) (fin false n d) a b p q =
    round_same binary64 false (m * up e * down d + n * up d * down e) (down e * down d) (a + b) 1 (mul-pos (down_pos e) (down_pos d)) (lit< tt)
    (cross (m * up e) (down e) (n * up d) (down d) a b p.1 q.1)

pub sum_exact : (x y : Float) (a b : ℕ) → a + b < 2 ^ 53 → HasValue x false a 1 → HasValue y false b 1 → HasValue (add binary64 x y) false (a + b) 1
sum_exact x y a b h p q = subst (λ (z : Float). HasValue z false (a + b) 1) (sym (sum_at x y a b p q)) (whole false (a + b) h)

-- ---- half of a whole number, and a half doubled: 0.5 and 2.0 by their bits
abbrev pub one_half : Float
one_half = of_bits binary64 0x3fe0_0000_0000_0000

one_half_is : HasValue one_half false 1 2
unfolding of_bits
one_half_is = (refl, refl)

pub half_at : (x : Float) (n : ℕ) → 0 < n → HasValue x false n 1 → mul binary64 x one_half ≡ round binary64 false n 2
half_at x n h p =
    mul_at binary64 x one_half n 1 1 2 (positive_of_value x n 1 p h) (positive_of_value one_half 1 2 one_half_is (lit< tt)) (lit< tt) (lit< tt) p one_half_is
    ∙ ap (λ (k : ℕ). round binary64 false k 2) (mul-one n)

pub half_exact : (x : Float) (n : ℕ) → 0 < n → n < 2 ^ 53 → HasValue x false n 1 → HasValue (mul binary64 x one_half) false n 2
half_exact x n l h p = subst (λ (z : Float). HasValue z false n 2) (sym (half_at x n l p)) (half false n h)

abbrev pub two : Float
two = of_bits binary64 0x4000_0000_0000_0000

two_is : HasValue two false 2 1
unfolding of_bits
two_is = (refl, refl)

pub double_exact : (x : Float) (n : ℕ) → 0 < n → n < 2 ^ 53 → HasValue x false n 2 → HasValue (mul binary64 x two) false n 1
double_exact x n l h p =
    subst (λ (z : Float). HasValue z false n 1)
    (sym (mul_at binary64 x two n 2 2 1 (positive_of_value x n 2 p l) (positive_of_value two 2 1 two_is (lit< tt)) (lit< tt) (lit< tt) p two_is
    ∙ round_same binary64 false (n * 2) 2 n 1 (lit< tt) (lit< tt) (mul-one (n * 2))))
    (whole false n h)
