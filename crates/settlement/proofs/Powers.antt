-- Powers of products, and what rounding a root down and then a product with it loses. Assumes nothing.
use mathlib.Core.Path.{◌≡◌, ◌∙◌, ap, sym}
use mathlib.Core.Logic.{◌≢◌}
use Prim.Native.Nat.{ℕ, zero, suc, ◌+◌, ◌*◌, ◌^◌, ◌≤◌, ◌<◌}
use native.Mathlib.Nat.{pow-zero, pow-suc, add-zero, add-suc, mul-mul-mul_comm, mul_assoc, mul_left_comm, mul_comm, mul-le-mul, mul-le-mul_left, mul-le-mul_right, mul-lt-mul_of_pos_right, le_of_mul-le-mul_left, le_trans, le_of_eq, lt_of_le_of_lt, le_of_lt, pow-le-pow_left, pow-lt-pow_left, one-le-pow, mul-add, mul-one}
use native.Mathlib.Omega.{arith}

pub mul_pow : (a b k : ℕ) → (a * b) ^ k ≡ a ^ k * b ^ k
mul_pow a b zero = simp pow-zero
mul_pow a b (suc k) = simp (pow-suc, mul_pow a b k) (mul-mul-mul_comm (a ^ k) (b ^ k) a b)

-- what lies below a growing power stays below a later one
pub stays_below : (a b d u n k : ℕ) → d ≤ u → a * d ^ n ≤ b * u ^ n → a * d ^ (n + k) ≤ b * u ^ (n + k)
stays_below a b d u n zero h l = rw (add-zero n) l
stays_below a b d u n (suc k) h l =
    rw (add-suc n k, pow-suc d (n + k), pow-suc u (n + k), ← mul_assoc a (d ^ (n + k)) d, ← mul_assoc b (u ^ (n + k)) u)
    (mul-le-mul (stays_below a b d u n k h l) h)

-- r * b ≤ m * e and e ^ k ≤ b ^ k * (u / d): r is at most m times the k-th root of u / d
pub at_most_root : (k b e r m d u : ℕ) → 0 < b → r * b ≤ m * e → e ^ k * d ≤ b ^ k * u → r ^ k * d ≤ m ^ k * u
at_most_root k b e r m d u h cut low = le_of_mul-le-mul_left (le_trans (le_of_eq left) (le_trans middle (le_of_eq (mul_left_comm (m ^ k) (b ^ k) u)))) (one-le-pow k b h)
  where
    left : b ^ k * (r ^ k * d) ≡ (r * b) ^ k * d
    left = sym (mul_assoc (b ^ k) (r ^ k) d) ∙ ap (λ (x : ℕ). x * d) (mul_comm (b ^ k) (r ^ k) ∙ sym (mul_pow r b k))

    middle : (r * b) ^ k * d ≤ m ^ k * (b ^ k * u)
    middle =
        le_trans (mul-le-mul_right d (pow-le-pow_left cut k))
        (le_trans (le_of_eq (ap (λ (x : ℕ). x * d) (mul_pow m e k) ∙ mul_assoc (m ^ k) (e ^ k) d)) (mul-le-mul_left (m ^ k) low))

-- m * e < b * (r + 1) and b ^ k * (u / d) < (e + 1) ^ k: m times the root is below r + 1 + m / b
pub short_of_root : (k b e r m d u : ℕ) → k ≢ 0 → 0 < d → m * e < b * (r + 1) → b ^ k * u < (e + 1) ^ k * d → b ^ k * (m ^ k * u) < (b * (r + 1) + m) ^ k * d
short_of_root k b e r m d u n p cut high = lt_of_le_of_lt left (mul-lt-mul_of_pos_right (pow-lt-pow_left (step (mul-add m e 1) (mul-one m)) n) p)
  where
    left : b ^ k * (m ^ k * u) ≤ (m * (e + 1)) ^ k * d
    left =
        le_trans (le_of_eq (mul_left_comm (b ^ k) (m ^ k) u))
        (le_trans (mul-le-mul_left (m ^ k) (le_of_lt high))
        (le_of_eq (sym (mul_assoc (m ^ k) ((e + 1) ^ k) d) ∙ ap (λ (x : ℕ). x * d) (sym (mul_pow m (e + 1) k)))))

    step : m * (e + 1) ≡ m * e + m * 1 → m * 1 ≡ m → m * (e + 1) < b * (r + 1) + m
    step x y = omega arith
