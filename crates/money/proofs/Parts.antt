-- A signed number as what it has above zero and below zero, both natural numbers, which `omega` reads.
-- List `sum a b`, `diff a b`, `abs a` for `omega`; an order or an equation goes over by `from_lt`, `from_ge`, `to_eq`. Assumes nothing.
use mathlib.Core.Path.{◌≡◌, refl, ap, ◌∙◌}
use mathlib.Core.Bool.{Bool, true, false, cond}
use Prim.Native.Nat.{ℕ, zero, suc, ◌+◌, ◌*◌, ◌-◌, ◌≤◌, ◌<◌}
use native.Mathlib.Nat.{add-mul, mul_assoc}
use native.Mathlib.Omega.{arith}
use lib.Dec.{ltb}
use lib.IntN.{ℤ, pos, negsuc, neg_ℤ, nat_abs, ◌+ℤ◌, ◌-ℤ◌, ◌*ℤ◌}
use lib.Signed.{lt_z}
use borrow.Author.Tests.{ltb-true, ltb-false}

-- what a number has above zero
unfoldable pub over : ℤ → ℕ
over (pos n) = n
over (negsuc n) = 0

-- what it has below zero
unfoldable pub under : ℤ → ℕ
under (pos n) = 0
under (negsuc n) = suc n

-- a is at most b, by their parts
abbrev pub AtMost : ℤ → ℤ → Type 0
AtMost a b = over a + under b ≤ over b + under a

-- ---- operations
less_parts : (a b : ℕ) (t : Bool) → ltb a b ≡ t → over (cond t (negsuc (b - suc a)) (pos (a - b))) + b ≡ under (cond t (negsuc (b - suc a)) (pos (a - b))) + a
unfolding over under
less_parts a b true e = let h : a < b = ltb-true a b e in omega arith
less_parts a b false e = let h : b ≤ a = ltb-false a b e in omega arith

-- the parts of a sum
pub sum : (a b : ℤ) → over (a +ℤ b) + (under a + under b) ≡ under (a +ℤ b) + (over a + over b)
unfolding over under
sum (pos a) (pos b) = omega arith
sum (pos a) (negsuc b) = let h = less_parts a (suc b) (ltb a (suc b)) refl in omega arith
sum (negsuc a) (pos b) = let h = less_parts b (suc a) (ltb b (suc a)) refl in omega arith
sum (negsuc a) (negsuc b) = omega arith

-- a number turned round has above zero what it had below
pub neg_over : (a : ℤ) → over (neg_ℤ a) ≡ under a
unfolding over under
neg_over (pos zero) = refl
neg_over (pos (suc n)) = refl
neg_over (negsuc n) = refl

-- and below zero what it had above
pub neg_under : (a : ℤ) → under (neg_ℤ a) ≡ over a
unfolding over under
neg_under (pos zero) = refl
neg_under (pos (suc n)) = refl
neg_under (negsuc n) = refl

-- the parts of a difference
pub diff : (a b : ℤ) → over (a -ℤ b) + (under a + over b) ≡ under (a -ℤ b) + (over a + under b)
diff a b = omega (arith, sum a (neg_ℤ b), neg_over b, neg_under b)

-- the magnitude by the parts
pub abs : (a : ℤ) → nat_abs a ≡ over a + under a
unfolding over under
abs (pos n) = omega arith
abs (negsuc n) = omega arith

-- a number whose parts differ by at most half of d has a magnitude of at most that
pub within_half : (z : ℤ) (d : ℕ) → 2 * over z ≤ 2 * under z + d → 2 * under z ≤ 2 * over z + d → 2 * nat_abs z ≤ d
unfolding over under
within_half (pos n) d h k = omega arith
within_half (negsuc n) d h k = omega arith

-- ---- order and equality
-- what `a` below `b` says of the parts
pub from_lt : (a b : ℤ) → lt_z a b ≡ true → over a + under b < over b + under a
unfolding over under
from_lt (pos a) (pos b) e = let h : a < b = ltb-true a b e in omega arith
from_lt (pos a) (negsuc b) e = let no : ◌≡◌ {A = ℕ} 0 1 = cc in absurd (omega arith)
from_lt (negsuc a) (pos b) e = omega arith
from_lt (negsuc a) (negsuc b) e = let h : b < a = ltb-true b a e in omega arith

-- what `a` not below `b` says of the parts
pub from_ge : (a b : ℤ) → lt_z a b ≡ false → AtMost b a
unfolding over under
from_ge (pos a) (pos b) e = let h : b ≤ a = ltb-false a b e in omega arith
from_ge (pos a) (negsuc b) e = omega arith
from_ge (negsuc a) (pos b) e = let no : ◌≡◌ {A = ℕ} 0 1 = cc in absurd (omega arith)
from_ge (negsuc a) (negsuc b) e = let h : a ≤ b = ltb-false b a e in omega arith

-- two numbers with the same parts are one
pub to_eq : (a b : ℤ) → over a + under b ≡ over b + under a → a ≡ b
unfolding over under
to_eq (pos a) (pos b) h = let e : a ≡ b = omega arith in ap pos e
to_eq (pos a) (negsuc b) h = absurd (omega arith)
to_eq (negsuc a) (pos b) h = absurd (omega arith)
to_eq (negsuc a) (negsuc b) h = let e : a ≡ b = omega arith in ap negsuc e

-- ---- so many times a number
-- the parts of a multiple
pub times_over : (a : ℤ) (k : ℕ) → over (a *ℤ pos k) ≡ over a * k
unfolding over under
times_over (pos n) k = refl
times_over (negsuc n) k = omega (arith, neg_over (pos (suc n * k)))

pub times_under : (a : ℤ) (k : ℕ) → under (a *ℤ pos k) ≡ under a * k
unfolding over under
times_under (pos n) k = omega arith
times_under (negsuc n) k = neg_under (pos (suc n * k))

-- a multiple of a sum
pub times_sum : (a b : ℤ) (k : ℕ) → (a +ℤ b) *ℤ pos k ≡ a *ℤ pos k +ℤ b *ℤ pos k
times_sum a b k =
    to_eq ((a +ℤ b) *ℤ pos k) (a *ℤ pos k +ℤ b *ℤ pos k)
    (omega (
      arith,
      sum (a *ℤ pos k) (b *ℤ pos k),
      times_over (a +ℤ b) k,
      times_under (a +ℤ b) k,
      times_over a k,
      times_under a k,
      times_over b k,
      times_under b k,
      simp add-mul at (ap (λ (j : ℕ). j * k) (sum a b)),
    ))

-- of a number turned round
pub times_neg : (a : ℤ) (k : ℕ) → neg_ℤ a *ℤ pos k ≡ neg_ℤ (a *ℤ pos k)
times_neg a k =
    to_eq (neg_ℤ a *ℤ pos k) (neg_ℤ (a *ℤ pos k))
    (omega (
      arith,
      times_over (neg_ℤ a) k,
      times_under (neg_ℤ a) k,
      times_over a k,
      times_under a k,
      neg_over (a *ℤ pos k),
      neg_under (a *ℤ pos k),
      ap (λ (m : ℕ). m * k) (neg_over a),
      ap (λ (m : ℕ). m * k) (neg_under a),
    ))

-- and of a multiple
pub times_times : (a : ℤ) (j k : ℕ) → a *ℤ pos j *ℤ pos k ≡ a *ℤ pos (j * k)
times_times a j k =
    to_eq (a *ℤ pos j *ℤ pos k) (a *ℤ pos (j * k))
    (omega (
      arith,
      times_over (a *ℤ pos j) k,
      times_under (a *ℤ pos j) k,
      times_over a (j * k),
      times_under a (j * k),
      ap (λ (m : ℕ). m * k) (times_over a j) ∙ mul_assoc (over a) j k,
      ap (λ (m : ℕ). m * k) (times_under a j) ∙ mul_assoc (under a) j k,
    ))
