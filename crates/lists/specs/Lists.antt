-- Tests over a list, parts of it, and sums.
use Rattle.std.specs.Prelude.{Bool, true, false, cond, ◌&&◌, ◌||◌, List, [], ◌∷◌, ◌++◌, ℕ, zero, suc, ◌+◌, ◌-◌, length, replicate}

-- each element passes the test
abbrev pub all : {A : Type 0} → (A → Bool) → List A → Bool
all p [] = true
all p (x ∷ xs) = p x && all p xs

-- some element passes the test
abbrev pub any : {A : Type 0} → (A → Bool) → List A → Bool
any p [] = false
any p (x ∷ xs) = p x || any p xs

-- each element passes the test with each later one
abbrev pub pairwise : {A : Type 0} → (A → A → Bool) → List A → Bool
pairwise r [] = true
pairwise r (x ∷ xs) = all (r x) xs && pairwise r xs

-- the elements that pass the test
abbrev pub keep : {A : Type 0} → (A → Bool) → List A → List A
keep p [] = []
keep p (x ∷ xs) = cond (p x) (x ∷ keep p xs) (keep p xs)

-- the sum of a figure over the elements
abbrev pub total : {A : Type 0} → (A → ℕ) → List A → ℕ
total f [] = 0
total f (x ∷ xs) = f x + total f xs

-- the sum of a figure over the n numbers from a on
abbrev pub sum_from : ℕ → ℕ → (ℕ → ℕ) → ℕ
sum_from a zero f = 0
sum_from a (suc n) f = sum_from a n f + f (a + n)

-- the elements in the first of n slots, and z in each slot past them
abbrev pub padded : {A : Type 0} → ℕ → A → List A → List A
padded n z l = l ++ replicate (n - length l) z

-- each of the n numbers from a on passes the test
unfoldable pub each : ℕ → ℕ → (ℕ → Bool) → Bool
each a zero p = true
each a (suc n) p = each a n p && p (a + n)
