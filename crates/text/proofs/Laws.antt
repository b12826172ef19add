-- Bytes put at the end of a text, and numbers in decimal. Assumes nothing.
use mathlib.Core.Path.{◌≡◌, refl, sym, ap, ◌∙◌}
use mathlib.Core.Bool.{Bool, true, false, cond}
use mathlib.Core.Logic.{⊎_elim}
use mathlib.Core.List.{List, [], ◌∷◌, ◌++◌, append-nil}
use Prim.Native.Nat.{ℕ, zero, suc, ◌+◌, ◌-◌, ◌*◌, ◌/◌, ◌%◌, ◌^◌, ◌≤◌, ◌<◌}
use native.Mathlib.Omega.{arith}
use native.Mathlib.Nat.{pow-suc, div-add-mod', div-lt_iff_lt-mul}
use borrow.Author.Tests.{ltb-true, lt-ltb, le-ltb}
use lib.Dec.{ltb}
use lib.IntN.{ℤ, pos, negsuc, nat_abs}
use lib.Signed.{lt_z}
use lib.ListN.{length, length-append}
use lib.Seq.{set-append_seam, append_snoc}
use Rattle.lists.proofs.Tests.{le_or_lt}
use Rattle.text.specs.declared.Text.{Text}
use Rattle.text.specs.Text.{text_of, pushed_byte, pushed, digits, decimal, signed_decimal}

-- ---- bytes at the end
-- bytes and then more are the same as all of them at once
pub pushed_append : (t : Text) (a b : List ℕ) → pushed t (a ++ b) ≡ pushed (pushed t a) b
unfolding pushed
pushed_append t [] b = refl
pushed_append t (x ∷ a) b = pushed_append (pushed_byte t x) a b

-- so is a byte and then more
pub pushed_more : (t : Text) (x : ℕ) (b : List ℕ) → pushed t (x ∷ b) ≡ pushed (pushed t (x ∷ [])) b
unfolding pushed
pushed_more t x b = refl

-- by which one push after another is all of them at once
pub ruleset pushes = (pushed_append, pushed_more)

-- where there is room, a byte more is held too
byte_pushed : (a : List ℕ) (x : ℕ) → length a < 64 → pushed_byte (text_of a) x ≡ text_of (a ++ (x ∷ []))
byte_pushed a x h =
    let n : length (a ++ (x ∷ [])) ≡ length a + 1 = length-append a (x ∷ []) in
    let f : 64 - length a ≡ suc (64 - (length a + 1)) = omega arith in
    rw (lt-ltb (length a) 64 h, n, f, set-append_seam, append_snoc)

-- bytes, and then others
pub then : (t : Text) {a b : Text} (x y : List ℕ) → a ≡ pushed t x → b ≡ pushed a y → b ≡ pushed t (x ++ y)
then t x y e f = f ∙ ap (λ (u : Text). pushed u y) e ∙ sym (pushed_append t x y)

-- where there is room for all, all are held
pub pushed_text : (a b : List ℕ) → length a + length b ≤ 64 → pushed (text_of a) b ≡ text_of (a ++ b)
unfolding pushed
pushed_text a [] h = ap text_of (sym (append-nil a))
pushed_text a (x ∷ b) h =
    ap (λ (t : Text). pushed t b) (byte_pushed a x (omega arith))
    ∙ pushed_text (a ++ (x ∷ [])) b (omega (arith, length-append a (x ∷ [])))
    ∙ ap text_of (append_snoc a x b)

-- ---- digits
-- a number below ten is one digit
pub digits_one : (k n : ℕ) → (k ≡ 0 → ⊥) → n < 10 → digits k n ≡ (48 + n) ∷ []
unfolding digits
digits_one zero n f h = absurd (f refl)
digits_one (suc k) n f h = rw (lt-ltb n 10 h)

-- any other is the digits of its tenth, and its last digit
pub digits_more : (k n : ℕ) → (k ≡ 0 → ⊥) → 10 ≤ n → digits k n ≡ digits (k - 1) (n / 10) ++ ((48 + n % 10) ∷ [])
unfolding digits
digits_more zero n f h = absurd (f refl)
digits_more (suc k) n f h = let e : suc k - 1 ≡ k = omega arith in rw (le-ltb n 10 h, e)

-- the tenth of a number below ten to the i + 1 is below ten to the i
tenth : (n i : ℕ) → n < 10 ^ suc i → n / 10 < 10 ^ i
tenth n i h = (div-lt_iff_lt-mul {k = 10} {x = n} {y = 10 ^ i} (omega arith)).1 (rw pow-suc at h)

-- ten or more is more than one digit
long : (n i : ℕ) → 10 ≤ n → n < 10 ^ suc i → 1 ≤ i
long n zero l h = omega arith
long n (suc i) l h = omega arith

-- k digits are at most k
pub digits_most : (k n : ℕ) → length (digits k n) ≤ k
unfolding digits
digits_most zero n = omega arith
digits_most (suc k) n = by (ltb n 10) (digits_most k (n / 10))
  where
    by : (b : Bool) → length (digits k (n / 10)) ≤ k → length (cond b ((48 + n) ∷ []) (digits k (n / 10) ++ ((48 + n % 10) ∷ []))) ≤ suc k
    by true h = omega arith
    by false h = omega (arith, length-append (digits k (n / 10)) ((48 + n % 10) ∷ []))

-- a number below ten to the j has at most j digits
pub digits_few : (k n j : ℕ) → 1 ≤ j → n < 10 ^ j → length (digits k n) ≤ j
unfolding digits
digits_few zero n j h w = omega arith
digits_few (suc k) n zero h w = omega arith
digits_few (suc k) n (suc j) h w =
    ⊎_elim
    (λ (l : 10 ≤ n). rw (le-ltb n 10 l, length-append) (omega (arith, digits_few k (n / 10) j (long n j l w) (tenth n j w))))
    (λ (l : n < 10). rw (lt-ltb n 10 l) (omega arith))
    (le_or_lt 10 n)

-- the number that digits spell in decimal, after those that spell a
abbrev pub spelt : ℕ → List ℕ → ℕ
spelt a [] = a
spelt a (d ∷ ds) = spelt (a * 10 + (d - 48)) ds

-- a digit more is ten times what stands before it, and the digit
spelt_last : (a d : ℕ) (ds : List ℕ) → spelt a (ds ++ (d ∷ [])) ≡ spelt a ds * 10 + (d - 48)
spelt_last a d [] = refl
spelt_last a d (x ∷ ds) = spelt_last (a * 10 + (x - 48)) d ds

-- the digits of a number spell it
pub digits_spell : (k n : ℕ) → n < 10 ^ k → 1 ≤ k → spelt 0 (digits k n) ≡ n
unfolding digits
digits_spell zero n w h = omega arith
digits_spell (suc k) n w h =
    ⊎_elim
    (λ (l : 10 ≤ n). rw (le-ltb n 10 l, spelt_last, digits_spell k (n / 10) (tenth n k w) (long n k l w)) (omega (arith, div-add-mod' n 10)))
    (λ (l : n < 10). rw (lt-ltb n 10 l) (omega arith))
    (le_or_lt 10 n)

-- ---- signed numbers
-- below zero: the minus and the magnitude
pub signed_below : (z : ℤ) → lt_z z (pos 0) ≡ true → signed_decimal z ≡ 45 ∷ decimal (nat_abs z)
signed_below (pos n) e = absurd (omega (arith, ltb-true n 0 e))
signed_below (negsuc n) e = refl

-- a magnitude below ten to the j gives at most j bytes, and the minus
pub signed_few : (z : ℤ) (j : ℕ) → 1 ≤ j → nat_abs z < 10 ^ j → length (signed_decimal z) ≤ j + 1
signed_few (pos n) j h w = omega (arith, digits_few 20 n j h w)
signed_few (negsuc n) j h w = omega (arith, digits_few 20 (suc n) j h w)
