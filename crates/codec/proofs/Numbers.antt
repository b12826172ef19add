-- The laws of `spelled` and `bytes_of`: each undoes the other, at every width.
use mathlib.Core.Path.{◌≡◌, refl, sym, ap, ◌∙◌}
use Prim.Native.Nat.{ℕ, zero, suc, ◌+◌, ◌-◌, ◌*◌, ◌/◌, ◌%◌, ◌^◌, ◌<◌, ◌≤◌}
use native.Mathlib.Nat.{add-zero, zero-add, pow-succ', pow-le-pow_right, lt_of_lt_of_le, div-div-eq-div-mul}
use native.Mathlib.Numerals.{add-one}
use lib.Dec.{lit≤, leb, eqb}
use mathlib.Core.Bool.{false, ◌&&◌}
use native.Mathlib.Omega.{arith}
use mathlib.Core.List.{List, [], ◌∷◌, ◌++◌, append_assoc, append-nil}
use lib.ListN.{length, get_or, take, drop, set, length-append, length-drop}
use lib.Seq.{take-suc, take-length, get_or-drop, drop-drop, sets}
use Rattle.std.specs.Int.{byte_at, bytes_high_first}
use Rattle.codec.specs.Numbers.{spelled, bytes_of}
use Rattle.codec.specs.Theorems.{Bytes}
use Rattle.codec.specs.Fields.{framed}

pub spelled_snoc : (a : ℕ) (xs : List ℕ) (x : ℕ) → spelled a (xs ++ (x ∷ [])) ≡ spelled a xs * 256 + x
unfolding spelled
spelled_snoc a [] x = refl
spelled_snoc a (y ∷ ys) x = spelled_snoc (a * 256 + y) ys x

pub bytes_length : (k v : ℕ) → length (bytes_of k v) ≡ k
unfolding bytes_of
bytes_length zero v = refl
bytes_length (suc k) v = simp (length-append, bytes_length k (v / 256)) (omega arith)

pub spelled_bytes : (k v : ℕ) → v < 256 ^ k → spelled 0 (bytes_of k v) ≡ v
unfolding spelled bytes_of
spelled_bytes zero v h = omega arith
spelled_bytes (suc k) v h =
    let h' : v < 256 * 256 ^ k = rw (pow-succ' 256 k) at h in
    spelled_snoc 0 (bytes_of k (v / 256)) (v % 256) ∙ ap (λ (n : ℕ). n * 256 + v % 256) (spelled_bytes k (v / 256) (omega arith)) ∙ omega arith

-- the bytes of what xs spells after a are those of a, and then xs
bytes_spelled_on : (xs : List ℕ) (a j : ℕ) → Bytes xs → bytes_of (length xs + j) (spelled a xs) ≡ bytes_of j a ++ xs
unfolding spelled bytes_of
bytes_spelled_on [] a j b = simp (zero-add, append-nil)
bytes_spelled_on (x ∷ xs) a j b =
    let e : suc (length xs) + j ≡ length xs + suc j = omega arith in
    let q : (a * 256 + x) / 256 ≡ a = omega (arith, b 0) in
    let m : (a * 256 + x) % 256 ≡ x = omega (arith, b 0) in
    rw (e, bytes_spelled_on xs (a * 256 + x) (suc j) (λ i. b (suc i)), q, m, append_assoc)

pub bytes_spelled : (xs : List ℕ) → Bytes xs → bytes_of (length xs) (spelled 0 xs) ≡ xs
unfolding bytes_of
bytes_spelled xs b = ap (λ (n : ℕ). bytes_of n (spelled 0 xs)) (sym (add-zero (length xs))) ∙ bytes_spelled_on xs 0 0 b

-- one more byte of at most eight: the number stays below its power, and in 64 bits
pub grows : (i v x : ℕ) → v < 256 ^ i → x < 256 → v * 256 + x < 256 ^ (i + 1)
grows i v x h k = rw (add-one i, pow-succ' 256 i) (omega arith)

pub fits_word : (i v : ℕ) → i ≤ 8 → v < 256 ^ i → v < 2 ^ 64
fits_word i v h k = lt_of_lt_of_le k (pow-le-pow_right {n = 256} (lit≤ tt) h)

-- what the first i + 1 bytes spell
pub spelled_more : (s : List ℕ) (i : ℕ) → i < length s → spelled 0 (take (i + 1) s) ≡ spelled 0 (take i s) * 256 + get_or s i 0
spelled_more s i h = rw (add-one i, take-suc s i 0 h, spelled_snoc)

-- a run of stores after another is one run
pub sets_append : (l : List ℕ) (i : ℕ) (a b : List ℕ) → sets (sets l i a) (i + length a) b ≡ sets l i (a ++ b)
sets_append l i [] b = ap (λ (n : ℕ). sets l n b) (add-zero i)
sets_append l i (x ∷ a) b =
    let e : i + suc (length a) ≡ suc i + length a = omega arith in
    rw e (sets_append (set l i x) (suc i) a b)

-- the low bytes as the library gives them: those of the rest, and the lowest
byte_rest : (k v : ℕ) → byte_at (suc k) v ≡ byte_at k (v / 256)
byte_rest zero v = refl
byte_rest (suc k) v = rw (pow-succ' 256 (suc k), ← div-div-eq-div-mul v 256 (256 ^ suc k)) refl

high_first_snoc : (n v : ℕ) → bytes_high_first (suc n) v ≡ bytes_high_first n (v / 256) ++ (v % 256 ∷ [])
high_first_snoc zero v = refl
high_first_snoc (suc n) v = rw (byte_rest n v, high_first_snoc n v) refl

pub high_first : (n v : ℕ) → bytes_high_first n v ≡ bytes_of n v
unfolding bytes_of
high_first zero v = refl
high_first (suc n) v = high_first_snoc n v ∙ ap (λ (l : List ℕ). l ++ (v % 256 ∷ [])) (high_first n (v / 256))

-- the last n of them are the low n bytes
pub last_bytes : (j n v : ℕ) → drop j (bytes_high_first (j + n) v) ≡ bytes_of n v
last_bytes zero n v = rw (zero-add n) (high_first n v)
last_bytes (suc j) n v = let e : suc j + n ≡ suc (j + n) = omega arith in rw e (last_bytes j n v)

-- of the eight bytes of a number, the last n
pub low_bytes : (n v : ℕ) → n ≤ 8 → take (8 - (8 - n)) (drop (8 - n) (bytes_high_first 8 v)) ≡ bytes_of n v
low_bytes n v h =
    let j : 8 - n + n ≡ 8 = omega arith in
    let k : 8 - (8 - n) ≡ n = omega arith in
    let d : drop (8 - n) (bytes_high_first 8 v) ≡ bytes_of n v = ap (λ (m : ℕ). drop (8 - n) (bytes_high_first m v)) (sym j) ∙ last_bytes (8 - n) n v in
    ap (λ (m : ℕ). take m (drop (8 - n) (bytes_high_first 8 v))) (k ∙ sym (bytes_length n v)) ∙ ap (λ (l : List ℕ). take (length (bytes_of n v)) l) d ∙ take-length (bytes_of n v)

pub framed_short : (tag len : ℕ) (l : List ℕ) → length l < 3 → framed tag len l ≡ false
unfolding framed
framed_short tag len [] h = refl
framed_short tag len (a ∷ []) h = refl
framed_short tag len (a ∷ b ∷ []) h = refl
framed_short tag len (a ∷ b ∷ c ∷ r) h = absurd (omega arith)

framed_is : (tag len : ℕ) (l : List ℕ) → 3 ≤ length l → framed tag len l ≡ (eqb (get_or l 0 0) tag && (eqb (spelled 0 (take 2 (drop 1 l))) len && leb len (length l - 3)))
unfolding framed
framed_is tag len [] h = absurd (omega arith)
framed_is tag len (a ∷ []) h = absurd (omega arith)
framed_is tag len (a ∷ b ∷ []) h = absurd (omega arith)
framed_is tag len (a ∷ b ∷ c ∷ r) h =
    let e : suc (suc (suc (length r))) - 3 ≡ length r = omega arith in
    rw e

-- the same of the field at a position
pub framed_at : (tag len : ℕ) (s : List ℕ) (at : ℕ) → at + 3 ≤ length s → framed tag len (drop at s) ≡ (eqb (get_or s at 0) tag && (eqb (spelled 0 (take 2 (drop (at + 1) s))) len && leb len (length s - at - 3)))
framed_at tag len s at h =
    let e : 3 ≤ length (drop at s) = simp length-drop (omega arith) in
    framed_is tag len (drop at s) e ∙ simp (get_or-drop, add-zero, drop-drop, length-drop)

-- n bytes spell a number below 256 ^ n
pub spelled_small : (n : ℕ) (s : List ℕ) → Bytes s → n ≤ length s → spelled 0 (take n s) < 256 ^ n
unfolding spelled
spelled_small zero s b h = omega arith
spelled_small (suc n) s b h =
    rw (take-suc s n 0 h, spelled_snoc, ← add-one n)
    (grows n (spelled 0 (take n s)) (get_or s n 0) (spelled_small n s b (omega arith)) (b n))
