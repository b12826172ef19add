-- What a call on a slice answers, where the bytes are there and where not. Assumes nothing.
use mathlib.Core.Path.{◌≡◌, refl, ◌∙◌}
use mathlib.Core.Bool.{Bool, true, false, cond, ◌&&◌}
use mathlib.Core.List.{List, [], ◌++◌}
use Rattle.std.specs.Prelude.{None}
use Prim.Native.Nat.{ℕ, zero, suc, ◌+◌, ◌≤◌, ◌<◌}
use native.Mathlib.Omega.{arith}
use borrow.Author.Tests.{le-leb, lt-leb}
use lib.Dec.{leb}
use lib.ListN.{length, take, drop}
use Rattle.codec.specs.Numbers.{spelled, bytes_of}
use Rattle.codec.specs.Fields.{head, framed}
use Rattle.codec.specs.Format.{num, int, field}
use Rattle.codec.specs.Leaves.{number_at, number_bytes, number_field_bytes, number_field, amount_at}
use Rattle.codec.proofs.Positions.{field_is, field_not}

pub number_there : (n : ℕ) (bs : List ℕ) → n ≤ 8 → n ≤ length bs → number_at n bs ≡ spelled 0 (take n bs)
unfolding number_at
number_there n bs h k = rw (le-leb n 8 h, le-leb n (length bs) k)

pub bytes_there : (n v : ℕ) → n ≤ 8 → number_bytes n v ≡ bytes_of n v
unfolding number_bytes
bytes_there n v h = rw (le-leb n 8 h)

pub field_bytes_there : (tag n v : ℕ) → n ≤ 8 → number_field_bytes tag n v ≡ head tag n ++ bytes_of n v
unfolding number_field_bytes
field_bytes_there tag n v h = rw (le-leb n 8 h)

pub field_bytes_wide : (tag n v : ℕ) → 8 < n → number_field_bytes tag n v ≡ []
unfolding number_field_bytes
field_bytes_wide tag n v h = rw (lt-leb n 8 h)

pub field_there : (tag n lo hi : ℕ) (bs : List ℕ) → n ≤ 8 → number_field tag n lo hi bs ≡ field tag (num n lo hi) bs
unfolding number_field
field_there tag n lo hi bs h = rw (le-leb n 8 h)

-- a whole field answers what its value is, and no field nothing
pub value_there : (tag n lo hi : ℕ) (s : List ℕ) (at : ℕ) → n ≤ 8 → framed tag n (drop at s) ≡ true → number_field tag n lo hi (drop at s) ≡ (num n lo hi).get (drop (at + 3) s)
value_there tag n lo hi s at h e = field_there tag n lo hi (drop at s) h ∙ field_is tag (num n lo hi) s at e

pub value_not : (tag n lo hi : ℕ) (bs : List ℕ) → n ≤ 8 → framed tag n bs ≡ false → number_field tag n lo hi bs ≡ None
value_not tag n lo hi bs h e = field_there tag n lo hi bs h ∙ field_not tag (num n lo hi) bs e

pub amount_there : (most : ℕ) (bs : List ℕ) → 8 ≤ length bs → amount_at most bs ≡ (int most).get bs
unfolding amount_at
amount_there most bs h = rw (le-leb 8 (length bs) h)

-- ---- too wide, or too short
pub number_wide : (n : ℕ) (bs : List ℕ) → 8 < n → number_at n bs ≡ 0
unfolding number_at
number_wide n bs h = rw (lt-leb n 8 h)

pub number_short : (n : ℕ) (bs : List ℕ) → length bs < n → number_at n bs ≡ 0
unfolding number_at
number_short n bs h = rw (lt-leb n (length bs) h) (by (leb n 8))
  where
    by : (t : Bool) → cond (t && false) (spelled 0 (take n bs)) 0 ≡ 0
    by true = refl
    by false = refl

pub number_past : (n : ℕ) (bs : List ℕ) → length bs ≡ 0 → number_at n bs ≡ 0
unfolding spelled
number_past zero bs h = number_there 0 bs (omega arith) (omega arith)
number_past (suc n) bs h = number_short (suc n) bs (omega arith)

pub bytes_wide : (n v : ℕ) → 8 < n → number_bytes n v ≡ []
unfolding number_bytes
bytes_wide n v h = rw (lt-leb n 8 h)

pub field_wide : (tag n lo hi : ℕ) (bs : List ℕ) → 8 < n → number_field tag n lo hi bs ≡ None
unfolding number_field
field_wide tag n lo hi bs h = rw (lt-leb n 8 h)

pub amount_short : (most : ℕ) (bs : List ℕ) → length bs < 8 → amount_at most bs ≡ None
unfolding amount_at
amount_short most bs h = rw (lt-leb 8 (length bs) h)
