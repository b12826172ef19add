-- What the calls on a slice and a place answer, on every input.
use Rattle.std.specs.Prelude.{Bool, cond, ◌&&◌, List, [], ◌++◌, ◌≡◌, ℕ, ◌<◌, ◌^◌, leb, ℤ, length, take, drop}
use Rattle.std.specs.Prelude.{Option}
use Rattle.codec.specs.Numbers.{spelled, bytes_of}
use Rattle.codec.specs.Fields.{head}
use Rattle.codec.specs.Format.{num, int, field, when}

-- a number has at most eight bytes
abbrev pub widest : ℕ
widest = 8

abbrev pub is_there : ℕ → List ℕ → Bool
is_there n bs = leb n widest && leb n (length bs)

-- the number that the first n bytes spell; 0 where they are not there
unfoldable pub number_at : ℕ → List ℕ → ℕ
number_at n bs = cond (is_there n bs) (spelled 0 (take n bs)) 0

-- the n bytes from place p on spell v
pub record Spells (s : List ℕ) (p n v : ℕ) : Type 0 where
  pub is : spelled 0 (take n (drop p s)) ≡ v
  pub small : v < 256 ^ n

-- the bytes of a number; none where it is too wide
unfoldable pub number_bytes : ℕ → ℕ → List ℕ
number_bytes n v = cond (leb n widest) (bytes_of n v) []

-- the bytes of a field of one number; none where it is too wide
unfoldable pub number_field_bytes : ℕ → ℕ → ℕ → List ℕ
number_field_bytes tag n v = cond (leb n widest) (head tag n ++ bytes_of n v) []

-- a field of one number from lo to hi
unfoldable pub number_field : ℕ → ℕ → ℕ → ℕ → List ℕ → Option ℕ
number_field tag n lo hi bs = when (leb n widest) (field tag (num n lo hi) bs)

-- a signed number of eight bytes, of at most this magnitude
unfoldable pub amount_at : ℕ → List ℕ → Option ℤ
amount_at most bs = when (leb widest (length bs)) ((int most).get bs)
