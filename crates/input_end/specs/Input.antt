-- What counts of an input: rules 11.2 and 20.4.
use Rattle.std.specs.Prelude.{ℕ, ℤ, pos, negsuc, ◌<◌, List, length, take, Option, Result, Ok, Err}
use Rattle.std.specs.Io.KnownBytes.{Consumes, IsAtEnd}

-- where a read moves nothing: at the end of the input all bytes before it count, and none where the read failed, which it
-- says by a number below zero
abbrev pub counted_at : ℤ → ℕ → ℕ
counted_at (pos k) n = n
counted_at (negsuc k) n = 0

-- how many bytes were read, to the end or to a read that failed
abbrev pub place_of : Result ℕ ℕ → ℕ
place_of (Ok n) = n
place_of (Err n) = n

-- ---- where the bytes are known that an input has left, before and after
-- to the end, or until there is no more room
abbrev pub ToTheEnd : Option (List ℕ) → Option (List ℕ) → ℕ → List ℕ → Type 0
ToTheEnd old new n buf = Consumes old new (take n buf) × (n < length buf → IsAtEnd new)

-- or no further than to a read that failed
abbrev pub AsFarAs : Option (List ℕ) → Option (List ℕ) → Result ℕ ℕ → List ℕ → Type 0
AsFarAs old new (Ok n) buf = ToTheEnd old new n buf
AsFarAs old new (Err n) buf = Consumes old new (take n buf)

-- where any counts
abbrev pub Whole : Option (List ℕ) → Option (List ℕ) → ℕ → List ℕ → Type 0
Whole old new n buf = 0 < n → ToTheEnd old new n buf
