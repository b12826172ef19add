-- A message is bytes that a format takes from the first to the last, at most so many. What reading and writing one give, and
-- the place of a refusal, for values M that are made of what the format reads.
use Rattle.std.specs.Prelude.{Bool, true, false, cond, List, [], ◌∷◌, ◌++◌, ℕ, ◌-◌, leb, length, drop}
use Rattle.codec.specs.Format.{Res, got, stopped, Codec, malformed}

-- ---- reading
-- a value, or a refusal's number and place
pub data Reading (M : Type 0) : Type 0 where
  whole : M → Reading M
  refused : ℕ → ℕ → Reading M

-- refused where the format stops, by its number; 13 where bytes are left over
abbrev pub finish : {A M : Type 0} → (A → M) → ℕ → Res A → Reading M
finish from_parts n (got a []) = whole (from_parts a)
finish from_parts n (got a (x ∷ rest)) = refused malformed (n - length (x ∷ rest))
finish from_parts n (stopped why rest) = refused why (n - length rest)

-- longer bytes are refused at the limit before reading
unfoldable pub reading : {A M : Type 0} → Codec A → (A → M) → ℕ → List ℕ → Reading M
reading c from_parts most bs = cond (leb (length bs) most) (finish from_parts (length bs) (c.read bs)) (refused malformed most)

-- bytes of any number
abbrev pub reading_all : {A M : Type 0} → Codec A → (A → M) → List ℕ → Reading M
reading_all c from_parts bs = reading c from_parts (length bs) bs

abbrev pub is_refused : {M : Type 0} → Reading M → Bool
is_refused (whole v) = false
is_refused (refused why place) = true

-- the number of a refusal, 0 where there is none
abbrev pub why_in : {M : Type 0} → Reading M → ℕ
why_in (whole v) = 0
why_in (refused why place) = why

abbrev pub place_in : {M : Type 0} → Reading M → ℕ
place_in (whole v) = 0
place_in (refused why place) = place

-- the value that is read, or another beside a refusal
abbrev pub value_in : {M : Type 0} → M → Reading M → M
value_in d (whole v) = v
value_in d (refused why place) = d

-- ---- writing
-- how many bytes are written, none where the writing is refused
abbrev pub length_in : Bool → List ℕ → ℕ
length_in accepted bs = cond accepted (length bs) 0

-- the buffer with these bytes in front and every byte past them as it was; as it was where the writing is refused
abbrev pub buffer_in : Bool → List ℕ → List ℕ → List ℕ
buffer_in accepted bs out = cond accepted (bs ++ drop (length bs) out) out
