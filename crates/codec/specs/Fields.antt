-- A field is a tag, a length and a value: rule 10.1.
use Rattle.std.specs.Prelude.{Bool, false, ◌&&◌, List, [], ◌∷◌, ℕ, leb, eqb, length}
use Rattle.codec.specs.Numbers.{spelled, bytes_of}

-- the tag and the two length bytes
unfoldable pub head : ℕ → ℕ → List ℕ
head tag len = tag ∷ bytes_of 2 len

-- bytes begin with a field of this tag and length, not cut
unfoldable pub framed : ℕ → ℕ → List ℕ → Bool
framed tag len [] = false
framed tag len (t ∷ []) = false
framed tag len (t ∷ h ∷ []) = false
framed tag len (t ∷ h ∷ l ∷ rest) = eqb t tag && (eqb (spelled 0 (h ∷ l ∷ [])) len && leb len (length rest))
