-- Bytes, whole fields, how many bytes fields that repeat have, which bytes are a message, and the place of a refusal. No contract is stated by these definitions; theorems speak by them.
use Rattle.std.specs.Prelude.{Bool, false, true, List, [], ◌∷◌, ◌++◌, ◌≡◌, ℕ, ◌+◌, ◌≤◌, ◌<◌, eqb, get_or, length, take, drop}
use Rattle.lists.specs.Lists.{all}
use Rattle.codec.specs.Format.{Item, Codec}
use Rattle.codec.specs.Numbers.{spelled}

-- a list of bytes
abbrev pub Bytes : List ℕ → Type 0
Bytes s = (i : ℕ) → get_or s i 0 < 256

-- bytes are one field, whole, whatever its tag
unfoldable pub is_whole : List ℕ → Bool
is_whole [] = false
is_whole (t ∷ []) = false
is_whole (t ∷ h ∷ []) = false
is_whole (t ∷ h ∷ l ∷ value) = eqb (spelled 0 (h ∷ l ∷ [])) (length value)

-- fields one after the other
unfoldable pub joined : List (List ℕ) → List ℕ
joined [] = []
joined (f ∷ fs) = f ++ joined fs

-- how many bytes they have together
unfoldable pub sizes : {A : Type 0} → (List A → Item A) → List A → List A → ℕ
sizes f before [] = 0
sizes f before (a ∷ l) = (f before).size a + sizes f (before ++ (a ∷ [])) l

-- ---- which bytes are the message of a value
-- the format writes these bytes for what it may write, and the value and its parts are made of each other
pub record Messages {A M : Type 0} (c : Codec A) (from_parts : A → M) (parts : M → A) (Says : M → List ℕ → Type 0) : Type 0 where
  pub said : (a : A) → c.ok a ≡ true → Says (from_parts a) (c.write a)
  pub ok : (v : M) (bs : List ℕ) → Says v bs → c.ok (parts v) ≡ true
  pub is : (v : M) (bs : List ℕ) → Says v bs → c.write (parts v) ≡ bs
  pub back : (v : M) (bs : List ℕ) → Says v bs → from_parts (parts v) ≡ v

-- ---- the place of a refusal: that of the first field that cannot be taken where it stands, or the end
pub record RefusalPlace {M : Type 0} (Says : M → List ℕ → Type 0) (bs : List ℕ) (place : ℕ) : Type 0 where
  -- the place is that of one of the bytes, or their end
  pub inside : place ≤ length bs
  -- the bytes before the place are whole fields
  pub fields : List (List ℕ)
  pub all_whole : all is_whole fields ≡ true
  pub before : take place bs ≡ joined fields
  -- they begin some message
  pub value : M
  pub more : List ℕ
  pub begins : Says value (take place bs ++ more)
  -- no message goes on there with the field that was found, whatever follows it
  pub no_field : (first after : List ℕ) → is_whole first ≡ true → drop place bs ≡ first ++ after → (v : M) (other : List ℕ) → Says v (take place bs ++ (first ++ other)) → ⊥
  -- no message ends there, nor inside a field that is cut
  pub no_end : (v : M) → Says v bs → ⊥
