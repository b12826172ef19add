-- A format is a term: values of a fixed number of bytes, fields with a tag, and fields in order. Each part says how it is
-- read, how it is written, and what may be written, so that reading and writing are one definition.
use Rattle.std.specs.Prelude.{Bool, true, false, ◌&&◌, ◌||◌, List, [], ◌∷◌, ◌++◌, ◌≡◌, ℕ, zero, suc, ◌+◌, ◌≤◌, leb, ℤ, nat_abs, length, take, drop}
use Rattle.std.specs.Prelude.{Option, Some, None}
use Rattle.std.specs.Int.{w64}
use Rattle.std.proofs.Common.{to_z, of_z}
use Rattle.codec.specs.Numbers.{spelled, bytes_of}
use Rattle.codec.specs.Fields.{head, framed}

-- ---- values
pub record Value (A : Type 0) : Type 0 where
  pub len : ℕ
  pub get : List ℕ → Option A
  pub put : A → List ℕ
  pub fine : A → Bool

-- what is there, where the test holds
abbrev pub when : {A : Type 0} → Bool → Option A → Option A
when true o = o
when false o = None

abbrev pub map_o : {A B : Type 0} → (A → B) → Option A → Option B
map_o g None = None
map_o g (Some a) = Some (g a)

abbrev pub bind_o : {A B : Type 0} → Option A → (A → Option B) → Option B
bind_o None g = None
bind_o (Some a) g = g a

-- a number of n bytes, from lo to hi
abbrev pub num : ℕ → ℕ → ℕ → Value ℕ
num n lo hi = record {
  len = n;
  get = λ l. when (leb lo (spelled 0 (take n l)) && leb (spelled 0 (take n l)) hi) (Some (spelled 0 (take n l)));
  put = bytes_of n;
  fine = λ v. leb lo v && leb v hi;
}

-- a signed number of eight bytes, of at most this magnitude
abbrev pub int : ℕ → Value ℤ
int most = record {
  len = 8;
  get = λ l. when (leb (nat_abs (to_z w64 (spelled 0 (take 8 l)))) most) (Some (to_z w64 (spelled 0 (take 8 l))));
  put = λ z. bytes_of 8 (of_z w64 z);
  fine = λ z. leb (nat_abs z) most;
}

-- one value and then another
abbrev pub pair : {A B : Type 0} → Value A → Value B → Value (A × B)
pair v w = record {
  len = v.len + w.len;
  get = λ l. bind_o (v.get l) (λ a. map_o (λ b. (a, b)) (w.get (drop v.len l)));
  put = λ p. v.put p.0 ++ w.put p.1;
  fine = λ p. v.fine p.0 && w.fine p.1;
}

-- the same bytes as another kind of value
abbrev pub mapped : {A B : Type 0} → (A → B) → (B → A) → Value A → Value B
mapped to from v = record { len = v.len; get = λ l. map_o to (v.get l); put = λ b. v.put (from b); fine = λ b. v.fine (from b) }

-- only those that pass a test
abbrev pub restricted : {A : Type 0} → (A → Bool) → Value A → Value A
restricted test v = record {
  len = v.len;
  get = λ l. bind_o (v.get l) (λ a. when (test a) (Some a));
  put = v.put;
  fine = λ a. v.fine a && test a;
}

-- ---- fields
-- its tag, or the lowest and the highest of those that it may have
pub record Item (A : Type 0) : Type 0 where
  pub tag : ℕ
  pub last : ℕ
  pub look : List ℕ → Option A
  pub size : A → ℕ
  pub text : A → List ℕ
  pub fine : A → Bool

unfoldable pub field : {A : Type 0} → ℕ → Value A → List ℕ → Option A
field tag v bs = when (framed tag v.len bs) (v.get (drop 3 bs))

unfoldable pub field_of : {A : Type 0} → ℕ → Value A → A → List ℕ
field_of tag v a = head tag v.len ++ v.put a

-- a field of this tag: found where it is whole, of the right length, and its value is allowed
abbrev pub tagged : {A : Type 0} → ℕ → Value A → Item A
tagged tag v = record { tag = tag; last = tag; look = field tag v; size = λ a. 3 + v.len; text = field_of tag v; fine = v.fine }

-- ---- fields in order
-- what a reader makes of bytes: a value and the bytes that are left, or a refusal's number and the bytes where it stands
pub data Res (A : Type 0) : Type 0 where
  got : A → List ℕ → Res A
  stopped : ℕ → List ℕ → Res A

pub record Codec (A : Type 0) : Type 0 where
  pub read : List ℕ → Res A
  pub write : A → List ℕ
  pub ok : A → Bool

-- rule 12.1: the number of bytes that are no return
abbrev pub malformed : ℕ
malformed = 13

-- a field that has to be there
abbrev pub need : {A : Type 0} → Item A → List ℕ → Option A → Res A
need f bs (Some a) = got a (drop (f.size a) bs)
need f bs None = stopped malformed bs

abbrev pub one : {A : Type 0} → Item A → Codec A
one f = record { read = λ bs. need f bs (f.look bs); write = f.text; ok = f.fine }

-- a field that is left out for the value that d has, and for it alone: the test is true of that value and of nothing else.
-- Where d has none the field has to be there
abbrev pub absent : {A : Type 0} → Option A → List ℕ → Res A
absent (Some d) bs = got d bs
absent None bs = stopped malformed bs

abbrev pub or_else : {A : Type 0} → Item A → Option A → List ℕ → Option A → Res A
or_else f d bs (Some a) = got a (drop (f.size a) bs)
or_else f d bs None = absent d bs

abbrev pub unless : Bool → List ℕ → List ℕ
unless true bs = []
unless false bs = bs

abbrev pub opt : {A : Type 0} → Item A → Option A → (A → Bool) → Codec A
opt f d is = record { read = λ bs. or_else f d bs (f.look bs); write = λ a. unless (is a) (f.text a); ok = λ a. is a || f.fine a }

-- at most n fields, in their order: what one may hold can depend on those before it
abbrev pub more : {A : Type 0} → List A → List ℕ → (A → Res (List A)) → Option A → Res (List A)
more before bs k None = got before bs
more before bs k (Some a) = k a

unfoldable pub scan : {A : Type 0} → (List A → Item A) → ℕ → List A → List ℕ → Res (List A)
scan f zero before bs = got before bs
scan f (suc n) before bs = more before bs (λ a. scan f n (before ++ (a ∷ [])) (drop ((f before).size a) bs)) ((f before).look bs)

unfoldable pub texts : {A : Type 0} → (List A → Item A) → List A → List A → List ℕ
texts f before [] = []
texts f before (a ∷ l) = (f before).text a ++ texts f (before ++ (a ∷ [])) l

unfoldable pub all_fine : {A : Type 0} → (List A → Item A) → List A → List A → Bool
all_fine f before [] = true
all_fine f before (a ∷ l) = (f before).fine a && all_fine f (before ++ (a ∷ [])) l

abbrev pub many : {A : Type 0} → (List A → Item A) → ℕ → Codec (List A)
many f n = record { read = scan f n []; write = texts f []; ok = λ l. leb (length l) n && all_fine f [] l }

-- one after the other: what follows can depend on what was read first
abbrev pub pair_up : {A B : Type 0} → A → Res B → Res (A × B)
pair_up a (got b r) = got (a, b) r
pair_up a (stopped n r) = stopped n r

abbrev pub and_then : {A B : Type 0} → (A → Codec B) → Res A → Res (A × B)
and_then d (got a r) = pair_up a ((d a).read r)
and_then d (stopped n r) = stopped n r

abbrev pub both : {A B : Type 0} → Codec A → (A → Codec B) → Codec (A × B)
both c d = record {
  read = λ bs. and_then d (c.read bs);
  write = λ p. c.write p.0 ++ (d p.0).write p.1;
  ok = λ p. c.ok p.0 && (d p.0).ok p.1;
}

-- ---- at a place of the bytes handed in
-- a is read from place `at` on, and what is left starts at `next`
pub record ReadAt {A : Type 0} (c : Codec A) (s : List ℕ) (at : ℕ) (a : A) (next : ℕ) : Type 0 where
  pub is : c.read (drop at s) ≡ got a (drop next s)
  pub inside : next ≤ length s

-- from place `at` on it stops by this number, at that place
pub record StoppedAt {A : Type 0} (c : Codec A) (s : List ℕ) (at why place : ℕ) : Type 0 where
  pub is : c.read (drop at s) ≡ stopped why (drop place s)
  pub inside : place ≤ length s
