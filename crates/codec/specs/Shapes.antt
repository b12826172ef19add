-- More ways to put fields together: a field that is one of two, and fields that repeat as often as they are there, each of which
-- a rule can refuse by a number of its own.
use Rattle.std.specs.Prelude.{Bool, true, cond, ◌&&◌, List, [], ◌∷◌, ◌++◌, ℕ, zero, suc, eqb, length, drop}
use Rattle.std.specs.Prelude.{Option, Some, None}
use Rattle.codec.specs.Format.{Value, map_o, Item, tagged, Res, got, stopped, Codec, more, texts, all_fine}

-- a value with a number beside it that is always k and is not written
abbrev pub beside : {A : Type 0} → ℕ → Value A → Value (A × ℕ)
beside k v = record {
  len = v.len;
  get = λ l. map_o (λ a. (a, k)) (v.get l);
  put = λ p. v.put p.0;
  fine = λ p. v.fine p.0 && eqb p.1 k;
}

-- a field that is one of two: the first where the test holds of its value, else the second. Two lengths under one tag, or two
-- tags next to each other
abbrev pub first_found : {A : Type 0} → Option A → Option A → Option A
first_found None o = o
first_found (Some a) o = Some a

abbrev pub either : {A : Type 0} → (A → Bool) → Item A → Item A → Item A
either is f g = record {
  tag = f.tag;
  last = g.last;
  look = λ bs. first_found (f.look bs) (g.look bs);
  size = λ a. cond (is a) (f.size a) (g.size a);
  text = λ a. cond (is a) (f.text a) (g.text a);
  fine = λ a. cond (is a) (f.fine a) (g.fine a);
}

-- a value under a tag, with 0 beside it, or under the next tag, with 1
abbrev pub two_tags : {A : Type 0} → ℕ → Value A → Item (A × ℕ)
two_tags tag v = either (λ p. eqb p.1 0) (tagged tag (beside 0 v)) (tagged (suc tag) (beside 1 v))

-- as many as there are: each that is found keeps the rule after those before it, which gives 0, or it is refused where it stands by
-- the number that the rule gives
abbrev pub ruled : {A : Type 0} → List ℕ → ℕ → Res (List A) → Res (List A)
ruled bs zero go = go
ruled bs (suc k) go = stopped (suc k) bs

unfoldable pub scan_by : {A : Type 0} → (List A → Item A) → (List A → A → ℕ) → ℕ → List A → List ℕ → Res (List A)
scan_by f rule zero before bs = got before bs
scan_by f rule (suc n) before bs =
    more before bs (λ a. ruled bs (rule before a) (scan_by f rule n (before ++ (a ∷ [])) (drop ((f before).size a) bs))) ((f before).look bs)

unfoldable pub all_keep : {A : Type 0} → (List A → A → ℕ) → List A → List A → Bool
all_keep rule before [] = true
all_keep rule before (a ∷ l) = eqb (rule before a) 0 && all_keep rule (before ++ (a ∷ [])) l

abbrev pub every : {A : Type 0} → (List A → Item A) → (List A → A → ℕ) → Codec (List A)
every f rule = record { read = λ bs. scan_by f rule (length bs) [] bs; write = texts f []; ok = λ l. all_fine f [] l && all_keep rule [] l }
