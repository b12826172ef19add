-- One step of a reader after another: what was read, or refused, from a place on, and what it makes of the whole message.
-- Assumes nothing.
use mathlib.Core.Path.{◌≡◌, ap, ◌∙◌}
use mathlib.Core.List.{List, [], ◌∷◌}
use Rattle.std.specs.Prelude.{None}
use Prim.Native.Nat.{ℕ, suc, ◌-◌, ◌≤◌, ◌<◌}
use native.Mathlib.Omega.{arith}
use lib.ListN.{length, drop, get_or, length-drop}
use lib.Seq.{drop-cons, drop-length}
use Rattle.codec.specs.Format.{Value, field, tagged, got, Codec, malformed, one, need, pair_up, and_then, both, ReadAt, StoppedAt}
use Rattle.codec.specs.Message.{whole, refused, finish, reading}
use Rattle.codec.proofs.Message.{short_reading}

-- ---- one part and then another
module _ {A B : Type 0} (c : Codec A) (d : A → Codec B) {s : List ℕ} {at : ℕ} where
  -- both are there
  pub both_read : {mid next : ℕ} {a : A} {b : B} → ReadAt c s at a mid → ReadAt (d a) s mid b next → ReadAt (both c d) s at (a, b) next
  both_read {a} h k = record { is = ap (and_then d) h.is ∙ ap (pair_up a) k.is; inside = k.inside }

  -- the first is not there
  pub first_stopped : {why place : ℕ} → StoppedAt c s at why place → StoppedAt (both c d) s at why place
  first_stopped h = record { is = ap (and_then d) h.is; inside = h.inside }

  -- the first is there and the second is not
  pub then_stopped : {mid why place : ℕ} {a : A} → ReadAt c s at a mid → StoppedAt (d a) s mid why place → StoppedAt (both c d) s at why place
  then_stopped {a} h k = record { is = ap (and_then d) h.is ∙ ap (pair_up a) k.is; inside = k.inside }

-- a required field that is not there
pub one_none : {A : Type 0} (tag : ℕ) (v : Value A) (s : List ℕ) (at : ℕ) → at ≤ length s → field tag v (drop at s) ≡ None → StoppedAt (one (tagged tag v)) s at malformed at
one_none tag v s at h e = record { is = ap (need (tagged tag v) (drop at s)) e; inside = h }

-- ---- the whole message
module _ {A M : Type 0} (c : Codec A) (from_parts : A → M) (most : ℕ) (s : List ℕ) (few : length s ≤ most) where
  left : (place : ℕ) → place ≤ length s → length s - length (drop place s) ≡ place
  left place h = omega (arith, length-drop place s)

  -- it stops by a number
  pub stopped_whole : {why place : ℕ} → StoppedAt c s 0 why place → reading c from_parts most s ≡ refused why place
  stopped_whole {why} {place} h = short_reading c from_parts most s few ∙ ap (finish from_parts (length s)) h.is ∙ ap (refused why) (left place h.inside)

  -- it is read and bytes are left over
  pub left_over : {a : A} {next : ℕ} → ReadAt c s 0 a next → next < length s → reading c from_parts most s ≡ refused malformed next
  left_over {a} {next} h k =
      let e : drop next s ≡ get_or s next 0 ∷ drop (suc next) s = drop-cons s next 0 k in
      let n : length s - suc (length (drop (suc next) s)) ≡ next = omega (arith, length-drop (suc next) s) in
      short_reading c from_parts most s few ∙ ap (finish from_parts (length s)) (h.is ∙ ap (got a) e) ∙ ap (refused malformed) n

  -- it is read and none are
  pub none_left : {a : A} {next : ℕ} → ReadAt c s 0 a next → length s ≤ next → reading c from_parts most s ≡ whole (from_parts a)
  none_left {a} {next} h k =
      let n : next ≡ length s = omega (arith, h.inside) in
      let e : drop next s ≡ [] = ap (λ (x : ℕ). drop x s) n ∙ drop-length s in
      short_reading c from_parts most s few ∙ ap (finish from_parts (length s)) (h.is ∙ ap (got a) e)
