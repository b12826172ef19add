-- The field of a plan: how many bytes it has, what bytes hold it, and that its layouts keep the laws of a value. Assumes nothing.
use mathlib.Core.Path.{◌≡◌, refl, sym, ap, ◌∙◌}
use mathlib.Core.Bool.{Bool, true, false, cond, not, ◌&&◌, true≢false}
use mathlib.Core.List.{List}
use Rattle.std.specs.Prelude.{Option, Some, None}
use Rattle.std.specs.Bool.{then_some}
use Prim.Native.Nat.{ℕ, ◌+◌, ◌≤◌}
use native.Mathlib.Nat.{le_refl}
use native.Mathlib.Omega.{arith}
use borrow.Author.Tests.{eq-eqb, eqb-true, ne_eqb, le-leb}
use lib.Dec.{leb, eqb}
use lib.ListN.{length, drop, length-append}
use Rattle.lists.proofs.Tests.{not_yes}
use Rattle.plan.specs.declared.Plan.{Plan}
use Rattle.codec.specs.Fields.{head, framed}
use Rattle.codec.specs.Format.{Value, num, pair, mapped, tagged, field, field_of, when, map_o, bind_o}
use Rattle.codec.specs.Shapes.{beside, first_found}
use Rattle.codec.specs.Numbers.{bytes_of}
use Rattle.codec.specs.Buffers.{Wrote}
use Rattle.codec.specs.Leaves.{Spells, number_at, number_bytes}
use Rattle.codec.specs.Theorems.{Bytes}
use Rattle.codec.proofs.Numbers.{bytes_length}
use Rattle.codec.proofs.Items.{ItemLaws, length_head, tagged_laws}
use Rattle.codec.proofs.Either.{beside_laws, lengths_apart, either_laws}
use Rattle.codec.proofs.Values.{ValueLaws, num_laws, pair_laws, mapped_laws, restricted_laws}
use Rattle.codec.proofs.Positions.{room, field_is, field_not}
use Rattle.codec.proofs.Found.{Whole, free, next, restricted_passes, spells}
use Rattle.codec.proofs.Putting.{Laid, run_then, number_then, number_last, room_after}
use Rattle.codec.proofs.Buffers.{wrote, then, same}
use Rattle.plan_message.specs.Form.{Numbers, numbers, to_plan, from_plan, is_plain, plain_layout, caused_layout, plan_item, plan_tag, plan_bytes}
use Rattle.plan_message.specs.Steps.{message_bytes, Begins, CauseIn}
use Rattle.plan_message.specs.Theorems.{plan_fits}

-- ---- the numbers of a plan, from the last to the first
abbrev short : Value ℕ
short = num 2 0 65535

abbrev long : Value ℕ
long = num 4 0 4294967295

abbrev from_count : Value (ℕ × ℕ)
from_count = pair short short

abbrev from_step : Value (ℕ × (ℕ × ℕ))
from_step = pair short from_count

abbrev from_length : Value (ℕ × (ℕ × (ℕ × ℕ)))
from_length = pair long from_step

short_laws : ValueLaws short
short_laws = num_laws 2 0 65535 (omega arith)

long_laws : ValueLaws long
long_laws = num_laws 4 0 4294967295 (omega arith)

numbers_laws : ValueLaws numbers
numbers_laws =
    pair_laws long from_length long_laws
    (pair_laws long from_step long_laws
    (pair_laws short from_count short_laws
    (pair_laws short short short_laws short_laws)))

-- ---- the two layouts
abbrev cause : Value ℕ
cause = num 1 0 255

abbrev with_cause : Value Plan
with_cause = mapped to_plan from_plan (pair numbers cause)

plain_laws : ValueLaws plain_layout
plain_laws = mapped_laws to_plan from_plan (beside 1 numbers) (λ p. refl) (λ n. refl) (beside_laws 1 numbers numbers_laws)

caused_laws : ValueLaws caused_layout
caused_laws =
    restricted_laws (λ p. not (is_plain p)) with_cause
    (mapped_laws to_plan from_plan (pair numbers cause) (λ p. refl) (λ n. refl) (pair_laws numbers cause numbers_laws (num_laws 1 0 255 (omega arith))))

-- the cause tells which of the two was found
plain_is : (bs : List ℕ) (p : Plan) → field plan_tag plain_layout bs ≡ Some p → is_plain p ≡ true
unfolding field
plain_is bs p e = by (framed plan_tag 14 bs) (numbers.get (drop 3 bs)) e
  where
    by : (t : Bool) (o : Option Numbers) → when t (map_o to_plan (map_o (λ n. (n, 1)) o)) ≡ Some p → is_plain p ≡ true
    by true (Some n) e = let q : to_plan (n, 1) ≡ p = cc in ap is_plain (sym q)
    by true None e = absurd (let z : ◌≡◌ {A = ℕ} 0 1 = cc in omega arith)
    by false o e = absurd (let z : ◌≡◌ {A = ℕ} 0 1 = cc in omega arith)

pub plan_item_law : ItemLaws plan_item
plan_item_law =
    either_laws is_plain (tagged plan_tag plain_layout) (tagged plan_tag caused_layout)
    (tagged_laws plan_tag plain_layout (omega arith) plain_laws)
    (tagged_laws plan_tag caused_layout (omega arith) caused_laws)
    (le_refl plan_tag) (le_refl plan_tag) plain_is
    (λ bs p e. not_yes (is_plain p) (restricted_passes plan_tag with_cause bs (λ p. not (is_plain p)) p e))
    (λ p rest h. lengths_apart plan_tag plain_layout caused_layout (omega arith) (λ e. omega arith) p rest)

-- whatever it holds, its message has so many bytes
pub message_size : (p : Plan) → length (plan_bytes p) ≡ message_bytes p
unfolding plan_bytes field_of
message_size p = by (is_plain p)
  where
    by : (t : Bool) → length (cond t (field_of plan_tag plain_layout p) (field_of plan_tag caused_layout p)) ≡ cond t 17 18
    by true = simp (length-append, length_head, bytes_length)
    by false = simp (length-append, length_head, bytes_length)

-- a plan whose numbers fit may be written, and no other
pub fits_fine : (p : Plan) → plan_fits p ≡ plan_item.fine p
fits_fine p = by (is_plain p) refl
  where
    few : Bool
    few = numbers.fine (from_plan p).0

    and_true : (b : Bool) → b ≡ (b && true)
    and_true true = refl
    and_true false = refl

    by : (t : Bool) → is_plain p ≡ t → plan_fits p ≡ cond t (plain_layout.fine p) (caused_layout.fine p)
    by true e = let c : p.cause ≡ 1 = eqb-true p.cause 1 e in ap (λ (b : Bool). few && b) (le-leb p.cause 255 (omega arith) ∙ sym e)
    by false e =
        ap (λ (b : Bool). few && (b && leb p.cause 255)) (sym (le-leb 0 p.cause (omega arith)))
        ∙ and_true (few && (leb 0 p.cause && leb p.cause 255))
        ∙ ap (λ (b : Bool). (few && (leb 0 p.cause && leb p.cause 255)) && not b) (sym e)

-- ---- in the bytes handed in: which field they begin with
-- a plan that names its cause, if that is not 1
abbrev passed : Option Plan → Option Plan
passed o = bind_o o (λ p. when (not (is_plain p)) (Some p))

module _ (s : List ℕ) where
  pub plain_begins : framed plan_tag 14 s ≡ true → Begins s 1
  plain_begins w = record {
    len = 14;
    is = w;
    long = omega arith;
    holds = λ n h. ap (λ (o : Option Plan). first_found o (field plan_tag caused_layout s)) (field_is plan_tag plain_layout s 0 w ∙ ap (λ (o : Option Numbers). map_o to_plan (map_o (λ n. (n, 1)) o)) h);
  }

  module _ (w : framed plan_tag 14 s ≡ false) where
    -- it is not the shorter one
    not_plain : plan_item.look s ≡ field plan_tag caused_layout s
    not_plain = ap (λ (o : Option Plan). first_found o (field plan_tag caused_layout s)) (field_not plan_tag plain_layout s w)

    pub no_plan : framed plan_tag 15 s ≡ false → plan_item.look s ≡ None
    no_plan v = not_plain ∙ field_not plan_tag caused_layout s v

    module _ (v : framed plan_tag 15 s ≡ true) {c : ℕ} (x : Spells s 17 1 c) where
      caused : {o : Option Numbers} → numbers.get (drop 3 s) ≡ o → plan_item.look s ≡ passed (map_o to_plan (bind_o o (λ n. Some (n, c))))
      caused h = not_plain ∙ field_is plan_tag caused_layout s 0 v ∙ ap (λ (o : Option (Numbers × ℕ)). passed (map_o to_plan o)) (next numbers cause s 3 h (free x 255 (omega arith)))

      caused_begins : (c ≡ 1 → ⊥) → Begins s c
      caused_begins ne = record {
        len = 15;
        is = v;
        long = omega arith;
        holds = λ n h. caused h ∙ rw (ne_eqb c 1 ne) refl;
      }

      -- a 1 that is written out
      one_written : c ≡ 1 → plan_item.look s ≡ None
      one_written e = by (numbers.get (drop 3 s)) refl
        where
          by : (o : Option Numbers) → numbers.get (drop 3 s) ≡ o → plan_item.look s ≡ None
          by None h = caused h
          by (Some n) h = caused h ∙ rw (eq-eqb c 1 e) refl

      -- so the longer field is one of any cause but that
      pub cause_but_one : CauseIn s (then_some (not (eqb c 1)) c)
      cause_but_one = by (eqb c 1) refl
        where
          by : (t : Bool) → eqb c 1 ≡ t → CauseIn s (then_some (not t) c)
          by true e = one_written (eqb-true c 1 e)
          by false e = caused_begins (λ h. true≢false (sym (eq-eqb c 1 h) ∙ e))

-- the plan whose numbers stand there
module _ {s : List ℕ} {cause : ℕ} (b : Begins s cause) (all : Bytes s) where
  begun : Whole s 0 plan_tag b.len
  begun = record { bytes = all; is = b.is; fits = room plan_tag b.len s 0 b.is }

  -- a number that was read there
  pub number_in : {p n v : ℕ} → n ≤ 8 → p + n ≤ 17 → v ≡ number_at n (drop p s) → Spells s p n v
  number_in k h e = spells begun k (omega (arith, h, b.long)) e

  pub plan_read : {a l d n m : ℕ} → Spells s 3 4 a → Spells s 7 4 l → Spells s 11 2 d → Spells s 13 2 n → Spells s 15 2 m
      → plan_item.look s ≡ Some (record { start = a; length = l; step = d; count = n; mw = m; cause = cause })
  plan_read {a} {l} {d} {n} {m} x y z u v =
      b.holds (a, (l, (d, (n, m))))
      (next long from_length s 3 (free x 4294967295 (omega arith))
      (next long from_step s 7 (free y 4294967295 (omega arith))
      (next short from_count s 11 (free z 65535 (omega arith))
      (next short short s 13 (free u 65535 (omega arith)) (free v 65535 (omega arith))))))

-- ---- in a lent buffer: five numbers one after the other
abbrev pub numbers_of : Plan → List ℕ
numbers_of p = numbers.put (from_plan p).0

pub numbers_size : (p : Plan) → length (numbers_of p) ≡ 14
numbers_size p = simp (length-append, bytes_length)

pub numbers_laid : {o : List ℕ} {n : ℕ} {o2 : List ℕ} {n2 : ℕ} {o3 : List ℕ} {n3 : ℕ} {o4 : List ℕ} {n4 : ℕ} {o5 : List ℕ} {n5 : ℕ} {o6 : List ℕ} {n6 : ℕ} (p : Plan)
    → n + 14 ≤ length o
    → Laid o n (number_bytes 4 p.start) o2 n2 → Laid o2 n2 (number_bytes 4 p.length) o3 n3
    → Laid o3 n3 (number_bytes 2 p.step) o4 n4 → Laid o4 n4 (number_bytes 2 p.count) o5 n5 → Laid o5 n5 (number_bytes 2 p.mw) o6 n6
    → Wrote o n (numbers_of p) o6 n6
numbers_laid p r b c d e f =
    number_then 4 p.start (omega arith) (omega (arith, r, numbers_size p)) b (λ r.
    number_then 4 p.length (omega arith) r c (λ r.
    number_then 2 p.step (omega arith) r d (λ r.
    number_then 2 p.count (omega arith) r e (λ r.
    number_last 2 p.mw (omega arith) r f))))

-- room for them behind the head
least : (p : Plan) → 17 ≤ message_bytes p
least p = by (is_plain p)
  where
    by : (t : Bool) → 17 ≤ cond t 17 18
    by true = omega arith
    by false = omega arith

pub head_room : (p : Plan) (len : ℕ) (o o1 : List ℕ) (n1 : ℕ) → message_bytes p ≤ length o → Laid o 0 (head plan_tag len) o1 n1 → n1 + 14 ≤ length o1
head_room p len o o1 n1 h a =
    let w = wrote (omega (arith, h, least p, length_head plan_tag len)) a in
    omega (arith, h, least p, w.to, same w, length_head plan_tag len)

-- head and numbers, and the cause behind them where it is not 1
module _ (p : Plan) {o o1 o2 : List ℕ} {n1 n2 : ℕ} where
  pub plain_laid : is_plain p ≡ true → message_bytes p ≤ length o → Laid o 0 (head plan_tag 14) o1 n1 → Wrote o1 n1 (numbers_of p) o2 n2 → Wrote o 0 (plan_bytes p) o2 n2
  unfolding plan_bytes field_of
  plain_laid e r a b =
      let k = rw e at r in
      rw e (run_then (head plan_tag 14) (simp (length-append, length_head, bytes_length) (omega (arith, k))) a (λ r. b))

  pub caused_laid : {o3 : List ℕ} {n3 : ℕ} → is_plain p ≡ false → message_bytes p ≤ length o → Laid o 0 (head plan_tag 15) o1 n1 → Wrote o1 n1 (numbers_of p) o2 n2
      → Laid o2 n2 (number_bytes 1 p.cause) o3 n3 → Wrote o 0 (plan_bytes p) o3 n3
  unfolding plan_bytes field_of
  caused_laid e r a b c =
      let k = rw e at r in
      rw e
      (run_then (head plan_tag 15) (simp (length-append, length_head, bytes_length) (omega (arith, k))) a (λ r.
      then b (number_last 1 p.cause (omega arith) (room_after (bytes_of 1 p.cause) r b) c)))
