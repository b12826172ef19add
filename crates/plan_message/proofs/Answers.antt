-- What reading and writing a plan answer, a law for each return. Assumes nothing.
use mathlib.Core.Path.{◌≡◌, refl, ap, ◌∙◌}
use mathlib.Core.List.{List}
use Rattle.std.specs.Prelude.{Some, None, Ok, Err}
use Prim.Native.Nat.{ℕ, ◌≤◌, ◌<◌}
use native.Mathlib.Nat.{zero-add}
use native.Mathlib.Omega.{arith}
use borrow.Author.Tests.{lt-ltb, le-ltb}
use lib.ListN.{length}
use Rattle.refusals.specs.declared.Refusal.TheVariants.{NoRoom}
use Rattle.plan.specs.declared.Plan.{Plan}
use Rattle.codec.specs.Format.{malformed, need, ReadAt}
use Rattle.codec.specs.Buffers.{Wrote}
use Rattle.codec.specs.Message.{whole, refused}
use Rattle.codec.proofs.Buffers.{front}
use Rattle.codec.proofs.Message.{longer}
use Rattle.codec.proofs.Steps as Steps
use Rattle.plan_message.specs.Form.{plan_item, plan_form, plan_bytes, most_bytes, plan_reading}
use Rattle.plan_message.specs.Calls.{ReadPlanGives, WritePlanGives}
use Rattle.plan_message.specs.Steps.{message_bytes, malformed_at}
use Rattle.plan_message.proofs.Laws.{message_size, plan_item_law}

-- ---- how far the reading comes
module _ (s : List ℕ) where
  -- there are too many bytes
  pub too_long : most_bytes < length s → plan_reading s ≡ refused malformed most_bytes
  too_long = longer plan_form (λ p. p) most_bytes s

  module _ (few : length s ≤ most_bytes) where
    -- they do not begin with the field of a plan
    pub no_field : plan_item.look s ≡ None → plan_reading s ≡ refused malformed 0
    no_field e = Steps.stopped_whole plan_form (λ p. p) most_bytes s few (record { is = ap (need plan_item s) e; inside = omega arith })

    module _ {p : Plan} (e : plan_item.look s ≡ Some p) where
      at_front : ReadAt plan_form s 0 p (message_bytes p)
      at_front = record { is = ap (need plan_item s) e; inside = (plan_item_law.taken s p e).1 }

      -- something follows it
      pub followed : message_bytes p < length s → plan_reading s ≡ refused malformed (message_bytes p)
      followed = Steps.left_over plan_form (λ p. p) most_bytes s few at_front

      -- nothing does
      pub alone : length s ≤ message_bytes p → plan_reading s ≡ whole p
      alone = Steps.none_left plan_form (λ p. p) most_bytes s few at_front

  -- ---- what the calls ensure
  pub gives_refused : (place : ℕ) → plan_reading s ≡ refused malformed place → ReadPlanGives s (Err (malformed_at place))
  gives_refused place f = rw f (refl, refl, refl)

  pub gives_plan : (p : Plan) → plan_reading s ≡ whole p → ReadPlanGives s (Ok p)
  gives_plan p f = rw f (refl, refl, refl)

module _ (p : Plan) (o : List ℕ) where
  pub gives_no_room : length o < message_bytes p → WritePlanGives p o (Err NoRoom) o
  gives_no_room h = simp (lt-ltb (length o) (length (plan_bytes p)) (omega (arith, message_size p))) (refl, refl, refl)

  pub gives_length : {o' : List ℕ} {n : ℕ} → message_bytes p ≤ length o → Wrote o 0 (plan_bytes p) o' n → WritePlanGives p o (Ok n) o'
  gives_length h w =
      let k : length (plan_bytes p) ≤ length o = omega (arith, message_size p) in
      simp (le-ltb (length o) (length (plan_bytes p)) k) (refl, w.to ∙ zero-add (length (plan_bytes p)), front w k)
