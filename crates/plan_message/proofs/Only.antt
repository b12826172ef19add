-- Reading and writing a plan are answered, no second answer fits nor a second buffer, and their rows stand in the order of refusals.
-- Assumes nothing.
use mathlib.Core.Path.{◌≡◌, refl, sym, ◌∙◌}
use mathlib.Core.Bool.{true}
use mathlib.Core.List.{List, [], ◌∷◌}
use Prim.Native.Nat.{ℕ}
use native.Mathlib.Omega.{arith}
use lib.ListN.{length}
use Rattle.std.specs.Prelude.{Result}
use Rattle.refusals.specs.declared.Refusal.{Refusal}
use Rattle.refusals.specs.declared.Refusal.TheVariants.{Malformed}
use Rattle.refusals.specs.declared.RefusedAt.{RefusedAt}
use Rattle.refusals.specs.Refusals.{first_applicable}
use Rattle.refusals.specs.Order.{in_turn, in_order_of}
use Rattle.refusals.specs.Answers.{One}
use Rattle.refusals.proofs.Cases.{same_place}
use Rattle.refusals.proofs.Writing.{only_laid, one_laid}
use Rattle.plan.specs.declared.Plan.{Plan}
use Rattle.plan.specs.Plan.{no_plan}
use Rattle.plan.proofs.Parts.{one_part}
use Rattle.codec.specs.Message.{Reading, whole, refused, is_refused, place_in, value_in}
use Rattle.plan_message.specs.Form.{plan_bytes, plan_form, plan_reading}
use Rattle.plan_message.specs.Calls.{read_plan_rows, read_plan_place, read_plan_value, ReadPlanGives, write_plan_rows, write_plan_buffer, WritePlanGives}

pub only_read_plan : (bs : List ℕ) (r s : Result Plan RefusedAt) → ReadPlanGives bs r → ReadPlanGives bs s → r ≡ s
only_read_plan bs r s p q = same_place no_plan r s (p.0 ∙ sym q.0) (p.2 ∙ sym q.2) (p.1 ∙ sym q.1)

pub one_read_plan : (bs : List ℕ) → One (ReadPlanGives bs)
one_read_plan bs = one_part no_plan (read_plan_rows bs) (read_plan_value bs) (read_plan_place bs) (no_place (plan_reading bs)) (no_value (plan_reading bs))
  where
    no_place : (r : Reading Plan) → first_applicable ((Malformed, is_refused r) ∷ []) ≡ 0 → place_in r ≡ 0
    no_place (whole p) z = refl
    no_place (refused why place) z = let n : ◌≡◌ {A = ℕ} 13 0 = z in absurd (omega arith)

    no_value : (r : Reading Plan) → (first_applicable ((Malformed, is_refused r) ∷ []) ≡ 0 → ⊥) → value_in no_plan r ≡ no_plan
    no_value (whole p) z = absurd (z refl)
    no_value (refused why place) z = refl

pub read_plan_in_turn : (bs : List ℕ) → in_order_of in_turn (read_plan_rows bs) ≡ true
read_plan_in_turn bs = refl

pub only_write_plan : (plan : Plan) (out : List ℕ) (r s : Result ℕ Refusal) (o p : List ℕ) → WritePlanGives plan out r o → WritePlanGives plan out s p → (r ≡ s) × (o ≡ p)
only_write_plan plan out r s o p a b = only_laid (write_plan_rows plan (length out)) (length (plan_bytes plan)) (write_plan_buffer plan out) r s o p a b

pub one_write_plan : (p : Plan) (out : List ℕ) → One (λ (r : Result ℕ Refusal × List ℕ). WritePlanGives p out r.0 r.1)
one_write_plan p out = one_laid (write_plan_rows p (length out)) (length (plan_bytes p)) (write_plan_buffer p out)

pub write_plan_in_turn : (p : Plan) (room : ℕ) → in_order_of in_turn (write_plan_rows p room) ≡ true
write_plan_in_turn p room = refl
