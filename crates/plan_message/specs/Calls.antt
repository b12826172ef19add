-- What reading and writing a plan check and give: rules 12.3, 12.4, 18.8 and 18.9.
use Rattle.std.specs.Prelude.{List, [], ◌∷◌, ◌≡◌, ℕ, ltb, length, Result}
use Rattle.refusals.specs.declared.Refusal.{Refusal}
use Rattle.refusals.specs.declared.Refusal.TheVariants.{Malformed, NoRoom}
use Rattle.refusals.specs.declared.RefusedAt.{RefusedAt}
use Rattle.refusals.specs.Refusals.{Rows, accepted, answer_number, first_applicable, given_or, why_alone, part_number}
use Rattle.plan.specs.declared.Plan.{Plan}
use Rattle.plan.specs.Plan.{no_plan}
use Rattle.codec.specs.Message.{is_refused, place_in, value_in, length_in, buffer_in}
use Rattle.plan_message.specs.Form.{plan_bytes, plan_reading}

-- ---- a plan is read
abbrev pub read_plan_rows : List ℕ → Rows
read_plan_rows bs = (Malformed, is_refused (plan_reading bs)) ∷ []

-- rule 18.8: 0 beside an accepted reading
abbrev pub read_plan_place : List ℕ → ℕ
read_plan_place bs = place_in (plan_reading bs)

-- rule 12.3: beside a refusal a plan of zeros
abbrev pub read_plan_value : List ℕ → Plan
read_plan_value bs = value_in no_plan (plan_reading bs)

-- what `read_plan` promises of its result
abbrev pub ReadPlanGives : List ℕ → Result Plan RefusedAt → Type 0
ReadPlanGives bs r =
    (answer_number (why_alone r) ≡ first_applicable (read_plan_rows bs))
    × (part_number r ≡ read_plan_place bs)
    × (given_or no_plan (why_alone r) ≡ read_plan_value bs)

-- ---- a plan is written
abbrev pub write_plan_rows : Plan → ℕ → Rows
write_plan_rows p room = (NoRoom, ltb room (length (plan_bytes p))) ∷ []

abbrev pub write_plan_length : Plan → ℕ → ℕ
write_plan_length p room = length_in (accepted (write_plan_rows p room)) (plan_bytes p)

-- rules 12.3 and 18.9: no byte past the message changes, and none beside a refusal
abbrev pub write_plan_buffer : Plan → List ℕ → List ℕ
write_plan_buffer p out = buffer_in (accepted (write_plan_rows p (length out))) (plan_bytes p) out

-- what `write_plan` promises of its result, and of the buffer after it
abbrev pub WritePlanGives : Plan → List ℕ → Result ℕ Refusal → List ℕ → Type 0
WritePlanGives p out r o =
    (answer_number r ≡ first_applicable (write_plan_rows p (length out)))
    × (given_or 0 r ≡ write_plan_length p (length out))
    × (o ≡ write_plan_buffer p out)
