-- A plan in the value of a field, and the message of that one field: rules 10.1 and 18.8.
use Rattle.std.specs.Prelude.{Bool, not, List, ℕ, eqb}
use Rattle.plan.specs.declared.Plan.{Plan}
use Rattle.codec.specs.Format.{Value, num, pair, mapped, restricted, Item, tagged, Codec, one}
use Rattle.codec.specs.Shapes.{beside, either}
use Rattle.codec.specs.Message.{Reading, reading}

-- ---- start and length of 4 bytes each, step, count and MW of 2; and the cause
abbrev pub Numbers : Type 0
Numbers = ℕ × (ℕ × (ℕ × (ℕ × ℕ)))

abbrev pub numbers : Value Numbers
numbers = pair (num 4 0 4294967295) (pair (num 4 0 4294967295) (pair (num 2 0 65535) (pair (num 2 0 65535) (num 2 0 65535))))

abbrev pub to_plan : Numbers × ℕ → Plan
to_plan n =
    record { start = n.0.0; length = n.0.1.0; step = n.0.1.1.0; count = n.0.1.1.1.0; mw = n.0.1.1.1.1; cause = n.1 }

abbrev pub from_plan : Plan → Numbers × ℕ
from_plan p = ((p.start, (p.length, (p.step, (p.count, p.mw)))), p.cause)

-- ---- a cause of 1 is left out, and no other: it is then the last byte
abbrev pub is_plain : Plan → Bool
is_plain p = eqb p.cause 1

abbrev pub plain_layout : Value Plan
plain_layout = mapped to_plan from_plan (beside 1 numbers)

abbrev pub caused_layout : Value Plan
caused_layout = restricted (λ p. not (is_plain p)) (mapped to_plan from_plan (pair numbers (num 1 0 255)))

-- ---- one field of tag 30, of 17 bytes or of 18
abbrev pub plan_tag : ℕ
plan_tag = 30

abbrev pub plan_item : Item Plan
plan_item = either is_plain (tagged plan_tag plain_layout) (tagged plan_tag caused_layout)

abbrev pub plan_form : Codec Plan
plan_form = one plan_item

-- rule 18.9: the bytes of a plan's message
unfoldable pub plan_bytes : Plan → List ℕ
plan_bytes p = plan_form.write p

-- the most bytes that are read
abbrev pub most_bytes : ℕ
most_bytes = 8192

-- a plan, or a refusal's number and place
abbrev pub plan_reading : List ℕ → Reading Plan
plan_reading = reading plan_form (λ p. p) most_bytes
