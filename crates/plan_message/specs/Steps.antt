-- What the functions inside are stated by. No call is stated by it: laws turn it into the words of the message.
use Rattle.std.specs.Prelude.{true, cond, List, ◌≡◌, ℕ, ◌≤◌, drop, Option, Some, None}
use Rattle.refusals.specs.declared.Refusal.TheVariants.{Malformed}
use Rattle.refusals.specs.declared.RefusedAt.{RefusedAt}
use Rattle.plan.specs.declared.Plan.{Plan}
use Rattle.codec.specs.Fields.{framed}
use Rattle.plan_message.specs.Form.{Numbers, numbers, to_plan, is_plain, plan_tag, plan_item}

-- how many bytes the message of a plan has
abbrev pub message_bytes : Plan → ℕ
message_bytes p = cond (is_plain p) 17 18

-- the bytes begin with the field of a plan of this cause, not cut, whatever its numbers
pub record Begins (bs : List ℕ) (cause : ℕ) : Type 0 where
  pub len : ℕ
  pub is : framed plan_tag len bs ≡ true
  pub long : numbers.len ≤ len
  pub holds : (n : Numbers) → numbers.get (drop 3 bs) ≡ Some n → plan_item.look bs ≡ Some (to_plan (n, cause))

-- the cause in the field that the bytes begin with, or that they begin with no field of a plan
abbrev pub CauseIn : List ℕ → Option ℕ → Type 0
CauseIn bs None = plan_item.look bs ≡ None
CauseIn bs (Some cause) = Begins bs cause

-- a refused reading
abbrev pub malformed_at : ℕ → RefusedAt
malformed_at place = record { why = Malformed; at = place }
