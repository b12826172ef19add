-- What it is for bytes to be the message of a plan, and the place of a refusal: rules 18.8 and 18.9.
-- No contract is stated by these definitions; theorems speak by them.
use Rattle.std.specs.Prelude.{Bool, true, ◌&&◌, List, ◌≡◌, ℕ, ◌<◌, leb, length, take}
use Rattle.plan.specs.declared.Plan.{Plan}
use Rattle.codec.specs.Theorems as messages
use Rattle.plan_message.specs.Form.{numbers, from_plan, plan_bytes}
use Rattle.plan_message.specs.Steps.{message_bytes}

-- each number fits into its bytes
abbrev pub plan_fits : Plan → Bool
plan_fits p = numbers.fine (from_plan p).0 && leb p.cause 255

-- bytes are the message of a plan whose numbers fit
pub record IsPlanOf (p : Plan) (bs : List ℕ) : Type 0 where
  pub fits : plan_fits p ≡ true
  pub is : plan_bytes p ≡ bs

-- rule 18.8: the bytes before the place are whole fields that begin some plan's message, and no such message goes on there with the
-- field, or the end, that was found
abbrev pub RefusalPlace : List ℕ → ℕ → Type 0
RefusalPlace = messages.RefusalPlace IsPlanOf

-- rule 18.8: the bytes begin with the message of a plan, which ends at the place, and something follows it
pub record FollowedAt (bs : List ℕ) (place : ℕ) : Type 0 where
  pub plan : Plan
  pub begins : IsPlanOf plan (take place bs)
  pub ends : place ≡ message_bytes plan
  pub more : place < length bs
