-- A plan that is written reads back as itself, one that is read gives its own bytes, and a refused one has its place. Assumes nothing.
use mathlib.Core.Path.{◌≡◌, refl, sym, ap, ◌∙◌}
use mathlib.Core.Bool.{Bool, true, cond}
use mathlib.Core.List.{List, ◌++◌}
use mathlib.Core.Logic.{◌⊎◌}
use Prim.Native.Nat.{ℕ, ◌≤◌, ◌<◌}
use borrow.Author.Tests.{eq-eqb, le-ltb}
use lib.ListN.{length, take, drop}
use lib.Seq.{take_at}
use Rattle.std.specs.Prelude.{Result, Ok}
use Rattle.refusals.specs.declared.Refusal.{Refusal}
use Rattle.refusals.specs.declared.RefusedAt.{RefusedAt}
use Rattle.refusals.specs.Refusals.{answer_number, given_or, why_alone, part_number, first_applicable, accepted}
use Rattle.refusals.proofs.Cases.{same_case}
use Rattle.plan.specs.declared.Plan.{Plan}
use Rattle.plan.specs.Plan.{no_plan}
use Rattle.codec.specs.Message.{Reading, whole, refused}
use Rattle.codec.specs.Theorems.{Bytes}
use Rattle.plan_message.specs.Form.{plan_bytes, most_bytes, plan_reading}
use Rattle.plan_message.specs.Calls.{ReadPlanGives, WritePlanGives, write_plan_rows}
use Rattle.plan_message.specs.Theorems.{plan_fits, IsPlanOf, RefusalPlace, FollowedAt}
use Rattle.plan_message.proofs.Answers.{too_long}
use Rattle.plan_message.proofs.Only.{only_read_plan}
use Rattle.plan_message.proofs.RoundTrip.{written_read, same_bytes}
use Rattle.plan_message.proofs.Places.{plan_accepted, accepted_plan, refusal_place, place_alone, three_places}

-- ---- a plan that was written
pub plan_reads_back : (p : Plan) → plan_fits p ≡ true → (out o : List ℕ) (n : ℕ) → WritePlanGives p out (Ok n) o → (t : Result Plan RefusedAt) → ReadPlanGives (take n o) t
    → t ≡ Ok p
plan_reads_back p f out o n w t g =
    let yes : accepted (write_plan_rows p (length out)) ≡ true = eq-eqb (first_applicable (write_plan_rows p (length out))) 0 (sym w.0) in
    let long : n ≡ length (plan_bytes p) = w.1 ∙ ap (λ (b : Bool). cond b (length (plan_bytes p)) 0) yes in
    let is : o ≡ plan_bytes p ++ drop (length (plan_bytes p)) out = w.2 ∙ ap (λ (b : Bool). cond b (plan_bytes p ++ drop (length (plan_bytes p)) out) out) yes in
    let front : take n o ≡ plan_bytes p = ap (take n) is ∙ take_at (plan_bytes p) (drop (length (plan_bytes p)) out) n (sym long) in
    let read : plan_reading (take n o) ≡ whole p = ap plan_reading front ∙ written_read p f in
    only_read_plan (take n o) t (Ok p) g (rw read (refl, refl, refl))

-- ---- a plan that was read
module _ (bs : List ℕ) (b : Bytes bs) (t : Result Plan RefusedAt) (g : ReadPlanGives bs t) where
  pub plan_is : answer_number (why_alone t) ≡ 0 → IsPlanOf (given_or no_plan (why_alone t)) bs
  plan_is n = rw g.2 (accepted_plan bs b (sym g.0 ∙ n))

  pub is_read : (p : Plan) → IsPlanOf p bs → answer_number (why_alone t) ≡ 0
  is_read p i = g.0 ∙ plan_accepted p bs i

  pub plan_writes_back : answer_number (why_alone t) ≡ 0 → (out o : List ℕ) (r : Result ℕ Refusal) → WritePlanGives (given_or no_plan (why_alone t)) out r o → length bs ≤ length out
      → (r ≡ Ok (length bs)) × (o ≡ bs ++ drop (length bs) out)
  plan_writes_back n out o r w room =
      let z = rw ((plan_is n).is, le-ltb (length out) (length bs) room) at w in
      (same_case 0 r (Ok (length bs)) z.0 z.1, z.2)

  -- the place of a refusal
  pub plan_refused_at : (answer_number (why_alone t) ≡ 0 → ⊥) → length bs ≤ most_bytes → RefusalPlace bs (part_number t) × ((other : ℕ) → RefusalPlace bs other → other ≡ part_number t)
  plan_refused_at z few = by (plan_reading bs) refl
    where
      by : (r : Reading Plan) → plan_reading bs ≡ r → RefusalPlace bs (part_number t) × ((other : ℕ) → RefusalPlace bs other → other ≡ part_number t)
      by (whole p) e = absurd (z (g.0 ∙ rw e refl))
      by (refused why place) e =
          let p : part_number t ≡ place = g.1 ∙ rw e refl in
          rw p (refusal_place bs why place b few e, λ other s. place_alone bs b few why place e other s)

pub plan_one_of_three : (bs : List ℕ) → Bytes bs → (t : Result Plan RefusedAt) → ReadPlanGives bs t → (answer_number (why_alone t) ≡ 0 → ⊥) → (part_number t ≡ 0) ⊎ (FollowedAt bs (part_number t) ⊎ (part_number t ≡ 8192))
plan_one_of_three bs b t g z = by (plan_reading bs) refl
  where
    by : (r : Reading Plan) → plan_reading bs ≡ r → (part_number t ≡ 0) ⊎ (FollowedAt bs (part_number t) ⊎ (part_number t ≡ 8192))
    by (whole p) e = absurd (z (g.0 ∙ rw e refl))
    by (refused why place) e = let p : part_number t ≡ place = g.1 ∙ rw e refl in rw p (three_places bs b why place e)

pub plan_longer_is : (bs : List ℕ) (t : Result Plan RefusedAt) → ReadPlanGives bs t → most_bytes < length bs → (answer_number (why_alone t) ≡ 13) × (part_number t ≡ most_bytes)
plan_longer_is bs t g h = (g.0 ∙ rw (too_long bs h) refl, g.1 ∙ rw (too_long bs h) refl)

pub plan_alone : (p q : Plan) (bs : List ℕ) → IsPlanOf p bs → IsPlanOf q bs → p ≡ q
plan_alone p q bs i j = same_bytes p q i.fits j.fits (i.is ∙ sym j.is)
