-- An accepted plan is its outages entered one by one, a refused one says which of them fails, and on an empty log a plan gives what
-- listing it lists. Assumes nothing.
use mathlib.Core.Path.{◌≡◌, refl, sym, ap, subst, ◌∙◌}
use mathlib.Core.Bool.{Bool, true, false, cond}
use mathlib.Core.List.{List, [], ◌∷◌, ◌++◌, map, map-append}
use mathlib.Core.Logic.{◌⊎◌, inl, inr}
use Prim.Native.Nat.{ℕ, ◌+◌}
use native.Mathlib.Omega.{arith}
use borrow.Author.Tests.{eq-eqb}
use lib.ListN.{length}
use Rattle.std.specs.Prelude.{Result, ⊤}
use Rattle.refusals.specs.declared.Refusal.{Refusal}
use Rattle.refusals.specs.declared.RefusedAt.{RefusedAt}
use Rattle.lists.proofs.Tests.{not_no}
use Rattle.refusals.specs.Refusals.{first_applicable, answer_number, given_or, why_alone, part_number}
use Rattle.refusals.proofs.Laws.{all_clear}
use Rattle.entries.specs.declared.Entry.{Entry}
use Rattle.outage.specs.declared.Log.{Log}
use Rattle.outage.specs.Log.{slots, good_regime_end, valid_log, log_holding, log_made}
use Rattle.outage.specs.Calls.{empty_rows, EmptyGives, enter_rows, enter_log}
use Rattle.outage.proofs.Only.{one_enter}
use Rattle.plan.specs.declared.Plan.{Plan}
use Rattle.plan.specs.declared.listing.Listed.{Listed}
use Rattle.plan.specs.Plan.{outages_of, good_plan}
use Rattle.plan.specs.Calls.{Outcome, through, failed, list_of, ListGives}
use Rattle.plan.proofs.OneByOne.{through_keeps, fails_at}
use Rattle.plan_entering.specs.Calls.{EnterPlanGives, planned_log}
use Rattle.plan_entering.specs.Calls as plans
use Rattle.plan_entering.proofs.Accepted.{plan_valid, plan_good, plan_through, plan_why}
use Rattle.plan_entering.proofs.OnEmpty.{same_number, same_outage, same_log}
use Rattle.demands.specs.Given.{made_log}
use Rattle.demands.specs.Runs.{events_of}
use Rattle.demands.specs.Log.{Call, entering, Turn, Event, put, happened}
use Rattle.demands.specs.Plans.{EntersAll, FailsAt, Plans}
use Rattle.demands.proofs.Sheets.{ran_more, after_more, events_more}

-- ---- one entry more
pub enters_more : (log stands : Log) (es : List Entry) (e : Entry) → EntersAll log es stands → first_applicable (enter_rows stands e) ≡ 0 → EntersAll log (es ++ (e ∷ [])) (enter_log stands e)
enters_more log stands es e i n =
    let o = one_enter stands e in
    let turn : List Turn = (entering e, record { answer = o.result.0; log = o.result.1 }) ∷ [] in
    let m : answer_number o.result.0 ≡ 0 = o.meets.0 ∙ n in
    let happens : events_of happened turn ≡ put e ∷ [] = ap (λ (b : Bool). cond b (put e ∷ []) [] ++ []) (eq-eqb (answer_number o.result.0) 0 m) in
    record {
      turns = i.turns ++ turn;
      calls = map-append (λ (t : Turn). t.0) i.turns turn ∙ ap (λ (cs : List Call). cs ++ (entering e ∷ [])) i.calls ∙ sym (map-append entering es (e ∷ []));
      ran = ran_more log i.turns turn i.ran (rw i.gives (o.meets, tt));
      events = events_more i.turns turn ∙ ap (λ (l : List Event). l ++ events_of happened turn) i.events ∙ ap (λ (l : List Event). map put es ++ l) happens ∙ sym (map-append put es (e ∷ []));
      gives = after_more log i.turns turn ∙ o.meets.1;
    }

pub no_entries : (log : Log) → EntersAll log [] log
no_entries log = record { turns = []; calls = refl; ran = tt; events = refl; gives = refl }

-- ---- an accepted plan
accepted_plan : (log : Log) → length log.entries ≡ slots → (p : Plan) (r : Result ⊤ RefusedAt) (after : Log) → EnterPlanGives log p r after → answer_number (why_alone r) ≡ 0 → (part_number r ≡ 0) × EntersAll log (outages_of p) after
accepted_plan log len p r after g z =
    let n = sym g.0 ∙ z in
    let t = plan_through log p n in (
      g.1 ∙ rw (plan_valid log p n, plan_good log p n, t) refl,
      subst (EntersAll log (outages_of p)) (sym g.2)
          (through_keeps enter_rows enter_log (λ (l : Log) (es : List Entry). EntersAll log es l) (λ l es e i m. enters_more log l es e i m) 1 log (planned_log log p) [] (outages_of p) (no_entries log) t),
    )

-- ---- a plan that is refused by one of its outages
refused_plan : (log : Log) → length log.entries ≡ slots → (p : Plan) (r : Result ⊤ RefusedAt) (after : Log) → EnterPlanGives log p r after → (part_number r ≡ 0 → ⊥) → FailsAt log p (answer_number (why_alone r)) (part_number r)
refused_plan log len p r after g some = by (valid_log log) refl (good_plan p) refl (plans.entering log p) refl
  where
    by : (b : Bool) → valid_log log ≡ b → (c : Bool) → good_plan p ≡ c → (o : Outcome Log) → plans.entering log p ≡ o → FailsAt log p (answer_number (why_alone r)) (part_number r)
    by false v c h o e = absurd (some (g.1 ∙ rw v refl))
    by true v false h o e = absurd (some (g.1 ∙ rw (v, h) refl))
    by true v true h (through l) e = absurd (some (g.1 ∙ rw (v, h, e) refl))
    by true v true h (failed why outage) e =
        let f = fails_at enter_rows enter_log (λ (l : Log) (es : List Entry). EntersAll log es l) (λ l es x i m. enters_more log l es x i m) 1 log [] (outages_of p) why outage (no_entries log) e in
        let n : answer_number (why_alone r) ≡ why = g.0 ∙ plan_why log p v h ∙ rw e refl in
        let a : part_number r ≡ outage = g.1 ∙ rw (v, h, e) refl in
        record {
          before = f.front;
          fails = f.fails;
          after = f.back;
          are = f.are;
          number = a ∙ f.number;
          stands = f.stands;
          entered = f.keeps;
          refused = λ q later m. m.0 ∙ f.by ∙ sym n;
        }

-- ---- beside 1 and 17 there is none
no_outage : (log : Log) → length log.entries ≡ slots → (p : Plan) (r : Result ⊤ RefusedAt) (after : Log) → EnterPlanGives log p r after → (answer_number (why_alone r) ≡ 0 → ⊥) → part_number r ≡ 0
    → (answer_number (why_alone r) ≡ 1) ⊎ (answer_number (why_alone r) ≡ 17)
no_outage log len p r after g z a = by (valid_log log) refl (good_plan p) refl (plans.entering log p) refl
  where
    by : (b : Bool) → valid_log log ≡ b → (c : Bool) → good_plan p ≡ c → (o : Outcome Log) → plans.entering log p ≡ o → (answer_number (why_alone r) ≡ 1) ⊎ (answer_number (why_alone r) ≡ 17)
    by false v c h o e = inl (g.0 ∙ rw v refl)
    by true v false h o e = inr (g.0 ∙ rw (v, h) refl)
    by true v true h (through l) e = absurd (z (g.0 ∙ rw (v, h, e) refl))
    by true v true h (failed why outage) e =
        let f = fails_at enter_rows enter_log (λ (l : Log) (es : List Entry). EntersAll log es l) (λ l es x i m. enters_more log l es x i m) 1 log [] (outages_of p) why outage (no_entries log) e in
        let q : part_number r ≡ outage = g.1 ∙ rw (v, h, e) refl in
        absurd (omega (arith, f.number))

-- ---- on an empty log
on_empty : (regime_end : ℕ) (made : Result Log Refusal) → EmptyGives regime_end made → answer_number made ≡ 0 → (p : Plan) (l : Result Listed RefusedAt) → ListGives regime_end p l
    → (r : Result ⊤ RefusedAt) (after : Log) → EnterPlanGives (made_log made) p r after
    → (answer_number (why_alone r) ≡ answer_number (why_alone l))
    × (part_number r ≡ part_number l)
    × (after ≡ log_made (given_or (list_of []) (why_alone l)).entries (given_or (list_of []) (why_alone l)).count regime_end)
on_empty regime_end made m z p l h r after g =
    let good = not_no (good_regime_end regime_end) (all_clear (empty_rows regime_end) (sym m.0 ∙ z)).0 in
    let is : made_log made ≡ log_holding regime_end [] = m.1 ∙ rw good refl in
    let k = subst (λ (log : Log). EnterPlanGives log p r after) is g in (
      k.0 ∙ same_number regime_end p good ∙ sym h.0,
      k.1 ∙ same_outage regime_end p good ∙ sym h.1,
      k.2 ∙ same_log regime_end p good ∙ sym (rw h.2 refl),
    )

pub plans_hold : Plans
plans_hold = record {
  entered = accepted_plan;
  refused = λ log len p r after g z some. refused_plan log len p r after g some;
  beside = no_outage;
  listed = on_empty;
}
