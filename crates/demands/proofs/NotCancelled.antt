-- After any sequence of calls the log holds what its events leave standing. Assumes nothing.
use mathlib.Core.Path.{◌≡◌, refl, sym, ap, subst, ◌∙◌}
use mathlib.Core.Bool.{Bool, true, false, not, cond, ◌||◌}
use mathlib.Core.List.{List, [], ◌∷◌, ◌++◌, map, append-nil, append_assoc, map-append}
use Prim.Native.Nat.{ℕ, zero, suc, ◌+◌}
use native.Mathlib.Omega.{arith}
use native.Mathlib.Nat.{suc-ne-zero, add-zero}
use borrow.Author.Tests.{eq-eqb, ne_eqb}
use lib.Dec.{eqb}
use Rattle.std.specs.Prelude.{Result, Ok, Err, ⊤}
use Rattle.refusals.specs.declared.Refusal.{Refusal}
use Rattle.lists.specs.Lists.{total}
use Rattle.lists.proofs.Tests.{or_false}
use Rattle.lists.proofs.Lists.{total_append, total_keep}
use Rattle.refusals.specs.Refusals.{first_applicable, answer_number, why_alone}
use Rattle.entries.specs.declared.Entry.{Entry}
use Rattle.outage.specs.declared.Log.{Log}
use Rattle.entries.specs.declared.Key.{Key}
use Rattle.entries.specs.Row.{put_in_order, has_key, without}
use Rattle.entries.proofs.Keeping.{total_in_order}
use Rattle.outage.specs.Log.{good_regime_end, last_regime_end, log_entries, log_holding}
use Rattle.outage.specs.Calls.{EmptyGives, empty_log, enter_rows, enter_log, cancel_rows, cancel_log, close_rows, close_log}
use Rattle.plan.specs.declared.Plan.{Plan}
use Rattle.plan.specs.Plan.{outages_of}
use Rattle.plan.proofs.OneByOne.{through_keeps}
use Rattle.plan_entering.specs.Calls.{enter_plan_rows, planned_log}
use Rattle.plan_entering.proofs.Accepted.{plan_through, plan_back}
use Rattle.demands.specs.Given.{made_log}
use Rattle.demands.specs.Log.{Logged, at_part, Call, entering, cancelling, closing, planning, Promised, Turn, log_of, RanFrom, log_after, Event, put, taken_out, closed_up, happened, cancelled_by, cancelled_since, not_cancelled, closed_from}
use Rattle.outage.proofs.LogHolding.{entries_with, log_holding_valid}
use Rattle.demands.specs.Runs.{events_of}
use Rattle.demands.proofs.Runs.{run_keeps}
use Rattle.outage.proofs.Sound.{Sound, entered_sound, cancelled_sound, closed_sound}

-- ---- one event more
since_more : (e : Entry) (since : List Event) (event : Event) → cancelled_since e (since ++ event ∷ []) ≡ (cancelled_since e since || cancelled_by e event)
since_more e [] event = or_false (cancelled_by e event)
since_more e (x ∷ since) event = by (cancelled_by e x) (since_more e since event)
  where
    by : (b : Bool) → cancelled_since e (since ++ event ∷ []) ≡ (cancelled_since e since || cancelled_by e event)
        → (b || cancelled_since e (since ++ event ∷ [])) ≡ ((b || cancelled_since e since) || cancelled_by e event)
    by true h = refl
    by false h = h

-- an entry put in stands after those before it
pub not_cancelled_put : (before : List Event) (e : Entry) → not_cancelled (before ++ put e ∷ []) ≡ not_cancelled before ++ e ∷ []
not_cancelled_put [] e = refl
not_cancelled_put (taken_out s ∷ before) e = not_cancelled_put before e
not_cancelled_put (closed_up m ∷ before) e = not_cancelled_put before e
not_cancelled_put (put x ∷ before) e = by (cancelled_since x before) (since_more x before (put e) ∙ or_false (cancelled_since x before)) (not_cancelled_put before e)
  where
    by : (b : Bool) → cancelled_since x (before ++ put e ∷ []) ≡ b → not_cancelled (before ++ put e ∷ []) ≡ not_cancelled before ++ e ∷ []
        → cond (cancelled_since x (before ++ put e ∷ [])) (not_cancelled (before ++ put e ∷ [])) (x ∷ not_cancelled (before ++ put e ∷ [])) ≡ cond b (not_cancelled before) (x ∷ not_cancelled before) ++ e ∷ []
    by true c h = rw (c, h)
    by false c h = rw (c, h)

-- a key taken out leaves the others standing
pub not_cancelled_out : (before : List Event) (s : Key) → not_cancelled (before ++ taken_out s ∷ []) ≡ without s (not_cancelled before)
not_cancelled_out [] s = refl
not_cancelled_out (taken_out t ∷ before) s = not_cancelled_out before s
not_cancelled_out (closed_up m ∷ before) s = not_cancelled_out before s
not_cancelled_out (put x ∷ before) s = by (cancelled_since x before) (has_key s x) refl (since_more x before (taken_out s)) (not_cancelled_out before s)
  where
    by : (b c : Bool) → has_key s x ≡ c → cancelled_since x (before ++ taken_out s ∷ []) ≡ (b || c) → not_cancelled (before ++ taken_out s ∷ []) ≡ without s (not_cancelled before)
        → cond (cancelled_since x (before ++ taken_out s ∷ [])) (not_cancelled (before ++ taken_out s ∷ [])) (x ∷ not_cancelled (before ++ taken_out s ∷ [])) ≡ without s (cond b (not_cancelled before) (x ∷ not_cancelled before))
    by true c e d h = rw (d, h)
    by false true e d h = rw (d, h, e)
    by false false e d h = rw (d, h, e)

-- a closing leaves them all standing
pub not_cancelled_closed : (before : List Event) (m : ℕ) → not_cancelled (before ++ closed_up m ∷ []) ≡ not_cancelled before
not_cancelled_closed [] m = refl
not_cancelled_closed (taken_out t ∷ before) m = not_cancelled_closed before m
not_cancelled_closed (closed_up n ∷ before) m = not_cancelled_closed before m
not_cancelled_closed (put x ∷ before) m =
    rw (since_more x before (closed_up m) ∙ or_false (cancelled_since x before), not_cancelled_closed before m) refl

-- the last event decides the closed minute, if it is a closing
abbrev closed_next : ℕ → Event → ℕ
closed_next minute (put e) = minute
closed_next minute (taken_out key) = minute
closed_next minute (closed_up next) = next

closed_more : (minute : ℕ) (before : List Event) (event : Event) → closed_from minute (before ++ event ∷ []) ≡ closed_next (closed_from minute before) event
closed_more minute [] (put e) = refl
closed_more minute [] (taken_out key) = refl
closed_more minute [] (closed_up next) = refl
closed_more minute (put e ∷ before) event = closed_more minute before event
closed_more minute (taken_out key ∷ before) event = closed_more minute before event
closed_more minute (closed_up next ∷ before) event = closed_more next before event

-- ---- a log and its events: whatever is added up over the entries comes out the same, the regime end is the one it was made for, and
-- the closed minute that of the last closing
pub record Agrees (regime_end : ℕ) (log : Log) (before : List Event) : Type 0 where
  pub sound : Sound log
  pub same : (f : Entry → ℕ) → total f (log_entries log) ≡ total f (not_cancelled before)
  pub end : log.regime_end ≡ regime_end
  pub closed : log.closed ≡ closed_from 0 before

module _ (regime_end : ℕ) (log : Log) (before : List Event) (k : Agrees regime_end log before) where
  nothing_done : Agrees regime_end log (before ++ [])
  nothing_done = rw append-nil k

  not_done : (n m : ℕ) → n ≡ suc m → eqb n 0 ≡ false
  not_done n m h = ne_eqb n 0 (λ z. suc-ne-zero m (sym h ∙ z))

  -- what one call does, by its answer
  entered_by : (e : Entry) (n : ℕ) → first_applicable (enter_rows log e) ≡ n → Agrees regime_end (enter_log log e) (before ++ cond (eqb (first_applicable (enter_rows log e)) 0) (put e ∷ []) [])
  entered_by e zero h =
      rw (eq-eqb (first_applicable (enter_rows log e)) 0 h)
      record {
        sound = entered_sound log k.sound e h;
        same = λ f.
            ap (total f) (entries_with log (put_in_order e (log_entries log)))
            ∙ total_in_order f e (log_entries log)
            ∙ ap (λ (x : ℕ). x + f e) (k.same f)
            ∙ sym (ap (total f) (not_cancelled_put before e) ∙ total_append f (not_cancelled before) (e ∷ []) ∙ ap (λ (x : ℕ). total f (not_cancelled before) + x) (add-zero (f e)));
        end = k.end;
        closed = k.closed ∙ sym (closed_more 0 before (put e));
      }
  entered_by e (suc n) h = rw (not_done (first_applicable (enter_rows log e)) n h) nothing_done

  cancelled_by_law : (s : Key) (n : ℕ) → first_applicable (cancel_rows log s) ≡ n → Agrees regime_end (cancel_log log s) (before ++ cond (eqb (first_applicable (cancel_rows log s)) 0) (taken_out s ∷ []) [])
  cancelled_by_law s zero h =
      rw (eq-eqb (first_applicable (cancel_rows log s)) 0 h)
      record {
        sound = cancelled_sound log k.sound s;
        same = λ f.
            ap (total f) (entries_with log (without s (log_entries log)))
            ∙ total_keep f (λ (x : Entry). not (has_key s x)) (log_entries log)
            ∙ k.same (λ (x : Entry). cond (not (has_key s x)) (f x) 0)
            ∙ sym (ap (total f) (not_cancelled_out before s) ∙ total_keep f (λ (x : Entry). not (has_key s x)) (not_cancelled before));
        end = k.end;
        closed = k.closed ∙ sym (closed_more 0 before (taken_out s));
      }
  cancelled_by_law s (suc n) h = rw (not_done (first_applicable (cancel_rows log s)) n h) nothing_done

  closed_by : (m : ℕ) (n : ℕ) → first_applicable (close_rows log m) ≡ n → Agrees regime_end (close_log log m) (before ++ cond (eqb (first_applicable (close_rows log m)) 0) (closed_up m ∷ []) [])
  closed_by m zero h =
      rw (eq-eqb (first_applicable (close_rows log m)) 0 h)
      record {
        sound = closed_sound log k.sound m h;
        same = λ f. k.same f ∙ sym (ap (total f) (not_cancelled_closed before m));
        end = k.end;
        closed = sym (closed_more 0 before (closed_up m));
      }
  closed_by m (suc n) h = rw (not_done (first_applicable (close_rows log m)) n h) nothing_done

-- ---- a plan puts its outages in one by one
module _ (regime_end : ℕ) (before : List Event) where
  abbrev AgreesWith : Log → List Entry → Type 0
  AgreesWith log es = Agrees regime_end log (before ++ map put es)

  outage_in : (log : Log) (es : List Entry) (e : Entry) → AgreesWith log es → first_applicable (enter_rows log e) ≡ 0 → AgreesWith (enter_log log e) (es ++ (e ∷ []))
  outage_in log es e k n =
      let i : before ++ map put (es ++ (e ∷ [])) ≡ (before ++ map put es) ++ (put e ∷ []) = ap (λ (l : List Event). before ++ l) (map-append put es (e ∷ [])) ∙ sym (append_assoc before (map put es) (put e ∷ [])) in
      rw i
      (subst (λ (b : Bool). Agrees regime_end (enter_log log e) ((before ++ map put es) ++ cond b (put e ∷ []) [])) (eq-eqb (first_applicable (enter_rows log e)) 0 n)
      (entered_by regime_end log (before ++ map put es) k e 0 n))

module _ (regime_end : ℕ) (log : Log) (before : List Event) (k : Agrees regime_end log before) where
  planned_by : (p : Plan) (n : ℕ) → first_applicable (enter_plan_rows log p) ≡ n → Agrees regime_end (planned_log log p) (before ++ cond (eqb (first_applicable (enter_plan_rows log p)) 0) (map put (outages_of p)) [])
  planned_by p zero h =
      rw (eq-eqb (first_applicable (enter_plan_rows log p)) 0 h)
      (through_keeps enter_rows enter_log (AgreesWith regime_end before) (outage_in regime_end before) 1 log (planned_log log p) [] (outages_of p) (rw append-nil k) (plan_through log p h))
  planned_by p (suc n) h =
      rw (not_done regime_end log before k (first_applicable (enter_plan_rows log p)) n h, plan_back log p (λ z. suc-ne-zero n (sym h ∙ z))) (nothing_done regime_end log before k)

  -- a result that has the number and the log of a definition stands as the definition does
  as_given : (r : Logged) (n : ℕ) (next : Log) (events : List Event) → (answer_number r.answer ≡ n) × (r.log ≡ next)
      → Agrees regime_end next (before ++ cond (eqb n 0) events []) → Agrees regime_end r.log (before ++ cond (eqb (answer_number r.answer) 0) events [])
  as_given r n next events g s = rw (g.0, g.1) s

  -- without the part it is the answer
  part_alone : (part : ℕ) (a : Result ⊤ Refusal) → why_alone (at_part part a) ≡ a
  part_alone part (Ok done) = refl
  part_alone part (Err why) = refl

  pub call_agrees : (call : Call) (r : Logged) → Promised log call r → Agrees regime_end r.log (before ++ happened (call, r))
  call_agrees (entering e) r g = as_given r (first_applicable (enter_rows log e)) (enter_log log e) (put e ∷ []) g (entered_by regime_end log before k e (first_applicable (enter_rows log e)) refl)
  call_agrees (cancelling s) r g = as_given r (first_applicable (cancel_rows log s)) (cancel_log log s) (taken_out s ∷ []) g (cancelled_by_law regime_end log before k s (first_applicable (cancel_rows log s)) refl)
  call_agrees (closing m) r g = as_given r (first_applicable (close_rows log m)) (close_log log m) (closed_up m ∷ []) g (closed_by regime_end log before k m (first_applicable (close_rows log m)) refl)
  call_agrees (planning p) r g = as_given r (first_applicable (enter_plan_rows log p)) (planned_log log p) (map put (outages_of p)) (sym (ap answer_number (part_alone g.outage r.answer)) ∙ g.gives.0, g.gives.2) (planned_by p (first_applicable (enter_plan_rows log p)) refl)

-- ---- where every log starts
abbrev pub end_made : ℕ → ℕ
end_made regime_end = cond (good_regime_end regime_end) regime_end last_regime_end

empty_agrees : (regime_end : ℕ) → Agrees (end_made regime_end) (empty_log regime_end) []
empty_agrees regime_end = by (good_regime_end regime_end) refl
  where
    fresh : (re : ℕ) → good_regime_end re ≡ true → Agrees re (log_holding re []) []
    fresh re g = record {
      sound = record { rows = refl; valid = log_holding_valid re [] g (omega arith) (record { good = refl; order = refl; rated = λ minute. omega arith }) };
      same = λ f. refl;
      end = refl;
      closed = refl;
    }

    by : (b : Bool) → good_regime_end regime_end ≡ b → Agrees (end_made regime_end) (empty_log regime_end) []
    by true g = rw g (fresh regime_end g)
    by false g = rw g (fresh last_regime_end refl)

-- ---- any run
pub run_agrees : (regime_end : ℕ) (made : Result Log Refusal) → EmptyGives regime_end made → (turns : List Turn) → RanFrom (made_log made) turns
    → Agrees (end_made regime_end) (log_after (made_log made) turns) (events_of happened turns)
run_agrees regime_end made m turns g =
    run_keeps Promised log_of happened (Agrees (end_made regime_end)) (call_agrees (end_made regime_end)) turns (made_log made) [] (rw m.1 (empty_agrees regime_end)) g
