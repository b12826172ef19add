-- Demand 3 holds of every run from an empty log. Assumes nothing.
use mathlib.Core.Path.{◌≡◌, refl, sym, ap, ◌∙◌}
use mathlib.Core.Bool.{true, cond}
use mathlib.Core.List.{List, [], ◌∷◌}
use Prim.Native.Nat.{ℕ, ◌-◌, ◌*◌, ◌≤◌}
use native.Mathlib.Omega.{arith}
use lib.ListN.{length}
use Rattle.std.specs.Prelude.{Result, Ok}
use Rattle.refusals.specs.declared.Refusal.{Refusal}
use Rattle.refusals.specs.Refusals.{answer_number, given_or}
use Rattle.lists.specs.Lists.{total}
use Rattle.lists.proofs.Tests.{not_no}
use Rattle.lists.proofs.Lists.{sum_same}
use Rattle.refusals.proofs.Laws.{all_clear}
use Rattle.calendar.specs.declared.YearMinutes.{YearMinutes}
use Rattle.calendar.specs.Years.{good_year_number, minutes_rows, MinutesGives}
use Rattle.entries.specs.declared.Entry.{Entry}
use Rattle.entries.specs.Row.{same_entry, lost_by, lost_in}
use Rattle.outage.specs.declared.Log.{Log}
use Rattle.outage.specs.Log.{most_mw, valid_log, log_entries, lost_energy}
use Rattle.outage.specs.Calls.{EmptyGives, LostGives}
use Rattle.outage.proofs.LogHolding.{log_entries_length}
use Rattle.entries.proofs.Keeping.{room_says, room_made}
use Rattle.demands.specs.Given.{first_figure, end_figure, made_log}
use Rattle.demands.specs.Log.{Turn, RanFrom, log_after, accepted_not_cancelled, last_closing}
use Rattle.demands.specs.Demand3.{Demand3}
use Rattle.demands.proofs.Lost.{by_minutes, parts_add, year_lost, year_most}
use Rattle.demands.proofs.NotCancelled.{run_agrees}
use Rattle.demands.proofs.Slots.{in_order, none_above, free_zero}

ones : (es : List Entry) → total (λ (x : Entry). 1) es ≡ length es
ones [] = refl
ones (e ∷ es) = omega (arith, ones es)

-- no year loses more than rated capacity times its minutes
year_bound : (log : Log) → valid_log log ≡ true → (number : ℕ) (y : Result YearMinutes Refusal) → MinutesGives number log.regime_end y → answer_number y ≡ 0
    → (r : Result ℕ Refusal) → LostGives log (first_figure y) (end_figure y) r
    → (r ≡ Ok (given_or 0 r)) × (given_or 0 r ≤ most_mw * (end_figure y - first_figure y))
year_bound log v number y m n r g =
    let good : good_year_number number ≡ true = not_no (good_year_number number) (all_clear (minutes_rows number) (sym m.0 ∙ n)).0 in
    let e = year_lost log v number good y m r g in
    let f : given_or 0 r ≡ lost_energy (first_figure y) (end_figure y) (log_entries log) = ap (given_or 0) e in
    (e ∙ ap Ok (sym f), omega (arith, f, year_most log v number good y m))

-- ---- the demand
pub demand_3 : (regime_end : ℕ) (made : Result Log Refusal) → EmptyGives regime_end made → (turns : List Turn) → RanFrom (made_log made) turns
    → Demand3 regime_end (log_after (made_log made) turns) (accepted_not_cancelled turns) (last_closing turns)
demand_3 regime_end made m turns g =
    let k = run_agrees regime_end made m turns g in
    let log = log_after (made_log made) turns in
    let es = accepted_not_cancelled turns in
    record {
      exactly = λ x. k.same (λ (y : Entry). cond (same_entry x y) 1 0);
      counted = sym (log_entries_length log k.sound.rows k.sound.valid) ∙ sym (ones (log_entries log)) ∙ k.same (λ (x : Entry). 1) ∙ ones es;
      slotted = k.sound.rows;
      end = k.end;
      closed_up = k.closed;
      valid = k.sound.valid;
      order = in_order log k.sound;
      rated = λ minute. omega (arith, none_above log k.sound minute, k.same (lost_by minute));
      decided = λ held from to mw. (room_says held from to mw, room_made held from to mw);
      free = free_zero log k.sound;
      minutes = λ a b h l r q.
          by_minutes log k.sound.valid a b h l r q
          ∙ ap Ok (sum_same (lost_in (log_entries log)) (lost_in es) a (b - a) (λ t before. k.same (lost_by t)));
      cut = λ a mid b h l z first second whole p q r.
          let x : given_or 0 first ≡ lost_energy a mid (log_entries log) = ap (given_or 0) (by_minutes log k.sound.valid a mid h (omega arith) first p) in
          let y : given_or 0 second ≡ lost_energy mid b (log_entries log) = ap (given_or 0) (by_minutes log k.sound.valid mid b l z second q) in
          let w : given_or 0 whole ≡ lost_energy a b (log_entries log) = ap (given_or 0) (by_minutes log k.sound.valid a b (omega arith) z whole r) in
          omega (arith, x, y, w, parts_add log k.sound.valid a mid b h l);
      year = year_bound log k.sound.valid;
    }
