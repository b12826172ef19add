-- 13 is given exactly where no plan has these bytes, at the one place where its message stops, and that is 0, the end of a plan's
-- message, or 8,192. Assumes nothing.
use mathlib.Core.Path.{◌≡◌, refl, sym, ap, ◌∙◌}
use mathlib.Core.Bool.{cond}
use mathlib.Core.Logic.{◌⊎◌, inl, inr}
use mathlib.Core.List.{List, [], ◌∷◌}
use Rattle.std.specs.Prelude.{Option, Some, None}
use Prim.Native.Nat.{ℕ, ◌≤◌, ◌<◌}
use native.Mathlib.Nat.{not-suc-le-zero}
use native.Mathlib.Omega.{arith}
use lib.ListN.{length, take, drop}
use lib.Seq.{take_at}
use Rattle.lists.proofs.Tests.{le_or_lt}
use Rattle.refusals.specs.declared.Refusal.TheVariants.{Malformed}
use Rattle.refusals.specs.Refusals.{first_applicable}
use Rattle.plan.specs.declared.Plan.{Plan}
use Rattle.plan.specs.Plan.{no_plan}
use Rattle.codec.specs.Format.{malformed}
use Rattle.codec.specs.Message.{Reading, whole, refused, is_refused, value_in}
use Rattle.codec.specs.Theorems.{Bytes}
use Rattle.codec.proofs.Message as Message
use Rattle.plan_message.specs.Form.{plan_item, plan_form, plan_bytes, most_bytes, plan_reading}
use Rattle.plan_message.specs.Calls.{read_plan_rows, read_plan_value}
use Rattle.plan_message.specs.Steps.{message_bytes}
use Rattle.plan_message.specs.Theorems.{IsPlanOf, RefusalPlace, FollowedAt}
use Rattle.plan_message.proofs.Answers.{too_long, no_field, followed, alone}
use Rattle.plan_message.proofs.Laws.{plan_item_law, message_size, fits_fine}
use Rattle.plan_message.proofs.RoundTrip.{plan_lawful, plan_placed, plan_numbered, plan_messages, written_read}

-- ---- 13 exactly where no plan has these bytes
pub plan_accepted : (p : Plan) (bs : List ℕ) → IsPlanOf p bs → first_applicable (read_plan_rows bs) ≡ 0
plan_accepted p bs f =
    ap (λ (r : Reading Plan). first_applicable ((Malformed, is_refused r) ∷ [])) (ap plan_reading (sym f.is) ∙ written_read p f.fits)

pub accepted_plan : (bs : List ℕ) → Bytes bs → first_applicable (read_plan_rows bs) ≡ 0 → IsPlanOf (read_plan_value bs) bs
accepted_plan bs b h = Message.read_written plan_lawful plan_messages most_bytes bs (read_plan_value bs) b (by (plan_reading bs) h)
  where
    by : (r : Reading Plan) → ◌≡◌ {A = ℕ} (cond (is_refused r) 13 0) 0 → r ≡ whole (value_in no_plan r)
    by (whole p) h = refl
    by (refused why place) h = absurd (not-suc-le-zero {n = 0} (omega arith))

-- no plan is refused by another number
pub refused_malformed : (bs : List ℕ) (why place : ℕ) → plan_reading bs ≡ refused why place → why ≡ malformed
refused_malformed bs = Message.refused_malformed plan_form (λ p. p) most_bytes bs plan_numbered

-- ---- where a refused reading stands
pub refusal_place : (bs : List ℕ) (why place : ℕ) → Bytes bs → length bs ≤ most_bytes → plan_reading bs ≡ refused why place → RefusalPlace bs place
refusal_place = Message.refusal_place plan_lawful plan_messages plan_placed most_bytes

-- no other place is such a one
pub place_alone : (bs : List ℕ) → Bytes bs → length bs ≤ most_bytes → (why place : ℕ) → plan_reading bs ≡ refused why place → (q : ℕ) → RefusalPlace bs q → q ≡ place
place_alone = Message.place_alone plan_lawful plan_messages plan_placed most_bytes

-- rule 18.8: whatever the bytes, the place is one of three
abbrev OneOfThree : List ℕ → ℕ → Type 0
OneOfThree bs place = (place ≡ 0) ⊎ (FollowedAt bs place ⊎ (place ≡ 8192))

module _ (bs : List ℕ) (b : Bytes bs) (why place : ℕ) (e : plan_reading bs ≡ refused why place) where
  same : (k n : ℕ) → plan_reading bs ≡ refused k n → place ≡ n
  same k n f = by (sym e ∙ f)
    where
      by : ◌≡◌ {A = Reading Plan} (refused why place) (refused k n) → place ≡ n
      by g = cc

  not_whole : (p : Plan) → plan_reading bs ≡ whole p → ⊥
  not_whole p f = by (sym e ∙ f)
    where
      by : ◌≡◌ {A = Reading Plan} (refused why place) (whole p) → ⊥
      by g = let z : ◌≡◌ {A = ℕ} 0 1 = cc in omega arith

  -- the message that they begin with
  begins : (p : Plan) → plan_item.look bs ≡ Some p → place ≡ message_bytes p → IsPlanOf p (take place bs)
  unfolding plan_bytes
  begins p f n =
      let k = plan_item_law.back bs p b f in
      record { fits = fits_fine p ∙ k.1; is = sym (ap (take place) k.0 ∙ take_at (plan_bytes p) (drop (message_bytes p) bs) place (message_size p ∙ sym n)) }

  pub three_places : (place ≡ 0) ⊎ (FollowedAt bs place ⊎ (place ≡ 8192))
  three_places = by (le_or_lt (length bs) most_bytes)
    where
      found : length bs ≤ most_bytes → (o : Option Plan) → plan_item.look bs ≡ o → OneOfThree bs place
      found h None f = inl (same malformed 0 (no_field bs h f))
      found h (Some p) f = behind (le_or_lt (length bs) (message_bytes p))
        where
          behind : (length bs ≤ message_bytes p) ⊎ (message_bytes p < length bs) → OneOfThree bs place
          behind (inl k) = absurd (not_whole p (alone bs h f k))
          behind (inr k) =
              let n = same malformed (message_bytes p) (followed bs h f k) in
              inr (inl (record { plan = p; begins = begins p f n; ends = n; more = omega arith }))

      by : (length bs ≤ most_bytes) ⊎ (most_bytes < length bs) → OneOfThree bs place
      by (inl h) = found h (plan_item.look bs) refl
      by (inr h) = inr (inr (same malformed 8192 (too_long bs h)))
