-- Out and in again gives the same plan; in and out gives the same bytes: a plan is a message of its format. Assumes nothing.
use mathlib.Core.Path.{◌≡◌, refl, sym, ◌∙◌}
use mathlib.Core.Bool.{Bool, true, false, cond}
use mathlib.Core.List.{List}
use Prim.Native.Nat.{ℕ, ◌≤◌}
use native.Mathlib.Omega.{arith}
use lib.ListN.{length}
use Rattle.plan.specs.declared.Plan.{Plan}
use Rattle.plan.specs.Plan.{no_plan}
use Rattle.codec.specs.Format.{malformed}
use Rattle.codec.specs.Message.{whole}
use Rattle.codec.specs.Theorems.{Bytes, Messages}
use Rattle.codec.proofs.Formats.{Lawful, one_lawful}
use Rattle.codec.proofs.Places.{Placed, Numbered, one_placed, one_numbered}
use Rattle.codec.proofs.Message as Message
use Rattle.plan_message.specs.Form.{is_plain, plan_item, plan_form, plan_bytes, most_bytes, plan_reading}
use Rattle.plan_message.specs.Theorems.{plan_fits, IsPlanOf}
use Rattle.plan_message.proofs.Laws.{plan_item_law, message_size, fits_fine}

-- ---- a plan is a message of its format
pub plan_lawful : Lawful plan_form 30 31
plan_lawful = one_lawful plan_item plan_item_law

pub plan_placed : Placed plan_form
plan_placed = one_placed plan_item plan_item_law no_plan refl

-- it gives 13 alone
pub plan_numbered : Numbered plan_form malformed
plan_numbered = one_numbered plan_item plan_item_law

pub plan_messages : Messages plan_form (λ p. p) (λ p. p) IsPlanOf
unfolding plan_bytes
plan_messages =
    record { said = λ p h. record { fits = fits_fine p ∙ h; is = refl }; ok = λ p bs s. sym (fits_fine p) ∙ s.fits; is = λ p bs s. s.is; back = λ p bs s. refl }

-- ---- both round trips
-- rule 18.8: a message has 17 bytes where the cause is left out, and else 18
pub message_length : (p : Plan) → length (plan_bytes p) ≡ cond (is_plain p) 17 18
message_length = message_size

few_bytes : (p : Plan) → length (plan_bytes p) ≤ most_bytes
few_bytes p = by (is_plain p) (message_length p)
  where
    by : (t : Bool) → length (plan_bytes p) ≡ cond t 17 18 → length (plan_bytes p) ≤ most_bytes
    by true e = omega arith
    by false e = omega arith

-- out and in again gives the same plan
pub written_read : (p : Plan) → plan_fits p ≡ true → plan_reading (plan_bytes p) ≡ whole p
written_read p h =
    Message.written_read plan_lawful plan_messages most_bytes p (plan_bytes p) (record { fits = h; is = refl }) (few_bytes p)

-- in and out gives the same bytes, and the numbers that are read fit
pub read_written : (bs : List ℕ) (p : Plan) → Bytes bs → plan_reading bs ≡ whole p → (plan_bytes p ≡ bs) × (plan_fits p ≡ true)
read_written bs p b h =
    let f = Message.read_written plan_lawful plan_messages most_bytes bs p b h in
    (f.is, f.fits)

-- two plans with the same bytes are one
pub same_bytes : (p q : Plan) → plan_fits p ≡ true → plan_fits q ≡ true → plan_bytes p ≡ plan_bytes q → p ≡ q
same_bytes p q f g e = Message.same_message plan_lawful plan_messages p q (plan_bytes q) (record { fits = f; is = e }) (record { fits = g; is = refl })
