-- Each call answers and no second answer fits, and its rows stand in the order of refusals. Assumes nothing.
use mathlib.Core.Path.{◌≡◌, refl}
use mathlib.Core.Bool.{true}
use Prim.Native.Nat.{ℕ}
use borrow.Author.Tests.{ltb-false}
use lib.Dec.{ltb}
use Rattle.lists.proofs.Tests.{or_left, or_right}
use Rattle.std.specs.Prelude.{Result}
use Rattle.refusals.specs.declared.Refusal.{Refusal}
use Rattle.text.specs.declared.Text.{Text}
use Rattle.refusals.specs.Order.{in_turn, in_order_of}
use Rattle.refusals.specs.Answers.{One}
use Rattle.entries.specs.declared.Entry.{Entry}
use Rattle.entries.specs.Row.{last_regime_end}
use Rattle.sheet_printout.specs.Dates.{moment_of, outage_line}
use Rattle.sheet_printout.specs.Printout.{print_minute_rows, PrintMinuteGives, print_outage_rows, PrintOutageGives}
use Rattle.sheet_printout.proofs.Printing.{minute_room, line_room, past_end, same_printed, one_printed}

pub only_print_minute : (minute : ℕ) (r s : Result Text Refusal) → PrintMinuteGives minute r → PrintMinuteGives minute s → r ≡ s
only_print_minute minute r s p q = same_printed (ltb last_regime_end minute) (moment_of minute) r s p q

pub one_print_minute : (minute : ℕ) → One (PrintMinuteGives minute)
one_print_minute minute = one_printed (ltb last_regime_end minute) (moment_of minute) (λ e. minute_room minute (ltb-false last_regime_end minute e))

pub only_print_outage : (e : Entry) (r s : Result Text Refusal) → PrintOutageGives e r → PrintOutageGives e s → r ≡ s
only_print_outage e r s p q = same_printed (past_end e) (outage_line e) r s p q

pub one_print_outage : (e : Entry) → One (PrintOutageGives e)
one_print_outage e =
    let a = ltb last_regime_end e.start in
    let b = ltb last_regime_end e.end in
    one_printed (past_end e) (outage_line e)
    (λ f. line_room e (ltb-false last_regime_end e.start (or_left a b f)) (ltb-false last_regime_end e.end (or_right a b f)))

-- ---- each call's rows stand in the order of refusals
pub print_minute_in_turn : (minute : ℕ) → in_order_of in_turn (print_minute_rows minute) ≡ true
print_minute_in_turn minute = refl

pub print_outage_in_turn : (e : Entry) → in_order_of in_turn (print_outage_rows e) ≡ true
print_outage_in_turn e = refl
