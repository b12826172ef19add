-- A sheet is accepted exactly where some valid log to the regime end has these bytes, one log alone has them, and a refusal stands at
-- the first piece that fails and at no other place. Assumes nothing.
use mathlib.Core.Path.{◌≡◌, refl, sym, ap, subst, ◌∙◌}
use mathlib.Core.Bool.{Bool, true, false, cond, not}
use mathlib.Core.List.{List, [], ◌∷◌, ◌++◌}
use Prim.Native.Nat.{ℕ, suc}
use native.Mathlib.Nat.{le_refl}
use native.Mathlib.Omega.{arith}
use borrow.Author.Tests.{eqb-false}
use lib.Dec.{eqb, ltb}
use lib.ListN.{length}
use Rattle.lists.specs.Lists.{any}
use Rattle.entries.specs.Row.{good_span, good_loss}
use Rattle.outage.specs.declared.Log.{Log}
use Rattle.outage.specs.Log.{slots, good_regime_end}
use Rattle.outage.proofs.LogHolding.{open_is}
use Rattle.codec.specs.Format.{Res, got, stopped}
use Rattle.codec.specs.Message.{whole, refused, finish}
use Rattle.codec.specs.Theorems.{Bytes}
use Rattle.codec.proofs.Message as Message
use Rattle.codec.proofs.Places.{Placed}
use Rattle.codec.proofs.Every.{every_numbers}
use Rattle.codec.proofs.Shapes.{two_tags_placed}
use Rattle.outage_field.specs.Field.{entry_layout}
use Rattle.outage_field.proofs.Laws.{layout_laws}
use Rattle.sheet_format.specs.Pieces.{Piece, meant}
use Rattle.sheet_format.specs.Shown.{shares_minute}
use Rattle.sheet_format.specs.Rule.{fits, piece_number}
use Rattle.sheet_format.specs.Sheet.{piece_item, sheet_form, log_meant, sheet_reading}
use Rattle.sheet_format.proofs.Looks.{item_laws}
use Rattle.sheet_format.proofs.Numbers.{no_other}
use Rattle.sheet_round_trip.specs.Sheets.{IsSheetOf, RefusalPlace}
use Rattle.sheet_round_trip.proofs.RoundTrip.{sheet_lawful, sheet_messages, written_read}

-- ---- a sheet is refused by no other number than 13 and those of a piece
pub sheet_numbers : (regime_end : ℕ) (bs : List ℕ) (why place : ℕ) → sheet_reading regime_end bs ≡ refused why place
    → eqb why 13 ≡ false → eqb why 15 ≡ false → eqb why 2 ≡ false → eqb why 3 ≡ false → eqb why 4 ≡ false → eqb why 5 ≡ false → ⊥
sheet_numbers regime_end bs why place e = no_other regime_end bs why place e

module _ (regime_end : ℕ) (good : good_regime_end regime_end ≡ true) where
  sheet_placed : Placed (sheet_form regime_end)
  sheet_placed = two_tags_placed 20 entry_layout layout_laws (omega arith) (piece_number regime_end)

  -- the sheet of a valid log is read as that log
  pub sheet_read : (log : Log) (bs : List ℕ) → IsSheetOf regime_end log bs → sheet_reading regime_end bs ≡ whole log
  sheet_read log bs s = ap (sheet_reading regime_end) (sym s.is) ∙ written_read regime_end good log s.slotted s.end s.valid s.shown ∙ ap whole (open_is log s.all_open)

  -- two valid logs with the same sheet are one
  pub same_bytes : (x y : Log) (bs : List ℕ) → IsSheetOf regime_end x bs → IsSheetOf regime_end y bs → x ≡ y
  same_bytes = Message.same_message (sheet_lawful regime_end good) (sheet_messages regime_end good)

  -- ---- where a refused reading stands
  pub refusal_place : (bs : List ℕ) (why place : ℕ) → Bytes bs → sheet_reading regime_end bs ≡ refused why place → RefusalPlace regime_end bs place
  unfolding sheet_reading
  refusal_place bs why place b e = Message.refusal_place (sheet_lawful regime_end good) (sheet_messages regime_end good) sheet_placed (length bs) bs why place b (le_refl (length bs)) e

  -- no other place is that of the first piece that fails
  pub place_alone : (bs : List ℕ) → Bytes bs → (why place : ℕ) → sheet_reading regime_end bs ≡ refused why place → (q : ℕ) → RefusalPlace regime_end bs q → q ≡ place
  unfolding sheet_reading
  place_alone bs b why place e q s = Message.place_alone (sheet_lawful regime_end good) (sheet_messages regime_end good) sheet_placed (length bs) bs b (le_refl (length bs)) why place e q s
