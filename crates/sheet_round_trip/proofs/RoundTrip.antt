-- Out and in again gives the same log, all of it open; in and out gives the same bytes, for every regime end and every length: a day sheet is a
-- message of its format. Assumes nothing.
use mathlib.Core.Path.{◌≡◌, refl, sym, ap, ◌∙◌}
use mathlib.Core.Bool.{true}
use mathlib.Core.List.{List, []}
use Prim.Native.Nat.{ℕ, ◌≤◌}
use native.Mathlib.Nat.{le_refl}
use native.Mathlib.Omega.{arith}
use borrow.Author.Tests.{leb-true}
use lib.Dec.{leb}
use lib.ListN.{length}
use Rattle.lists.proofs.Tests.{and_left, and_right, and_made}
use Rattle.entries.specs.declared.Entry.{Entry}
use Rattle.entries.specs.Row.{first_regime_end, last_regime_end}
use Rattle.entries.proofs.Rows.{valid_says}
use Rattle.outage.specs.declared.Log.{Log}
use Rattle.outage.specs.Log.{slots, row_of, log_entries, valid_log, closed_at, log_holding, good_regime_end}
use Rattle.outage.proofs.LogHolding.{valid_end, valid_room, closed_valid, log_entries_length, open_is, open_holds, log_holding_entries, log_holding_slots, log_holding_valid}
use Rattle.codec.specs.Format.{texts, all_fine}
use Rattle.codec.specs.Shapes.{all_keep}
use Rattle.codec.specs.Message.{whole}
use Rattle.codec.specs.Theorems.{Bytes, Messages}
use Rattle.codec.proofs.Formats.{Lawful}
use Rattle.codec.proofs.Lengths.{texts_length, sizes_most}
use Rattle.codec.proofs.Message as Message
use Rattle.codec.proofs.Shapes.{two_tags_lawful}
use Rattle.outage_field.specs.Field.{entry_layout, entry_bytes}
use Rattle.outage_field.proofs.Laws.{layout_laws}
use Rattle.sheet_format.specs.Pieces.{Piece, meant, pieces_in}
use Rattle.sheet_format.specs.Shown.{on_sheet}
use Rattle.sheet_format.specs.Rule.{piece_number}
use Rattle.sheet_format.specs.Sheet.{piece_item, sheet_form, log_meant, sheet_reading, sheet_of}
use Rattle.sheet_format.proofs.Apart.{follows, follows_says, shown_follow, shown_apart, apart_shown}
use Rattle.sheet_format.proofs.Meant.{meant_none}
use Rattle.sheet_format.proofs.Looks.{item_laws, piece_size}
use Rattle.sheet_format.proofs.Kept.{none_kept}
use Rattle.sheet_format.proofs.Entries.{AllAdd, all_add}
use Rattle.sheet_round_trip.specs.Sheets.{IsSheetOf, longest_sheet}
use Rattle.sheet_round_trip.proofs.Pieces.{all_kept, all_fine_law, pieces_marked, few_pieces}

-- ---- a valid log has few entries
pub log_few : (log : Log) → length log.entries ≡ slots → valid_log log ≡ true → length (log_entries log) ≤ slots
log_few log slotted v = omega (arith, log_entries_length log slotted v, valid_room log v)

-- ---- they have pieces that keep the rule, where a sheet shows them
module _ (log : Log) (slotted : length log.entries ≡ slots) (v : valid_log log ≡ true) (shown : on_sheet (log_entries log) ≡ true) where
  -- its entries follow each other
  pub in_turn_law : follows log.regime_end 0 (log_entries log) ≡ true
  in_turn_law = shown_follow log.regime_end (log_entries log) (valid_says (row_of log) v).rules shown

  by_pieces : AllAdd log.regime_end [] [] (log_entries log)
  by_pieces = all_add log.regime_end [] [] (log_entries log) (none_kept log.regime_end) meant_none in_turn_law (omega (arith, log_few log slotted v))

  -- its pieces mean them
  pub sheet_means : meant (pieces_in (log_entries log)) ≡ log_entries log
  sheet_means = by_pieces.means

  end_most : log.regime_end ≤ last_regime_end
  end_most = leb-true log.regime_end last_regime_end (and_right (leb first_regime_end log.regime_end) (leb log.regime_end last_regime_end) (valid_end log v))

  pieces_fine : all_fine piece_item [] (pieces_in (log_entries log)) ≡ true
  pieces_fine = all_fine_law log.regime_end end_most [] (pieces_in (log_entries log)) (pieces_marked (log_entries log) (shown_apart log.regime_end (log_entries log) (valid_says (row_of log) v).rules shown).causes) by_pieces.keep

  -- rule 15.6: no sheet has more bytes than the longest
  pub sheet_most : length (sheet_of log) ≤ longest_sheet
  unfolding sheet_of
  sheet_most =
      omega (
        arith,
        texts_length piece_item item_laws [] (pieces_in (log_entries log)) pieces_fine,
        sizes_most piece_item entry_bytes (λ b p. omega (arith, piece_size b p)) [] (pieces_in (log_entries log)),
        few_pieces log.regime_end 0 (log_entries log) end_most (omega arith) in_turn_law,
        log_few log slotted v,
      )

-- ---- a day sheet is a message of its format
module _ (regime_end : ℕ) (good : good_regime_end regime_end ≡ true) where
  -- what the format may write is the sheet of a valid log
  pub sheet_of_law : (ps : List Piece) → (sheet_form regime_end).ok ps ≡ true → IsSheetOf regime_end (log_meant regime_end ps) ((sheet_form regime_end).write ps)
  unfolding sheet_of
  sheet_of_law ps h =
      let k = all_kept regime_end [] ps (none_kept regime_end) (and_left (all_fine piece_item [] ps) (all_keep (piece_number regime_end) [] ps) h) (and_right (all_fine piece_item [] ps) (all_keep (piece_number regime_end) [] ps) h) in
      let a = (follows_says regime_end 0 (meant ps) k.valid).0 in
      record {
        slotted = log_holding_slots regime_end (meant ps) k.few;
        end = refl;
        all_open = refl;
        valid = log_holding_valid regime_end (meant ps) good k.few a.rules;
        shown = ap on_sheet (log_holding_entries regime_end (meant ps)) ∙ apart_shown regime_end (meant ps) a;
        is = ap (λ (es : List Entry). texts piece_item [] (pieces_in es)) (log_holding_entries regime_end (meant ps)) ∙ ap (texts piece_item []) k.back;
      }

  pub sheet_messages : Messages (sheet_form regime_end) (log_meant regime_end) (λ (log : Log). pieces_in (log_entries log)) (IsSheetOf regime_end)
  unfolding sheet_of
  sheet_messages =
      record {
        said = sheet_of_law;
        ok = λ log bs s. rw (← s.end) (and_made (pieces_fine log s.slotted s.valid s.shown) (by_pieces log s.slotted s.valid s.shown).keep);
        is = λ log bs s. s.is;
        back = λ log bs s. ap (log_holding regime_end) (by_pieces log s.slotted s.valid s.shown).means ∙ ap (λ (r : ℕ). log_holding r (log_entries log)) (sym s.end) ∙ sym (open_holds log s.slotted s.valid) ∙ open_is log s.all_open;
      }

  pub sheet_lawful : Lawful (sheet_form regime_end) 20 22
  sheet_lawful = two_tags_lawful 20 entry_layout layout_laws (omega arith) (piece_number regime_end)

  -- out and in again gives the same log, all of it open
  pub written_read : (log : Log) → length log.entries ≡ slots → log.regime_end ≡ regime_end → valid_log log ≡ true → on_sheet (log_entries log) ≡ true
      → sheet_reading regime_end (sheet_of log) ≡ whole (closed_at log 0)
  unfolding sheet_reading sheet_of
  written_read log slotted end v shown =
      Message.written_read sheet_lawful sheet_messages (length (sheet_of log)) (closed_at log 0) (sheet_of log) (record { slotted = slotted; end = end; all_open = refl; valid = closed_valid log v 0 refl; shown = shown; is = refl })
      (le_refl (length (sheet_of log)))

  -- in and out gives the same bytes
  pub read_written : (bs : List ℕ) (log : Log) → Bytes bs → sheet_reading regime_end bs ≡ whole log → IsSheetOf regime_end log bs
  unfolding sheet_reading
  read_written bs log b h = Message.read_written sheet_lawful sheet_messages (length bs) bs log b h
