-- A log that is read from a day sheet is one of those that demand 3 speaks of. Assumes nothing.
use mathlib.Core.Path.{◌≡◌, refl, sym, ap, ◌∙◌}
use mathlib.Core.Bool.{Bool, true, false, cond, ◌&&◌}
use mathlib.Core.List.{List, [], ◌∷◌, ◌++◌, map, append_assoc, append-nil}
use Prim.Native.Nat.{ℕ, ◌+◌, ◌≤◌, ◌<◌}
use native.Mathlib.Omega.{arith}
use borrow.Author.Tests.{eq-eqb, leb-true, lt-leb, le-ltb}
use lib.Dec.{leb}
use lib.ListN.{length, take, drop, length-append}
use lib.Seq.{append_snoc, take_at}
use Rattle.lists.proofs.Tests.{and_left, and_right, and_made, not_no}
use Rattle.std.specs.Prelude.{Result, Ok}
use Rattle.refusals.specs.declared.Refusal.{Refusal}
use Rattle.refusals.specs.declared.RefusedAt.{RefusedAt}
use Rattle.refusals.specs.Refusals.{answer_number, given_or, why_alone, part_number, first_applicable, accepted}
use Rattle.refusals.proofs.Cases.{same_case}
use Rattle.refusals.proofs.Laws.{AllClear, all_clear}
use Rattle.entries.specs.declared.Entry.{Entry}
use Rattle.entries.specs.Row.{good_span, good_loss, has_room, put_in_order}
use Rattle.entries.proofs.Keeps.{good_most}
use Rattle.outage.specs.declared.Log.{Log}
use Rattle.outage.specs.Log.{slots, good_regime_end, log_entries, valid_log, closed_at, log_holding}
use Rattle.outage.specs.Calls.{empty_log, enter_rows, enter_log, EnterGives}
use Rattle.outage.proofs.LogHolding.{valid_end, open_is, open_holds, log_holding_entries, log_holding_valid}
use Rattle.outage.proofs.Only.{one_empty, one_enter}
use Rattle.sheet_format.proofs.Apart.{sheet_entry, follows, follows_says, rest_follows, shown_good}
use Rattle.sheet_format.proofs.Ends.{end_of, end_last, follows_more, first_ahead, none_held, room_after}
use Rattle.codec.specs.Message.{Reading, whole, refused}
use Rattle.codec.specs.Theorems.{Bytes}
use Rattle.outage_field.specs.Field.{entry_bytes}
use Rattle.sheet_format.specs.Pieces.{meant, pieces_in}
use Rattle.sheet_format.specs.Shown.{on_sheet}
use Rattle.sheet_format.specs.Sheet.{read_sheet_rows, sheet_reading, sheet_log, sheet_of, write_sheet_rows}
use Rattle.sheet_round_trip.specs.Sheets.{IsSheetOf, longest_sheet}
use Rattle.sheet_round_trip.specs.Sheets as sheets
use Rattle.sheet_round_trip.proofs.RoundTrip.{in_turn_law, log_few, sheet_means, sheet_most, written_read, read_written}
use Rattle.sheet_round_trip.proofs.Cut.{cut_same}
use Rattle.sheet_round_trip.proofs.Places.{sheet_numbers, refusal_place, place_alone}
use Rattle.sheet_reading.specs.Reading.{SheetGives}
use Rattle.sheet_reading.proofs.Only.{only_read_sheet}
use Rattle.sheet_writing.specs.Written.{WriteSheetGives}
use Rattle.demands.specs.Sheets.{FromSheet}
use Rattle.demands.specs.Runs.{events_of}
use Rattle.demands.specs.Given.{made_log}
use Rattle.demands.specs.Log.{Logged, Call, entering, Turn, log_of, RanFrom, log_after, Event, put, happened, not_cancelled, closed_from}
use Rattle.demands.specs.Demand3.{Demand3}
use Rattle.demands.proofs.Demand3.{demand_3}

-- ---- an entry that starts where the last has ended goes in at the end
put_last : (re from : ℕ) (es : List Entry) (e : Entry) → follows re from es ≡ true → end_of from es ≤ e.start → put_in_order e es ≡ es ++ (e ∷ [])
put_last re from [] e f h = refl
put_last re from (x ∷ es) e f h =
    rw (first_ahead re from x es e f h, put_last re x.end es e (rest_follows re from x es f) h) refl

module _ (re : ℕ) (good : good_regime_end re ≡ true) where
  -- ---- one entry more
  module _ (held : List Entry) (e : Entry) (f : follows re 0 held ≡ true) (from : end_of 0 held ≤ e.start) (s : sheet_entry re e ≡ true) (room : length held < slots) where
    taken : first_applicable (enter_rows (log_holding re held) e) ≡ 0
    taken =
        let g = shown_good re e s in
        let v = log_holding_valid re held good (omega arith) (follows_says re 0 held f).0.rules in
        let n = none_held re 0 held e f from in
        let r : has_room held e.start e.end e.mw ≡ true = room_after re 0 held e f from (good_most re e g) in
        rw (v, and_left (good_span re e) (good_loss e) g, and_right (good_span re e) (good_loss e) g, le-ltb e.start 0 (omega arith), log_holding_entries re held, n, r, lt-leb slots (length held) room) refl

    entered : enter_log (log_holding re held) e ≡ log_holding re (held ++ (e ∷ []))
    entered =
        rw (eq-eqb (first_applicable (enter_rows (log_holding re held) e)) 0 taken, log_holding_entries re held, put_last re 0 held e f from) refl

  -- ---- entries one by one
  record Enters (held rest : List Entry) : Type 0 where
    turns : List Turn
    calls : map (λ (turn : Turn). turn.0) turns ≡ map entering rest
    ran : RanFrom (log_holding re held) turns
    events : events_of happened turns ≡ map put rest
    gives : log_after (log_holding re held) turns ≡ log_holding re (held ++ rest)

  one_more : (held : List Entry) (e : Entry) (rest : List Entry) (r : Logged) → EnterGives (log_holding re held) e r.answer r.log → answer_number r.answer ≡ 0 → r.log ≡ log_holding re (held ++ (e ∷ []))
      → Enters (held ++ (e ∷ [])) rest → Enters held (e ∷ rest)
  one_more held e rest r m n l i =
      record {
        turns = (entering e, r) ∷ i.turns;
        calls = ap (λ (cs : List Call). entering e ∷ cs) i.calls;
        ran = (m, rw l i.ran);
        events = rw (eq-eqb (answer_number r.answer) 0 n) (ap (λ (es : List Event). put e ∷ es) i.events);
        gives = rw l (i.gives ∙ ap (log_holding re) (append_snoc held e rest));
      }

  enters : (held rest : List Entry) → follows re 0 held ≡ true → follows re (end_of 0 held) rest ≡ true → length held + length rest ≤ slots → Enters held rest
  enters held [] f h few = record { turns = []; calls = refl; ran = tt; events = refl; gives = rw append-nil refl }
  enters held (e ∷ rest) f h few =
      let t = leb (end_of 0 held) e.start && sheet_entry re e in
      let a = and_left t (follows re e.end rest) h in
      let from = leb-true (end_of 0 held) e.start (and_left (leb (end_of 0 held) e.start) (sheet_entry re e) a) in
      let g = and_right (leb (end_of 0 held) e.start) (sheet_entry re e) a in
      let o = one_enter (log_holding re held) e in
      let k : follows re 0 (held ++ (e ∷ [])) ≡ true = follows_more re 0 held e ∙ and_made f a in
      one_more held e rest (record { answer = o.result.0; log = o.result.1 }) o.meets (o.meets.0 ∙ taken held e f from g (omega arith)) (o.meets.1 ∙ entered held e f from g (omega arith))
      (enters (held ++ (e ∷ [])) rest k (rw (end_last 0 held e) (and_right t (follows re e.end rest) h)) (rw (length-append held (e ∷ [])) (omega arith)))

-- ---- where no row of a reading applies it is of a log
pub clear_whole : (re : ℕ) (bs : List ℕ) → first_applicable (read_sheet_rows re bs) ≡ 0 → sheet_reading re bs ≡ whole (sheet_log re bs)
clear_whole re bs z = by (sheet_reading re bs) refl
  where
    clear : AllClear (read_sheet_rows re bs)
    clear = all_clear (read_sheet_rows re bs) z

    by : (r : Reading Log) → sheet_reading re bs ≡ r → sheet_reading re bs ≡ whole (sheet_log re bs)
    by (whole log) e = e ∙ ap whole (sym (rw (not_no (good_regime_end re) clear.0, e) refl))
    by (refused why place) e =
        let c = clear.1 in
        absurd (sheet_numbers re bs why place e (rw e at c.0) (rw e at c.1.0) (rw e at c.1.1.0) (rw e at c.1.1.1.0) (rw e at c.1.1.1.1.0) (rw e at c.1.1.1.1.1.0))

-- ---- what an accepted reading is
module _ (re : ℕ) (bs : List ℕ) (b : Bytes bs) (t : Result Log RefusedAt) (g : SheetGives re bs t) (n : answer_number (why_alone t) ≡ 0) where
  abbrev pub read_log : Log
  read_log = given_or (empty_log re) (why_alone t)

  pub sheet_end : good_regime_end re ≡ true
  sheet_end = not_no (good_regime_end re) (all_clear (read_sheet_rows re bs) (sym g.0 ∙ n)).0

  pub sheet_whole : sheet_reading re bs ≡ whole read_log
  sheet_whole = clear_whole re bs (sym g.0 ∙ n) ∙ ap whole (sym g.2)

  pub sheet_is : IsSheetOf re read_log bs
  sheet_is = read_written re sheet_end bs read_log b sheet_whole

  pub from_sheet : FromSheet re bs read_log
  unfolding sheet_of
  from_sheet =
      let i = sheet_is in
      let es = log_entries read_log in
      let m : meant (pieces_in es) ≡ es = sheet_means read_log i.slotted i.valid i.shown in
      let f : follows re 0 es ≡ true = ap (λ (r : ℕ). follows r 0 es) (sym i.end) ∙ in_turn_law read_log i.slotted i.valid i.shown in
      let o = one_empty re in
      let made : made_log o.result ≡ log_holding re [] = o.meets.1 ∙ rw sheet_end refl in
      let r = enters re sheet_end [] es refl f (omega (arith, log_few read_log i.slotted i.valid)) in
      record {
        pieces = pieces_in es;
        are = i.is;
        made = o.result;
        empty = o.meets;
        taken = o.meets.0 ∙ rw sheet_end refl;
        turns = r.turns;
        calls = r.calls ∙ ap (map entering) (sym m);
        ran = rw made r.ran;
        events = r.events ∙ ap (map put) (sym m);
        gives = rw made (r.gives ∙ ap (λ (end : ℕ). log_holding end es) (sym i.end) ∙ sym (open_holds read_log i.slotted i.valid) ∙ open_is read_log i.all_open);
      }

-- ---- and after any calls on it
pub ran_more : (log : Log) (a b : List Turn) → RanFrom log a → RanFrom (log_after log a) b → RanFrom log (a ++ b)
ran_more log [] b r q = q
ran_more log (turn ∷ a) b r q = (r.0, ran_more (log_of turn.1) a b r.1 q)

pub after_more : (log : Log) (a b : List Turn) → log_after log (a ++ b) ≡ log_after (log_after log a) b
after_more log [] b = refl
after_more log (turn ∷ a) b = after_more (log_of turn.1) a b

pub events_more : (a b : List Turn) → events_of happened (a ++ b) ≡ events_of happened a ++ events_of happened b
events_more [] b = refl
events_more (turn ∷ a) b = ap (λ (es : List Event). happened turn ++ es) (events_more a b) ∙ sym (append_assoc (happened turn) (events_of happened a) (events_of happened b))

-- demand 3 of a run from a log that was read: its entries are those that the pieces mean and those accepted since, without those cancelled
pub demand_3_from_sheet : (re : ℕ) (bs : List ℕ) (log : Log) (s : FromSheet re bs log) (turns : List Turn) → RanFrom log turns
    → Demand3 re (log_after log turns) (not_cancelled (map put (meant s.pieces) ++ events_of happened turns)) (closed_from 0 (map put (meant s.pieces) ++ events_of happened turns))
demand_3_from_sheet re bs log s turns r =
    let d = demand_3 re s.made s.empty (s.turns ++ turns) (ran_more (made_log s.made) s.turns turns s.ran (rw s.gives r)) in
    let l : log_after (made_log s.made) (s.turns ++ turns) ≡ log_after log turns = after_more (made_log s.made) s.turns turns ∙ ap (λ (x : Log). log_after x turns) s.gives in
    let e : events_of happened (s.turns ++ turns) ≡ map put (meant s.pieces) ++ events_of happened turns = events_more s.turns turns ∙ ap (λ (es : List Event). es ++ events_of happened turns) s.events in
    rw (l, e) at d

-- ---- a log that was written
module _ (log : Log) (slotted : length log.entries ≡ slots) (out o : List ℕ) (n : ℕ) (w : WriteSheetGives log out (Ok n) o) where
  yes : accepted (write_sheet_rows log (length out)) ≡ true
  yes = eq-eqb (first_applicable (write_sheet_rows log (length out))) 0 (sym w.0)

  valid : valid_log log ≡ true
  valid = not_no (valid_log log) (all_clear (write_sheet_rows log (length out)) (sym w.0)).0

  shown : on_sheet (log_entries log) ≡ true
  shown = not_no (on_sheet (log_entries log)) (all_clear (write_sheet_rows log (length out)) (sym w.0)).1.0

  long : n ≡ length (sheet_of log)
  long = w.1 ∙ ap (λ (b : Bool). cond b (length (sheet_of log)) 0) yes

  front : take n o ≡ sheet_of log
  front =
      let is : o ≡ sheet_of log ++ drop (length (sheet_of log)) out = w.2 ∙ ap (λ (b : Bool). cond b (sheet_of log ++ drop (length (sheet_of log)) out) out) yes in
      ap (take n) is ∙ take_at (sheet_of log) (drop (length (sheet_of log)) out) n (sym long)

  -- it reads back with all of it open, and where it is open as itself
  pub sheet_reads_back : (t : Result Log RefusedAt) → SheetGives log.regime_end (take n o) t → (t ≡ Ok (closed_at log 0)) × (log.closed ≡ 0 → t ≡ Ok log)
  sheet_reads_back t g =
      let good = valid_end log valid in
      let read : sheet_reading log.regime_end (take n o) ≡ whole (closed_at log 0) = ap (sheet_reading log.regime_end) front ∙ written_read log.regime_end good log slotted refl valid shown in
      let is : t ≡ Ok (closed_at log 0) = only_read_sheet log.regime_end (take n o) t (Ok (closed_at log 0)) g (rw (good, read) (refl, refl, refl)) in
      (is, λ h. is ∙ ap Ok (open_is log h))

  pub sheet_not_longer : n ≤ longest_sheet
  sheet_not_longer = omega (arith, long, sheet_most log slotted valid shown)

-- ---- a sheet that was read gives its own bytes
pub sheet_writes_back : (re : ℕ) (bs : List ℕ) → Bytes bs → (t : Result Log RefusedAt) → SheetGives re bs t → answer_number (why_alone t) ≡ 0
    → (out o : List ℕ) (r : Result ℕ Refusal) → WriteSheetGives (given_or (empty_log re) (why_alone t)) out r o → length bs ≤ length out → (r ≡ Ok (length bs)) × (o ≡ bs ++ drop (length bs) out)
sheet_writes_back re bs b t g n out o r w room =
    let i = sheet_is re bs b t g n in
    let v : WriteSheetGives (given_or (empty_log re) (why_alone t)) out r o = w in
    let z = rw (i.valid, i.shown, i.is, le-ltb (length out) (length bs) room) at v in
    (same_case 0 r (Ok (length bs)) z.0 z.1, z.2)

-- ---- the place of a refused sheet
pub sheet_refused_at : (re : ℕ) (bs : List ℕ) → Bytes bs → good_regime_end re ≡ true → (t : Result Log RefusedAt) → SheetGives re bs t → (answer_number (why_alone t) ≡ 0 → ⊥)
    → sheets.RefusalPlace re bs (part_number t) × ((other : ℕ) → sheets.RefusalPlace re bs other → other ≡ part_number t)
sheet_refused_at re bs b good t g z = by (sheet_reading re bs) refl
  where
    by : (r : Reading Log) → sheet_reading re bs ≡ r → sheets.RefusalPlace re bs (part_number t) × ((other : ℕ) → sheets.RefusalPlace re bs other → other ≡ part_number t)
    by (whole log) e = absurd (z (g.0 ∙ rw (good, e) refl))
    by (refused why place) e =
        let p : part_number t ≡ place = g.1 ∙ rw (good, e) refl in
        rw p (refusal_place re good bs why place b e, λ other s. place_alone re good bs b why place e other s)

-- ---- bytes that are longer than the longest sheet and one piece
pub sheet_cut_same : (re : ℕ) (bs : List ℕ) → longest_sheet + entry_bytes ≤ length bs → (t u : Result Log RefusedAt) → SheetGives re (take (longest_sheet + entry_bytes) bs) t → SheetGives re bs u → t ≡ u
sheet_cut_same re bs h t u g k = by (good_regime_end re) refl
  where
    by : (b : Bool) → good_regime_end re ≡ b → t ≡ u
    by true e = only_read_sheet re bs t u (rw (cut_same re e bs h) at g) k
    by false e =
        let bad = rw e at g in
        only_read_sheet re bs t u (rw e bad) k
