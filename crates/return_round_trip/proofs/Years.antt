-- A valid year is one whose parts the format may write, and a year is made of its parts. Assumes nothing.
use mathlib.Core.Path.{◌≡◌, refl, sym, ap, ◌∙◌}
use mathlib.Core.Bool.{Bool, true, false, cond, not, ◌&&◌, ◌||◌}
use mathlib.Core.List.{List, [], ◌∷◌, ◌++◌, append-nil}
use Rattle.std.specs.Prelude.{Some, None}
use Prim.Native.Nat.{ℕ, ◌≤◌}
use native.Mathlib.Omega.{arith}
use borrow.Author.Tests.{eqb-true, leb-true, le-leb}
use lib.Dec.{leb, eqb}
use lib.IntN.{ℤ, nat_abs}
use lib.ListN.{length, take}
use lib.Seq.{length-take-le, append_snoc}
use Rattle.lists.specs.Lists.{all, padded}
use Rattle.lists.proofs.Lists.{total_append}
use Rattle.lists.proofs.Padded.{padded_front, padded_free, padded_back}
use Rattle.lists.proofs.Tests.{and_left, and_right, and_made}
use Rattle.calendar.specs.Years.{last_year}
use Rattle.entries.specs.declared.Entry.{Entry}
use Rattle.outage.specs.Log.{slots, last_regime_end, good_entry, valid_entries, row_of, valid_log, log_entries, log_holding}
use Rattle.entries.specs.Row.{ahead, in_order, lost_by}
use Rattle.entries.proofs.Keys.{order_first, order_rest}
use Rattle.entries.proofs.Keeps.{KeepsRules, rules_say, rules_made}
use Rattle.entries.proofs.Rows.{Valid, valid_says}
use Rattle.outage.proofs.LogHolding.{log_entries_length, open_is, open_holds, log_holding_entries, log_holding_valid}
use Rattle.year.specs.declared.Line.{Line}
use Rattle.year.specs.declared.Year.{Year}
use Rattle.year.specs.Year.{good_wpa, good_line, is_zero_line, good_lines, good_year, line_slots, zero_line}
use Rattle.year.proofs.Says.{line_says, LinesSay, lines_say, YearSays, year_says}
use Rattle.codec.specs.Format.{num, pair, all_fine}
use Rattle.money.specs.Pounds.{is_none}
use Rattle.outage_field.proofs.Laws.{caused_fine, where_passes}
use Rattle.return_format.specs.Form.{year_value, pppi_value, rate_value, aic_value, are_these, is_left_out, factors_value, line_layout, line_value, starts_in, may_follow, wpa_value, line_item, entry_item, factors, lines, outages, mark, wpa, Parts, required, form}
use Rattle.return_format.specs.Return.{year_of, parts_of, log_fits, writable, valid_year}
use Rattle.return_round_trip.proofs.Lawful.{none_is, either_way, factors_ok}

-- ---- the parts of what the format may write
pub record Fine (p : Parts) : Type 0 where
  pub year : year_value.fine p.0.0 ≡ true
  pub pppi : pppi_value.fine p.0.1.0 ≡ true
  pub rate : rate_value.fine p.0.1.1.0 ≡ true
  pub aic : aic_value.fine p.0.1.1.1 ≡ true
  pub factored : (factors p.0.0).ok p.1.0 ≡ true
  pub few : length p.1.1.0 ≤ line_slots
  pub lined : all_fine line_item [] p.1.1.0 ≡ true
  pub fewer : length p.1.1.1.0 ≤ slots
  pub logged : all_fine (entry_item p.0.0) [] p.1.1.1.0 ≡ true
  pub marked : mark.ok p.1.1.1.1.0 ≡ true
  pub paid : wpa.ok p.1.1.1.1.1 ≡ true

pub fine : (p : Parts) → form.ok p ≡ true → Fine p
unfolding form
fine p h =
    let r = and_left (required.ok p.0) _ h in
    let h1 = and_right (year_value.fine p.0.0) _ r in
    let h2 = and_right (pppi_value.fine p.0.1.0) _ h1 in
    let h4 = and_right (required.ok p.0) _ h in
    let h5 = and_right ((factors p.0.0).ok p.1.0) _ h4 in
    let h6 = and_right (lines.ok p.1.1.0) _ h5 in
    let h7 = and_right ((outages p.0.0).ok p.1.1.1.0) _ h6 in
    let l = and_left (lines.ok p.1.1.0) _ h5 in
    let o = and_left ((outages p.0.0).ok p.1.1.1.0) _ h6 in
    record {
      year = and_left (year_value.fine p.0.0) _ r;
      pppi = and_left (pppi_value.fine p.0.1.0) _ h1;
      rate = and_left (rate_value.fine p.0.1.1.0) _ h2;
      aic = and_right (rate_value.fine p.0.1.1.0) _ h2;
      factored = and_left ((factors p.0.0).ok p.1.0) _ h4;
      few = leb-true _ _ (and_left (leb (length p.1.1.0) line_slots) _ l);
      lined = and_right (leb (length p.1.1.0) line_slots) _ l;
      fewer = leb-true _ _ (and_left (leb (length p.1.1.1.0) slots) _ o);
      logged = and_right (leb (length p.1.1.1.0) slots) _ o;
      marked = and_left (mark.ok p.1.1.1.1.0) _ h7;
      paid = and_right (mark.ok p.1.1.1.1.0) _ h7;
    }

pub fine_made : (p : Parts) → Fine p → form.ok p ≡ true
unfolding form
fine_made p f =
    and_made (and_made f.year (and_made f.pppi (and_made f.rate f.aic)))
    (and_made f.factored (and_made (and_made (le-leb _ _ f.few) f.lined) (and_made (and_made (le-leb _ _ f.fewer) f.logged) (and_made f.marked f.paid))))

-- ---- lines
line_fine : (l : Line) → good_line l ≡ true → line_value.fine l ≡ true
line_fine l g =
    let s = line_says l g in
    and_made
    (and_made (and_made (le-leb 0 l.kind (omega arith)) (le-leb l.kind 255 (omega (arith, s.to_last))))
    (and_made (and_made (le-leb 0 l.currency (omega arith)) (le-leb l.currency 255 (omega (arith, s.currency)))) (le-leb (nat_abs l.amount) 1000000000 s.amount)))
    g

lines_fine : (before ls : List Line) → all good_line ls ≡ true → all_fine line_item before ls ≡ true
unfolding all_fine
lines_fine before [] g = refl
lines_fine before (l ∷ ls) g =
    and_made (line_fine l (and_left (good_line l) (all good_line ls) g)) (lines_fine (before ++ (l ∷ [])) ls (and_right (good_line l) (all good_line ls) g))

lines_good : (before ls : List Line) → all_fine line_item before ls ≡ true → all good_line ls ≡ true
unfolding all_fine
lines_good before [] f = refl
lines_good before (l ∷ ls) f =
    and_made (and_right (line_layout.fine l) (good_line l) (and_left (line_value.fine l) (all_fine line_item (before ++ (l ∷ [])) ls) f))
    (lines_good (before ++ (l ∷ [])) ls (and_right (line_value.fine l) (all_fine line_item (before ++ (l ∷ [])) ls) f))

-- ---- outages
-- the first of valid entries are valid
all_front : (p : Entry → Bool) (a b : List Entry) → all p (a ++ b) ≡ true → all p a ≡ true
all_front p [] b h = refl
all_front p (x ∷ a) b h = and_made (and_left (p x) (all p (a ++ b)) h) (all_front p a b (and_right (p x) (all p (a ++ b)) h))

order_front : (a b : List Entry) → in_order (a ++ b) ≡ true → in_order a ≡ true
order_front [] b h = refl
order_front (x ∷ a) b h = and_made (all_front (ahead x) a b (order_first x (a ++ b) h)) (order_front a b (order_rest x (a ++ b) h))

valid_front : (re : ℕ) (a b : List Entry) → valid_entries re (a ++ b) ≡ true → valid_entries re a ≡ true
valid_front re a b v =
    let k = rules_say re (a ++ b) v in
    rules_made re a
    (record {
      good = all_front (good_entry re) a b k.good;
      order = order_front a b k.order;
      rated = λ t. omega (arith, k.rated t, total_append (lost_by t) a b);
    })

module _ (number : ℕ) where
  entries_fine : (before es : List Entry) → all (starts_in number) es ≡ true → all (good_entry last_regime_end) es ≡ true → valid_entries last_regime_end (before ++ es) ≡ true → all_fine (entry_item number) before es ≡ true
  unfolding all_fine
  entries_fine before [] s g v = refl
  entries_fine before (e ∷ es) s g v =
      let w : valid_entries last_regime_end ((before ++ (e ∷ [])) ++ es) ≡ true = ap (valid_entries last_regime_end) (append_snoc before e es) ∙ v in
      and_made
      (caused_fine (may_follow number before) 7 last_regime_end (omega arith) e (and_left (good_entry last_regime_end e) (all (good_entry last_regime_end) es) g)
      (and_made (and_left (starts_in number e) (all (starts_in number) es) s) (valid_front last_regime_end (before ++ (e ∷ [])) es w)))
      (entries_fine (before ++ (e ∷ [])) es (and_right (starts_in number e) (all (starts_in number) es) s) (and_right (good_entry last_regime_end e) (all (good_entry last_regime_end) es) g) w)

  entries_good : (before es : List Entry) → all_fine (entry_item number) before es ≡ true → valid_entries last_regime_end before ≡ true → (all (starts_in number) es ≡ true) × (valid_entries last_regime_end (before ++ es) ≡ true)
  unfolding all_fine
  entries_good before [] f v = (refl, ap (valid_entries last_regime_end) (append-nil before) ∙ v)
  entries_good before (e ∷ es) f v =
      let m = where_passes (may_follow number before) 7 e (and_left ((entry_item number before).fine e) (all_fine (entry_item number) (before ++ (e ∷ [])) es) f) in
      let w = valid_entries last_regime_end (before ++ (e ∷ [])) in
      let r = entries_good (before ++ (e ∷ [])) es (and_right ((entry_item number before).fine e) (all_fine (entry_item number) (before ++ (e ∷ [])) es) f) (and_right (starts_in number e) w m) in
      (and_made (and_left (starts_in number e) w m) r.0, ap (valid_entries last_regime_end) (sym (append_snoc before e es)) ∙ r.1)

-- ---- the other parts
left_or_right : (a b : Bool) {X : Type 0} → (a || b) ≡ true → (a ≡ true → X) → (b ≡ true → X) → X
left_or_right true b h f g = f refl
left_or_right false b h f g = g h

pub or_second : (a b : Bool) → (a || b) ≡ true → a ≡ false → b ≡ true
or_second true b h e = cc
or_second false b h e = h

-- the factors that a year leaves out are in range
left_out_small : (number : ℕ) (f : ℕ × ℕ) → is_left_out number f ≡ true → (f.0 ≤ 10000) × (f.1 ≤ 10000)
left_out_small number f h = by (eqb number 1) (eqb number last_year) h
  where
    same : (k : ℕ) → k ≤ 10000 → (eqb f.0 k && eqb f.1 k) ≡ true → (f.0 ≤ 10000) × (f.1 ≤ 10000)
    same k m e =
        let a : f.0 ≡ k = eqb-true f.0 k (and_left (eqb f.0 k) (eqb f.1 k) e) in
        let b : f.1 ≡ k = eqb-true f.1 k (and_right (eqb f.0 k) (eqb f.1 k) e) in
        (omega arith, omega arith)

    by : (first last : Bool) → are_these (cond first (Some (9178, 9178)) (cond last None (Some (10000, 10000)))) f ≡ true → (f.0 ≤ 10000) × (f.1 ≤ 10000)
    by true last e = same 9178 (omega arith) e
    by false true e = cc
    by false false e = same 10000 (omega arith) e

factors_small : (number : ℕ) (f : ℕ × ℕ) → (factors number).ok f ≡ true → (leb f.0 10000 && leb f.1 10000) ≡ true
factors_small number f h =
    left_or_right (is_left_out number f) ((factors_value number).fine f) h
    (λ e. let s = left_out_small number f e in and_made (le-leb f.0 10000 s.0) (le-leb f.1 10000 s.1))
    (λ e.
    let x = num 2 0 10000 in
    let g = and_left ((pair x x).fine f) (not (is_left_out number f)) e in
    and_made (and_right (leb 0 f.0) (leb f.0 10000) (and_left (x.fine f.0) (x.fine f.1) g))
    (and_right (leb 0 f.1) (leb f.1 10000) (and_right (x.fine f.0) (x.fine f.1) g)))

mark_ok : (b : Bool) → mark.ok (cond b 1 0) ≡ true
mark_ok true = refl
mark_ok false = refl

mark_back : (b : Bool) → eqb (cond b 1 0) 1 ≡ b
mark_back true = refl
mark_back false = refl

mark_there : (n : ℕ) → mark.ok n ≡ true → cond (eqb n 1) 1 0 ≡ n
mark_there n h =
    left_or_right (eqb n 0) (leb 1 n && leb n 1) h
    (λ e. let z : n ≡ 0 = eqb-true n 0 e in rw z refl)
    (λ e. let z : n ≡ 1 = omega (arith, leb-true 1 n (and_left (leb 1 n) (leb n 1) e), leb-true n 1 (and_right (leb 1 n) (leb n 1) e)) in rw z refl)

wpa_ok : (z : ℤ) → good_wpa z ≡ true → wpa.ok z ≡ true
wpa_ok z g = either_way (is_none z) (wpa_value.fine z) (λ e. and_made g (ap not e))

wpa_small : (z : ℤ) → wpa.ok z ≡ true → good_wpa z ≡ true
wpa_small z h =
    left_or_right (is_none z) (wpa_value.fine z) h
    (λ e. le-leb (nat_abs z) 1000000000 (omega (arith, eqb-true (nat_abs z) 0 e)))
    (λ e. and_left (good_wpa z) (not (is_none z)) e)

-- ---- the slots of the lines
zero_line_law : (l : Line) → is_zero_line l ≡ true → l ≡ zero_line
zero_line_law l z =
    let r = and_right (eqb l.kind 0) _ z in
    let k = eqb-true l.kind 0 (and_left (eqb l.kind 0) _ z) in
    let c = eqb-true l.currency 0 (and_left (eqb l.currency 0) _ r) in
    let a = none_is l.amount (and_right (eqb l.currency 0) _ r) in
    λ i. record { kind = k i; currency = c i; amount = a i }

-- ---- what a valid year is
module _ (y : Year) (v : valid_year y ≡ true) where
  pub log_valid : valid_log y.log ≡ true
  log_valid = and_left (valid_log y.log) (writable y) v

  may_write : writable y ≡ true
  may_write = and_right (valid_log y.log) (writable y) v

  fits : log_fits y.log y.number ≡ true
  fits = and_right (good_year y) (log_fits y.log y.number) may_write

  pub year_record : good_year y ≡ true
  year_record = and_left (good_year y) (log_fits y.log y.number) may_write

  pub to_end : y.log.regime_end ≡ last_regime_end
  to_end = eqb-true y.log.regime_end last_regime_end (and_left (eqb y.log.regime_end last_regime_end) _ fits)

  open_and_inside : (eqb y.log.closed 0 && all (starts_in y.number) (log_entries y.log)) ≡ true
  open_and_inside = and_right (eqb y.log.regime_end last_regime_end) _ fits

  all_open : y.log.closed ≡ 0
  all_open = eqb-true y.log.closed 0 (and_left (eqb y.log.closed 0) _ open_and_inside)

  log_parts : Valid (row_of y.log)
  log_parts = valid_says (row_of y.log) log_valid

  log_rules : KeepsRules last_regime_end (log_entries y.log)
  log_rules = rw to_end at log_parts.rules

  said : YearSays y
  said = year_says y year_record

  lined : LinesSay y.lines y.line_count
  lined = lines_say y.lines y.line_count said.lines

  module _ (row : length y.lines ≡ line_slots) (slotted : length y.log.entries ≡ slots) where
    taken : length (take y.line_count y.lines) ≡ y.line_count
    taken = length-take-le y.line_count y.lines (omega (arith, lined.few))

    pub year_fine : Fine (parts_of y)
    year_fine =
        record {
          year = said.number;
          pppi = said.pppi;
          rate = said.rate;
          aic = and_made (le-leb 0 y.aic (omega arith)) (le-leb y.aic 20000 said.aic);
          factored = factors_ok y.number y.pyc y.pyf (le-leb y.pyc 10000 said.pyc) (le-leb y.pyf 10000 said.pyf);
          few = omega (arith, taken, lined.few);
          lined = lines_fine [] (take y.line_count y.lines) lined.good;
          fewer = omega (arith, log_entries_length y.log slotted log_valid, log_parts.room);
          logged = entries_fine y.number [] (log_entries y.log) (and_right (eqb y.log.closed 0) _ open_and_inside) log_rules.good (rules_made last_regime_end (log_entries y.log) log_rules);
          marked = mark_ok y.exceptional;
          paid = wpa_ok y.wpa said.wpa;
        }

    row_is : padded line_slots zero_line (take y.line_count y.lines) ≡ y.lines
    row_is = padded_back line_slots zero_line is_zero_line zero_line_law y.lines y.line_count row lined.few lined.free

    log_is : log_holding last_regime_end (log_entries y.log) ≡ y.log
    log_is = ap (λ (re : ℕ). log_holding re (log_entries y.log)) (sym to_end) ∙ sym (open_holds y.log slotted log_valid) ∙ open_is y.log all_open

    -- a year is made of its parts
    pub year_back : year_of (parts_of y) ≡ y
    year_back = λ i.
        record {
          number = y.number;
          pppi = y.pppi;
          rate = y.rate;
          aic = y.aic;
          pyc = y.pyc;
          pyf = y.pyf;
          lines = row_is i;
          line_count = taken i;
          exceptional = mark_back y.exceptional i;
          wpa = y.wpa;
          log = log_is i;
        }

-- ---- what the format may write is a valid year
module _ (p : Parts) (f : Fine p) where
  abbrev ls : List Line
  ls = p.1.1.0

  abbrev es : List Entry
  es = p.1.1.1.0

  entered : (all (starts_in p.0.0) es ≡ true) × (valid_entries last_regime_end es ≡ true)
  entered =
      entries_good p.0.0 [] es f.logged (rules_made last_regime_end [] (record { good = refl; order = refl; rated = λ t. omega arith }))

  lines_made : good_lines (padded line_slots zero_line ls) (length ls) ≡ true
  lines_made =
      and_made (le-leb (length ls) line_slots f.few)
      (and_made (ap (all good_line) (padded_front line_slots zero_line ls) ∙ lines_good [] ls f.lined) (padded_free line_slots zero_line is_zero_line refl ls))

  pub parts_valid : valid_year (year_of p) ≡ true
  parts_valid =
      let k = rules_say last_regime_end es entered.1 in
      let c = p.1.0 in
      let s = factors_small p.0.0 c f.factored in
      and_made (log_holding_valid last_regime_end es refl f.fewer k)
      (and_made
      (and_made
      (and_made f.year (and_made f.pppi (and_made f.rate (and_made (and_right (leb 0 p.0.1.1.1) (leb p.0.1.1.1 20000) f.aic) s))))
      (and_made (wpa_small p.1.1.1.1.1 f.paid) lines_made))
      (and_made refl (and_made refl (ap (all (starts_in p.0.0)) (log_holding_entries last_regime_end es) ∙ entered.0))))

  -- its parts are those that it was made of
  pub parts_back : parts_of (year_of p) ≡ p
  parts_back = λ i. (
    p.0,
    (
      p.1.0,
      (
        padded_front line_slots zero_line ls i,
        (
          log_holding_entries last_regime_end es i,
          (mark_there p.1.1.1.1.0 f.marked i, p.1.1.1.1.1),
        ),
      ),
    ),
  )
