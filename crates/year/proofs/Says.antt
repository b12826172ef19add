-- What a line in range, lines in range and a year in range say of their fields, and what the check of a year says of it. Assumes nothing.
use mathlib.Core.Path.{◌≡◌, sym, ap, ◌∙◌}
use mathlib.Core.Bool.{true, false, not, ◌&&◌, ◌||◌}
use mathlib.Core.List.{List, []}
use Prim.Native.Nat.{ℕ, ◌≤◌}
use lib.Dec.{leb}
use lib.IntN.{nat_abs}
use lib.ListN.{take, drop}
use lib.Signed.{non_neg}
use borrow.Author.Tests.{leb-true}
use Rattle.std.specs.Prelude.{Result, Ok, Err, ⊤}
use Rattle.lists.specs.Lists.{all}
use Rattle.lists.proofs.Tests.{and_left, and_right, not_no, not_yes}
use Rattle.refusals.specs.declared.Refusal.{Refusal}
use Rattle.refusals.specs.Refusals.{answer_number}
use Rattle.refusals.proofs.Laws.{all_clear, done_clear, last_row}
use Rattle.refusals.specs.declared.Refusal.TheVariants.{BadYear}
use Rattle.calendar.specs.Years.{good_year_number, last_year}
use Rattle.year.specs.declared.Line.{Line}
use Rattle.year.specs.declared.Year.{Year}
use Rattle.year.specs.Year.{good_pppi, good_rate, good_factors, good_line_amount, good_wpa, either_sign, good_line, is_zero_line, good_lines, line_slots, good_year, check_year_rows, CheckYearGives}

-- ---- a line
pub record LineSays (l : Line) : Type 0 where
  pub from_first : 1 ≤ l.kind
  pub to_last : l.kind ≤ 11
  pub currency : l.currency ≤ 1
  pub amount : nat_abs l.amount ≤ 1000000000
  pub sign : (either_sign l.kind || non_neg l.amount) ≡ true

pub line_says : (l : Line) → good_line l ≡ true → LineSays l
line_says l g =
    let k = leb 1 l.kind && leb l.kind 11 in
    let c = leb l.currency 1 in
    let a = good_line_amount l.amount in
    let s = either_sign l.kind || non_neg l.amount in
    let kinds = and_left k (c && (a && s)) g in
    let rest = and_right k (c && (a && s)) g in
    let last = and_right c (a && s) rest in
    record {
      from_first = leb-true 1 l.kind (and_left (leb 1 l.kind) (leb l.kind 11) kinds);
      to_last = leb-true l.kind 11 (and_right (leb 1 l.kind) (leb l.kind 11) kinds);
      currency = leb-true l.currency 1 (and_left c (a && s) rest);
      amount = leb-true (nat_abs l.amount) 1000000000 (and_left a s last);
      sign = and_right a s last;
    }

-- ---- the lines
pub record LinesSay (lines : List Line) (count : ℕ) : Type 0 where
  pub few : count ≤ line_slots
  pub good : all good_line (take count lines) ≡ true
  pub free : all is_zero_line (drop count lines) ≡ true

pub lines_say : (lines : List Line) (count : ℕ) → good_lines lines count ≡ true → LinesSay lines count
lines_say lines count g =
    let f = leb count line_slots in
    let a = all good_line (take count lines) in
    let z = all is_zero_line (drop count lines) in
    let rest = and_right f (a && z) g in
    record { few = leb-true count line_slots (and_left f (a && z) g); good = and_left a z rest; free = and_right a z rest }

-- ---- the index and the rate
pub pppi_most : (pppi : ℕ) → good_pppi pppi ≡ true → pppi ≤ 50000
pppi_most pppi g = leb-true pppi 50000 (and_right (leb 5000 pppi) (leb pppi 50000) g)

-- ---- a year, all of it but its log
pub record YearSays (y : Year) : Type 0 where
  pub number : good_year_number y.number ≡ true
  pub from_first : 1 ≤ y.number
  pub to_last : y.number ≤ last_year
  pub pppi : good_pppi y.pppi ≡ true
  pub rate : good_rate y.rate ≡ true
  pub aic : y.aic ≤ 20000
  pub pyc : y.pyc ≤ 10000
  pub pyf : y.pyf ≤ 10000
  pub wpa : good_wpa y.wpa ≡ true
  pub lines : good_lines y.lines y.line_count ≡ true

pub year_says : (y : Year) → good_year y ≡ true → YearSays y
year_says y g =
    let n = good_year_number y.number in
    let i = good_pppi y.pppi in
    let e = good_rate y.rate in
    let a = leb y.aic 20000 in
    let c = leb y.pyc 10000 in
    let f = leb y.pyf 10000 in
    let w = good_wpa y.wpa in
    let l = good_lines y.lines y.line_count in
    let factors = good_factors y.number y.pppi y.rate y.aic y.pyc y.pyf in
    let p = and_left factors (w && l) g in
    let others = and_right factors (w && l) g in
    let good = and_left n (i && (e && (a && (c && f)))) p in
    let q = and_right n (i && (e && (a && (c && f)))) p in
    let r = and_right i (e && (a && (c && f))) q in
    let s = and_right e (a && (c && f)) r in
    let t = and_right a (c && f) s in
    record {
      number = good;
      from_first = leb-true 1 y.number (and_left (leb 1 y.number) (leb y.number last_year) good);
      to_last = leb-true y.number last_year (and_right (leb 1 y.number) (leb y.number last_year) good);
      pppi = and_left i (e && (a && (c && f))) q;
      rate = and_left e (a && (c && f)) r;
      aic = leb-true y.aic 20000 (and_left a (c && f) s);
      pyc = leb-true y.pyc 10000 (and_left c f t);
      pyf = leb-true y.pyf 10000 (and_right c f t);
      wpa = and_left w l others;
      lines = and_right w l others;
    }

-- ---- the check's answer
module _ (y : Year) (a : Result ⊤ Refusal) (g : CheckYearGives y a) where
  pub checked_good : a ≡ Ok tt → good_year y ≡ true
  checked_good e = not_no (good_year y) (all_clear (check_year_rows y) (done_clear a (check_year_rows y) g tt e)).0

  pub checked_bad : (why : Refusal) → a ≡ Err why → good_year y ≡ false
  checked_bad why e = not_yes (good_year y) (last_row [] BadYear why (not (good_year y)) tt (sym (ap answer_number e) ∙ g)).0
