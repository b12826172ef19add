-- Four amounts more for each year, and five of the period.
use Rattle.std.proofs.Common.{◌≡◌, ℕ, ◌+◌, ◌-◌, ◌*◌, ℤ, [], ◌∷◌, length, get_or, sym, ap, ◌∙◌, arith, rules}
use Rattle.std.specs.Prelude.{Result, Ok}
use Rattle.std.specs.Result.{is_ok}
use borrow.Rule.Slice.PartMut.{put_mid}
use mir.Syntax.{w64}
use mir.Val.{to_z, of_z}
use mir.Facts.{to_z-of_z}
use Rattle.lists.proofs.Tests.{unmapped_length}
use Rattle.money.proofs.Pounds.{wire}
use Rattle.levels.specs.declared.Book.{Book}
use Rattle.levels.specs.declared.levelling.Levels.{Levels}
use Rattle.levels.specs.Levels.{cap_level, floor_of}
use Rattle.balances.specs.Balance.{period_years}
use Rattle.assessment.proofs.Years.{no_year}
use Rattle.workbook_input.specs.Calls.{year_amounts}
use Rattle.workbook_input.proofs.Filling.{none_held, year_given, levels_are, revenue_is, year_more, figures_more}
use Rattle.workbook_input.proofs.amounts.amounts_of.Goals as goal

found : {A E : Type 0} {a b : A} → ◌≡◌ {A = Result A E} (Ok a) (Ok b) → a ≡ b
found e = cc

-- four amounts, and five
four : {a b c d i j k n : ℤ} → a ≡ i → b ≡ j → c ≡ k → d ≡ n → a ∷ b ∷ c ∷ d ∷ [] ≡ i ∷ j ∷ k ∷ n ∷ []
four p q r s = cc

five : {a b c d e i j k n m : ℤ} → a ≡ i → b ≡ j → c ≡ k → d ≡ n → e ≡ m → a ∷ b ∷ c ∷ d ∷ e ∷ [] ≡ i ∷ j ∷ k ∷ n ∷ m ∷ []
five p q r s t = cc

pub loop-k-init : goal.loop-k-init
loop-k-init c = none_held

pub unwrap-revenue-requires : goal.unwrap-revenue-requires
unwrap-revenue-requires c =
    let len : length c.args.years ≡ period_years = search (rules, unmapped_length) in
    let y = get_or c.args.years c.loop-k.k no_year in
    let g = year_given c.args.book c.args.years c.args.log len c.requires.1 c.loop-k.k (omega (arith, len)) in
    ap is_ok (revenue_is c.args.book c.args.log y g c.revenue_of.result c.revenue_of.ensures)

pub unwrap-levels-requires : goal.unwrap-levels-requires
unwrap-levels-requires c =
    let len : length c.args.years ≡ period_years = search (rules, unmapped_length) in
    let y = get_or c.args.years c.loop-k.k no_year in
    let g = year_given c.args.book c.args.years c.args.log len c.requires.1 c.loop-k.k (omega (arith, len)) in
    ap is_ok (levels_are c.args.book c.args.log y g c.levels_of.result c.levels_of.ensures)

pub loop-k-preserved : goal.loop-k-preserved
loop-k-preserved c =
    let years = c.args.years in
    let log = c.args.log in
    let k = c.loop-k.k in
    let len : length years ≡ period_years = search (rules, unmapped_length) in
    let y = get_or years k no_year in
    let g = year_given c.args.book years log len c.requires.1 k (omega (arith, len)) in
    let revenue = found (sym c.unwrap-revenue.ensures ∙ revenue_is c.args.book log y g c.revenue_of.result c.revenue_of.ensures) in
    let levels = found (sym c.unwrap-levels.ensures ∙ levels_are c.args.book log y g c.levels_of.result c.levels_of.ensures) in
    let cap = ap (λ (l : Levels). l.cap) levels ∙ ap (λ (b : Book). cap_level b y) c.requires.0 in
    let floor = ap (λ (l : Levels). l.floor) levels ∙ ap (λ (b : Book). floor_of b y log) c.requires.0 in
    let paid : to_z w64 (of_z w64 y.wpa) ≡ y.wpa = search (rules, to_z-of_z) in
    let wide-cap : to_z w64 (of_z w64 c.unwrap-levels.result.cap) ≡ c.unwrap-levels.result.cap = search (rules, to_z-of_z) in
    let wide-floor : to_z w64 (of_z w64 c.unwrap-levels.result.floor) ≡ c.unwrap-levels.result.floor = search (rules, to_z-of_z) in
    let own : c.copy_from_slice.new.self ≡ year_amounts log y =
    c.copy_from_slice.ensures.after ∙ four (wire _ c.unwrap-revenue.type_inv ∙ revenue) (wide-cap ∙ cap) (wide-floor ∙ floor) paid in
    let width : (k + 1) * 4 - k * 4 ≡ 4 = omega arith in
    ap (λ (n : ℕ). put_mid (k * 4) n c.loop-k.amounts c.copy_from_slice.new.self) width
    ∙ year_more log years len k (omega (arith, len)) c.loop-k.amounts c.copy_from_slice.new.self c.loop-k.invariant own

pub returns : goal.returns
returns c =
    let years = c.args.years in
    let f = c.args.figures in
    let len : length years ≡ period_years = search (rules, unmapped_length) in
    let revenue : to_z w64 (of_z w64 f.revenue) ≡ f.revenue = search (rules, to_z-of_z) in
    let cap : to_z w64 (of_z w64 f.cap) ≡ f.cap = search (rules, to_z-of_z) in
    let floor : to_z w64 (of_z w64 f.floor) ≡ f.floor = search (rules, to_z-of_z) in
    let paid : to_z w64 (of_z w64 f.wpa) ≡ f.wpa = search (rules, to_z-of_z) in
    let last : to_z w64 (of_z w64 f.adjustment) ≡ f.adjustment = search (rules, to_z-of_z) in
    ap (put_mid 20 5 c.loop-k.amounts) (c.copy_from_slice-2.ensures.after ∙ five revenue cap floor paid last)
    ∙ figures_more c.args.log years len c.loop-k.k (omega (arith, len)) f c.loop-k.amounts c.loop-k.invariant
