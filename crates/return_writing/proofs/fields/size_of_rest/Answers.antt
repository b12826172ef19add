-- Each test counts the bytes of a field that is written, and nothing for one that is left out.
use Rattle.std.proofs.Common.{◌≡◌, ◌≤◌, ℕ, cond, length, sym, ◌∙◌, SFits, w64, rules, arith}
use Rattle.codec.specs.Format.{field_of}
use Rattle.return_format.specs.Form.{factors, factors_value, mark, wpa, wpa_value}
use Rattle.return_writing.proofs.Sizes.{none_size, some_size, factors_size, mark_in, mark_out, wpa_size, wpa_none, wpa_some}
use Rattle.return_writing.proofs.fields.size_of_rest.Goals as goal
use Rattle.return_writing.proofs.fields.size_of_rest.Goals.{then-are_left_out, else-are_left_out, then-y, else-y, then-y-eq0, else-y-eq0}

pub returns : goal.returns
returns c =
    let y = c.args.y.now in
    let f : ℕ × ℕ = (y.pyc, y.pyf) in
    let bs = field_of 5 (factors_value y.number) f in
    let z = y.wpa in
    let fits : SFits w64 z = search rules in
    let first : (c.if-are_left_out.factors ≡ length ((factors y.number).write f)) × (c.if-are_left_out.factors ≤ 7) =
    elim c.if-are_left_out.branch [
      | then-are_left_out w ↦ let e = none_size bs (sym c.are_left_out.ensures ∙ w.if-are_left_out.true) in (omega (arith, w.factors-is), omega (arith, w.factors-is))
      | else-are_left_out w ↦ let e = some_size bs (sym c.are_left_out.ensures ∙ w.if-are_left_out.false) ∙ factors_size y.number f in (omega (arith, w.factors-is), omega (arith, w.factors-is))
    ] in
    let second : (c.if-y.mark ≡ length (mark.write (cond y.exceptional 1 0))) × (c.if-y.mark ≤ 4) =
    elim c.if-y.branch [
      | then-y w ↦ let e = mark_in w.if-y.true in (omega (arith, w.mark-is), omega (arith, w.mark-is))
      | else-y w ↦ let e = mark_out w.if-y.false in (omega (arith, w.mark-is), omega (arith, w.mark-is))
    ] in
    let third : (c.if-y-eq0.paid ≡ length (wpa.write z)) × (c.if-y-eq0.paid ≤ 11) =
    elim c.if-y-eq0.branch [
      | then-y-eq0 w ↦ let e = none_size (field_of 9 wpa_value z) (wpa_none z fits w.if-y-eq0.true) in (omega (arith, w.paid-is), omega (arith, w.paid-is))
      | else-y-eq0 w ↦ let e = some_size (field_of 9 wpa_value z) (wpa_some z w.if-y-eq0.false) ∙ wpa_size z in (omega (arith, w.paid-is), omega (arith, w.paid-is))
    ] in
    (omega arith, omega arith)
