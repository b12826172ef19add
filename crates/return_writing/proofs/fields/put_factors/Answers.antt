-- Factors that are not left out are laid one after the other behind their head.
use Rattle.std.proofs.Common.{◌≡◌, false, sym, ◌∙◌, arith}
use Rattle.codec.specs.Format.{field_of}
use Rattle.codec.proofs.Putting.{put_in}
use Rattle.return_format.specs.Form.{factors_value, is_left_out}
use Rattle.return_writing.proofs.Laying.{factors_laid}
use Rattle.return_writing.proofs.Sizes.{some_size}
use Rattle.return_writing.proofs.fields.put_factors.Goals as goal

pub returns : goal.returns
returns c =
    let a = c.args in
    let written : is_left_out a.year (a.f.pyc, a.f.pyf) ≡ false = sym c.are_left_out.ensures ∙ c.if-are_left_out.false in
    put_in written
    (factors_laid a.year (a.f.pyc, a.f.pyf) (omega (arith, c.requires, some_size (field_of 5 (factors_value a.year) (a.f.pyc, a.f.pyf)) written))
    c.put_head-p.ensures c.put-q.ensures c.put.ensures)
