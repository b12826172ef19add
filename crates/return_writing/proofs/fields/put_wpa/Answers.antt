-- An adjustment that is not 0 is one field, of the number that its magnitude and sign make.
use Rattle.std.proofs.Common.{◌≡◌, false, to_z, of_z, ap, ◌∙◌, arith}
use Rattle.std.specs.Int.{w64}
use mir.ValLaws.{to_z-of_z}
use Rattle.money.specs.Pounds.{is_none}
use Rattle.codec.specs.Format.{field_of}
use Rattle.codec.proofs.Putting.{put_in}
use Rattle.return_format.specs.Form.{wpa_value}
use Rattle.return_writing.proofs.Laying.{wpa_laid}
use Rattle.return_writing.proofs.Sizes.{some_size, wpa_some}
use Rattle.return_writing.proofs.fields.put_wpa.Goals as goal

pub returns : goal.returns
returns c =
    let z = c.args.paid in
    let back : to_z w64 (of_z w64 z) ≡ z = to_z-of_z w64 z c.ranges.paid in
    let written : is_none z ≡ false = wpa_some z c.if-paid-eq0.false in
    put_in written
    (wpa_laid z (c.unsigned.ensures ∙ ap (of_z w64) back) (omega (arith, c.requires, some_size (field_of 9 wpa_value z) written)) c.put_number.ensures)
