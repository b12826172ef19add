-- A return is printed, and no second text fits. Assumes nothing.
use mathlib.Core.Path.{◌≡◌, refl, sym, ◌∙◌}
use mathlib.Core.List.{List, []}
use Prim.Native.Nat.{ℕ}
use Rattle.refusals.specs.declared.Refusal.TheVariants.{Malformed}
use Rattle.refusals.specs.Answers.{One}
use Rattle.text.specs.declared.Text.{Text}
use Rattle.text.specs.Text.{pushed, text_of}
use Rattle.codec.specs.Theorems.{Bytes}
use Rattle.return_format.specs.Return.{Reading, whole, refused, reading_of, read_year}
use Rattle.return_printout.specs.Printout.{refusal_of, printed_year, PrintGives}
use Rattle.return_printout.proofs.YearLines.{refused_given, year_given}

pub only_print : (bs : List ℕ) (r s : Text) → PrintGives bs r → PrintGives bs s → r ≡ s
only_print bs r s p q = p.0 ∙ sym q.0

pub one_print : (bs : List ℕ) → Bytes bs → One (PrintGives bs)
one_print bs b = by (reading_of bs) refl
  where
    given : (r : Text) → PrintGives bs r → One (PrintGives bs)
    given r m = record { result = r; meets = m; alone = λ other h. only_print bs other r h m }

    by : (r : Reading) → reading_of bs ≡ r → One (PrintGives bs)
    by (whole y) e = given (pushed (text_of []) (printed_year (read_year bs))) (year_given bs b (rw e refl) refl)
    by (refused why place) e = given (pushed (text_of []) (refusal_of 13)) (refused_given bs Malformed (rw e refl) refl)
