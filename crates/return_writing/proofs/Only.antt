-- Writing a return is answered, no second answer fits nor a second buffer, and its rows stand in the order of refusals. Assumes nothing.
use mathlib.Core.Path.{◌≡◌, refl}
use mathlib.Core.Bool.{true}
use mathlib.Core.List.{List}
use Prim.Native.Nat.{ℕ}
use lib.ListN.{length}
use Rattle.std.specs.Prelude.{Result}
use Rattle.refusals.specs.Order.{in_turn, in_order_of}
use Rattle.refusals.specs.Answers.{One}
use Rattle.refusals.specs.declared.Refusal.{Refusal}
use Rattle.refusals.proofs.Writing.{only_laid, one_laid}
use Rattle.year.specs.declared.Year.{Year}
use Rattle.return_format.specs.Return.{return_of, write_rows, written_buffer}
use Rattle.return_writing.specs.Written.{WriteGives}

pub only_write : (y : Year) (out : List ℕ) (r s : Result ℕ Refusal) (o p : List ℕ) → WriteGives y out r o → WriteGives y out s p → (r ≡ s) × (o ≡ p)
only_write y out r s o p a b = only_laid (write_rows y (length out)) (length (return_of y)) (written_buffer y out) r s o p a b

pub one_write : (y : Year) (out : List ℕ) → One (λ (p : Result ℕ Refusal × List ℕ). WriteGives y out p.0 p.1)
one_write y out = one_laid (write_rows y (length out)) (length (return_of y)) (written_buffer y out)

pub write_in_turn : (y : Year) (room : ℕ) → in_order_of in_turn (write_rows y room) ≡ true
write_in_turn y room = refl
