-- Reading and writing again is answered and no second answer fits, and the rows stand in the order of refusals. Assumes nothing.
use mathlib.Core.Path.{◌≡◌, refl}
use mathlib.Core.Bool.{true}
use mathlib.Core.List.{List}
use Prim.Native.Nat.{ℕ}
use lib.ListN.{length}
use Rattle.std.specs.Prelude.{Result}
use Rattle.refusals.specs.declared.Refusal.{Refusal}
use Rattle.refusals.specs.Order.{in_turn, in_order_of}
use Rattle.refusals.specs.Answers.{One}
use Rattle.refusals.proofs.Writing.{only_laid, one_laid}
use Rattle.return_refiling.specs.Refiled.{refile_rows, refiled_buffer, RefileGives}

pub only_refile : (bs out : List ℕ) (r s : Result ℕ Refusal) (o p : List ℕ) → RefileGives bs out r o → RefileGives bs out s p → (r ≡ s) × (o ≡ p)
only_refile bs out r s o p a b = only_laid (refile_rows bs (length out)) (length bs) (refiled_buffer bs out) r s o p a b

pub one_refile : (bs out : List ℕ) → One (λ (p : Result ℕ Refusal × List ℕ). RefileGives bs out p.0 p.1)
one_refile bs out = one_laid (refile_rows bs (length out)) (length bs) (refiled_buffer bs out)

pub refile_in_turn : (bs : List ℕ) (room : ℕ) → in_order_of in_turn (refile_rows bs room) ≡ true
refile_in_turn bs room = refl
