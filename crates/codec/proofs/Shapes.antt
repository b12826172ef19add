-- Small formats of the shapes that the parts allow, with their laws: a value with a last byte that is left out where it is 1;
-- values under two tags, each kept or refused by a rule. Assumes nothing.
use mathlib.Core.Path.{refl}
use mathlib.Core.Bool.{Bool, not, ◌&&◌}
use mathlib.Core.List.{List}
use Prim.Native.Nat.{ℕ, suc, ◌<◌}
use native.Mathlib.Nat.{le_refl}
use native.Mathlib.Omega.{arith}
use lib.Dec.{eqb}
use borrow.Author.Tests.{eq-eqb, ne_eqb}
use Rattle.lists.proofs.Tests.{and_left, not_yes}
use Rattle.codec.specs.Format.{Value, num, pair, restricted, Item, tagged, many}
use Rattle.codec.specs.Shapes.{beside, either, two_tags, every}
use Rattle.codec.proofs.Values.{ValueLaws, num_laws, pair_laws, restricted_laws}
use Rattle.codec.proofs.Items.{ItemLaws, tagged_laws}
use Rattle.codec.proofs.Found.{restricted_passes}
use Rattle.codec.proofs.Formats.{Lawful}
use Rattle.codec.proofs.Places.{Placed}
use Rattle.codec.proofs.Either.{beside_is, beside_laws, lengths_apart, tags_apart, either_laws}
use Rattle.codec.proofs.Every.{every_lawful, every_placed, many_lawful, many_placed}

-- ---- a last byte that is left out where it is 1; what may stand can depend on those before it
module _ {A : Type 0} (tag : ℕ) (v : Value A) (l : ValueLaws v) (short : v.len < 65000) (may : List (A × ℕ) → A × ℕ → Bool) where
  abbrev is_plain : A × ℕ → Bool
  is_plain p = eqb p.1 1

  abbrev plain : List (A × ℕ) → Value (A × ℕ)
  plain before = restricted (λ p. is_plain p && may before p) (beside 1 v)

  abbrev caused : List (A × ℕ) → Value (A × ℕ)
  caused before = restricted (λ p. not (is_plain p) && may before p) (pair v (num 1 1 255))

  abbrev one_byte : List (A × ℕ) → Item (A × ℕ)
  one_byte before = either is_plain (tagged tag (plain before)) (tagged tag (caused before))

  one_byte_laws : (before : List (A × ℕ)) → ItemLaws (one_byte before)
  one_byte_laws before =
      either_laws is_plain (tagged tag (plain before)) (tagged tag (caused before))
      (tagged_laws tag (plain before) (omega arith) (restricted_laws (λ p. is_plain p && may before p) (beside 1 v) (beside_laws 1 v l)))
      (tagged_laws tag (caused before) (omega arith) (restricted_laws (λ p. not (is_plain p) && may before p) (pair v (num 1 1 255)) (pair_laws v (num 1 1 255) l (num_laws 1 1 255 (omega arith)))))
      (le_refl tag) (le_refl tag)
      (λ bs p e. and_left (is_plain p) (may before p) (restricted_passes tag (beside 1 v) bs (λ p. is_plain p && may before p) p e))
      (λ bs p e. not_yes (is_plain p) (and_left (not (is_plain p)) (may before p) (restricted_passes tag (pair v (num 1 1 255)) bs (λ p. not (is_plain p) && may before p) p e)))
      (λ p rest h. lengths_apart tag (plain before) (caused before) (omega arith) (λ e. omega arith) p rest)

  pub two_lengths_lawful : (n : ℕ) → Lawful (many one_byte n) tag (suc tag)
  two_lengths_lawful n = many_lawful one_byte one_byte_laws n tag tag (λ before. refl) (λ before. refl)

  pub two_lengths_placed : (n : ℕ) → Placed (many one_byte n)
  two_lengths_placed n = many_placed one_byte one_byte_laws n

-- ---- values under a tag and the next, 0 and 1 beside them, as many as there are
module _ {A : Type 0} (tag : ℕ) (v : Value A) (l : ValueLaws v) (short : v.len < 65536) where
  pub two_tags_laws : ItemLaws (two_tags tag v)
  two_tags_laws =
      either_laws (λ p. eqb p.1 0) (tagged tag (beside 0 v)) (tagged (suc tag) (beside 1 v))
      (tagged_laws tag (beside 0 v) short (beside_laws 0 v l))
      (tagged_laws (suc tag) (beside 1 v) short (beside_laws 1 v l))
      (omega arith) (omega arith)
      (λ bs p e. eq-eqb p.1 0 (beside_is 0 v l tag bs p e))
      (λ bs p e. ne_eqb p.1 0 (λ z. omega (arith, z, beside_is 1 v l (suc tag) bs p e)))
      (λ p rest h. tags_apart tag (suc tag) (beside 0 v) (beside 1 v) (λ e. omega arith) p rest)

  pub two_tags_lawful : (rule : List (A × ℕ) → A × ℕ → ℕ) → Lawful (every (λ before. two_tags tag v) rule) tag (suc (suc tag))
  two_tags_lawful rule = every_lawful (λ before. two_tags tag v) rule (λ before. two_tags_laws) tag (suc tag) (λ before. refl) (λ before. refl)

  pub two_tags_placed : (rule : List (A × ℕ) → A × ℕ → ℕ) → Placed (every (λ before. two_tags tag v) rule)
  two_tags_placed rule = every_placed (λ before. two_tags tag v) rule (λ before. two_tags_laws)
