-- A test of every element of a list, in std's word and in this repository's. Assumes nothing.
use mathlib.Core.Path.{◌≡◌, refl, ap}
use mathlib.Core.Bool.{Bool, ◌&&◌}
use mathlib.Core.List.{List, [], ◌∷◌}
use Rattle.std.specs.List.{list_all}
use Rattle.lists.specs.Lists.{all}

pub listed : {A : Type 0} (p : A → Bool) (l : List A) → list_all p l ≡ all p l
listed p [] = refl
listed p (x ∷ l) = ap (λ (b : Bool). p x && b) (listed p l)
