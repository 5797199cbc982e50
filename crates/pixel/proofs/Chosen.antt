-- Words chosen by their numbers, one a turn, are what the numbers name.
-- Assumes nothing.
use Prim.Native.Nat.{ℕ}
use mathlib.Core.Path.{◌≡◌, refl, ap}
use mathlib.Core.List.{List, [], ◌∷◌, map}
use lib.ListN.{length}
use Rattle.util.specs.Words.{listed}
use Rattle.util.specs.Lists.{tab}

pub chosen : (f : ℕ → ℕ) (l : List ℕ) → tab (λ k. f (listed l k)) (length l) ≡ map f l
unfolding tab
chosen f [] = refl
chosen f (n ∷ rest) = ap (λ (t : List ℕ). f n ∷ t) (chosen f rest)
