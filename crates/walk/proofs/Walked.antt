-- The walk of the MLX90640 by tables and by pixels: it finds nothing exactly where no pixel of a table has a fault.
-- Assumes nothing.
use mathlib.Core.Path.{◌≡◌, ap, ◌∙◌}
use mathlib.Core.List.{List, ◌++◌}
use Prim.Native.Nat.{ℕ, ◌<◌}
use native.Mathlib.Nat.{zero-add}
use Rattle.refusal.specs.Code.{or_else, accepted}
use Rattle.refusal.specs.declared.Table.{Table}
use Rattle.refusal.specs.declared.Table.TheVariants.{Offset, Alpha, Kta}
use Rattle.steps.specs.Steps.{Step, first_outside, steps_from}
use Rattle.walk.specs.Walk.{pixel_steps, table_steps, walk}
use Rattle.steps.proofs.Order.{first-append}
use Rattle.steps.proofs.Meaning.{none-append, none-joined, pixel-none, pixels-none}

-- the three tables one after the other
pub walk-order : (w : ℕ → ℕ) → first_outside (walk w) ≡ or_else (first_outside (table_steps w Offset)) (or_else (first_outside (table_steps w Alpha)) (first_outside (table_steps w Kta)))
unfolding walk
walk-order w = first-append (table_steps w Offset) (table_steps w Alpha ++ table_steps w Kta) ∙ ap (or_else (first_outside (table_steps w Offset))) (first-append (table_steps w Alpha) (table_steps w Kta))

-- no pixel of a table has a fault
abbrev pub Calm : (ℕ → ℕ) → Table → Type 0
Calm w t = (p : ℕ) → p < 768 → first_outside (pixel_steps w t p) ≡ accepted

pub calm-table : (w : ℕ → ℕ) (t : Table) → Calm w t → first_outside (table_steps w t) ≡ accepted
unfolding table_steps
calm-table w t h = pixels-none (pixel_steps w t) 768 0 (λ k l. rw (zero-add k) (h k l))

pub calm_walk : (w : ℕ → ℕ) → ((t : Table) → Calm w t) → first_outside (walk w) ≡ accepted
unfolding walk
calm_walk w h =
    none-joined (table_steps w Offset) (table_steps w Alpha ++ table_steps w Kta) (calm-table w Offset (h Offset))
    (none-joined (table_steps w Alpha) (table_steps w Kta) (calm-table w Alpha (h Alpha)) (calm-table w Kta (h Kta)))

-- the other way, for any steps of the pixels
pub pixels-calm : (f : Table → ℕ → List Step) → first_outside (steps_from (f Offset) 768 0 ++ (steps_from (f Alpha) 768 0 ++ steps_from (f Kta) 768 0)) ≡ accepted
    → (t : Table) (p : ℕ) → p < 768 → first_outside (f t p) ≡ accepted
pixels-calm f e t p h = rw (← zero-add p) (pixel-none (f t) 768 0 p (own t) h)
  where
    rest : (first_outside (steps_from (f Alpha) 768 0) ≡ accepted) × (first_outside (steps_from (f Kta) 768 0) ≡ accepted)
    rest = none-append (steps_from (f Alpha) 768 0) (steps_from (f Kta) 768 0) (none-append (steps_from (f Offset) 768 0) (steps_from (f Alpha) 768 0 ++ steps_from (f Kta) 768 0) e).1

    own : (t : Table) → first_outside (steps_from (f t) 768 0) ≡ accepted
    own Offset = (none-append (steps_from (f Offset) 768 0) (steps_from (f Alpha) 768 0 ++ steps_from (f Kta) 768 0) e).0
    own Alpha = rest.0
    own Kta = rest.1

pub walk-calm : (w : ℕ → ℕ) → first_outside (walk w) ≡ accepted → (t : Table) → Calm w t
unfolding walk table_steps
walk-calm w e = pixels-calm (pixel_steps w) e
