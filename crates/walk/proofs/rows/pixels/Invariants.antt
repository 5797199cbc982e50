-- The first fault of the row is the first from column c on.
use Rattle.std.proofs.Common.{◌≡◌, ◌+◌, ◌-◌, ◌*◌}
use Rattle.util.specs.Words.{listed}
use Rattle.steps.specs.Steps.{steps_from, first_outside}
use Rattle.walk.specs.Walk.{pixel_steps}
use Rattle.walk.proofs.rows.pixels.Given as goal

abbrev pub invariant-loop-c : goal.invariant-loop-c
invariant-loop-c l =
    first_outside (steps_from (pixel_steps (listed l.words) l.table) 32 (32 * l.r)) ≡ first_outside (steps_from (pixel_steps (listed l.words) l.table) (32 - l.c) (32 * l.r + l.c))
