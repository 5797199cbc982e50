-- The first fault of the table is the first from row r on.
use Rattle.std.proofs.Common.{◌≡◌, ◌-◌, ◌*◌}
use Rattle.util.specs.Words.{listed}
use Rattle.steps.specs.Steps.{steps_from, first_outside}
use Rattle.walk.specs.Walk.{pixel_steps, table_steps}
use Rattle.walk.proofs.rows.table_refusal.Given as goal

abbrev pub invariant-loop-r : goal.invariant-loop-r
invariant-loop-r l =
    let w = listed l.glance.words.now in
    let t = l.glance.table in
    first_outside (table_steps w t) ≡ first_outside (steps_from (pixel_steps w t) (768 - 32 * l.r) (32 * l.r))
