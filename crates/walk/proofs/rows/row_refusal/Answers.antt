-- Where a glance finds nothing, no pixel of the row has a fault; else they are gone through.
use Rattle.std.proofs.Common.{◌*◌, sym}
use Rattle.util.specs.Words.{listed}
use Rattle.steps.proofs.Meaning.{pixels-none}
use Rattle.walk.specs.Walk.{pixel_steps}
use Rattle.walk.proofs.rows.row_refusal.Goals as goal

pub returns-then-not-leaves : goal.returns-then-not-leaves
returns-then-not-leaves c =
    let s = c.args.glance.now in
    sym (pixels-none (pixel_steps (listed s.words.now) s.table) 32 (32 * c.args.r)
    (λ k h. let seen = c.leaves.ensures c.if-not-leaves.true k h in s.vouches c.args.r k c.if-r-glance.true h seen.0 seen.1))
