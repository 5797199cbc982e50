-- A calm table has no fault; in any other the terms decide.
use Rattle.std.proofs.Common.{sym, pos}
use lib.ListN.{replicate}
use Rattle.util.specs.Words.{listed}
use Rattle.walk.proofs.Bound.{calm-alpha}
use Rattle.walk.proofs.Glance.{zeros-small, alpha-vouches}
use Rattle.walk.proofs.alpha_refusal.Goals as goal

pub returns-then-calm_alpha : goal.returns-then-calm_alpha
returns-then-calm_alpha c = sym (calm-alpha (listed c.args.words.now) (c.calm_alpha.ensures c.if-calm_alpha.true))

pub invariant_of-glance : goal.invariant_of-glance
invariant_of-glance c =
    let n = c.shared_fitting-vouched in
    let power = c.scale_power-power in
    let w = listed c.args.words.now in
    record {
      power_small = power.ensures.upper_bound;
      rows_small = zeros-small 24 24;
      columns_small = zeros-small 64 64;
      vouches = alpha-vouches w (replicate 24 (pos 0)) (replicate 64 (pos 0)) power.result n.result power.ensures.value n.ensures.shared_fit;
    }
