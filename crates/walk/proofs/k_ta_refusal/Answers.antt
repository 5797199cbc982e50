-- A calm table has no fault; in any other what the glance adds up is each pixel's sum.
use Rattle.std.proofs.Common.{sym}
use Rattle.util.specs.Words.{listed}
use Rattle.walk.proofs.Bound.{calm-kta}
use Rattle.walk.proofs.Glance.{zeros-small, kta-small, kta-vouches}
use Rattle.walk.proofs.k_ta_refusal.Goals as goal

pub returns-then-calm_k_ta : goal.returns-then-calm_k_ta
returns-then-calm_k_ta c = sym (calm-kta (listed c.args.words.now) (c.calm_k_ta.ensures c.if-calm_k_ta.true))

pub invariant_of-glance : goal.invariant_of-glance
invariant_of-glance c =
    let columns = c.k_ta_columns-columns in
    let power = c.scale_power-power in
    let w = listed c.args.words.now in
    record {
      power_small = power.ensures.upper_bound;
      rows_small = zeros-small 24 24;
      columns_small = kta-small w columns.result power.result columns.ensures.by_index power.ensures.value;
      vouches = kta-vouches w columns.result power.result columns.ensures.by_index power.ensures.value 24;
    }
