-- A calm table has no fault; in any other what the glance adds up is each pixel's sum.
use Rattle.std.proofs.Common.{sym}
use Rattle.util.specs.Words.{listed}
use Rattle.walk.proofs.Bound.{calm-offset}
use Rattle.walk.proofs.Glance.{rows-small, columns-small, offset-vouches}
use Rattle.walk.proofs.offset_refusal.Goals as goal

pub returns-then-calm_offset : goal.returns-then-calm_offset
returns-then-calm_offset c = sym (calm-offset (listed c.args.words.now) (c.calm_offset.ensures c.if-calm_offset.true))

pub invariant_of-glance : goal.invariant_of-glance
invariant_of-glance c =
    let n = c.shared_fitting-vouched in
    let rows = c.row_sums-rows in
    let columns = c.column_terms-columns in
    let power = c.scale_power-power in
    let w = listed c.args.words.now in
    record {
      power_small = power.ensures.upper_bound;
      rows_small = rows-small w 0x10 rows.result rows.ensures.by_index;
      columns_small = columns-small w 0x10 columns.result columns.ensures.by_index;
      vouches = offset-vouches w rows.result columns.result power.result n.result rows.ensures.by_index columns.ensures.by_index power.ensures.value n.ensures.upper_bound n.ensures.shared_fit;
    }
