-- The entries of the first r rows are made.
use Rattle.std.proofs.Common.{◌*◌}
use Rattle.tables.specs.Inner.Sums.{pixel_sum, Made}
use Rattle.tables.proofs.write_rows.Given as goal

abbrev pub invariant-loop-r : goal.invariant-loop-r
invariant-loop-r g l = Made (goal.F-post g l.entry) (pixel_sum l.sums) (32 * l.r) l.initial.out l.out
