-- `up_power` makes the power, and the quotient by it is exact.
use Rattle.std.proofs.Common.{arith, ◌∙◌}
use mir.Syntax.{w32}
use mir.Facts.{to_z-of_z}
use Rattle.exact.proofs.Exact.{of-int-over}
use Rattle.exact.proofs.over_power.Goals as goal

pub returns : goal.returns
returns c =
    rw (to_z-of_z {w = w32} c.ranges.n, c.up_power.ensures) at c.over.ensures ∙ of-int-over c.args.n c.args.k c.requires.n_bound (omega arith)
