-- A line, where it is asked for.
use Rattle.std.proofs.Common.{w32, to_z-of_z}
use Rattle.wording.proofs.lines.put_after_column.Goals as goal

pub returns-then-given : goal.returns-then-given
returns-then-given c = rw c.if-given.true (rw (to_z-of_z {w = w32} c.ranges.z) at c.put_number_line.ensures)
