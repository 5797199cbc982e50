-- What 16 bits hold is the same in 16 bits.
use mir.Syntax.{w32}
use mir.Facts.{to_z-of_z}
use Rattle.util.proofs.Whole.{fits_16}
use Rattle.tables.proofs.narrow.Goals as goal

pub overflow_cast-result : goal.overflow_cast-result
overflow_cast-result c = rw (to_z-of_z {w = w32} c.ranges.x) (fits_16 c.requires)

pub returns : goal.returns
returns c = rw (to_z-of_z {w = w32} c.ranges.x) (to_z-of_z (fits_16 c.requires))
