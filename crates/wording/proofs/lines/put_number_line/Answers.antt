-- The name, the number and the line's end.
use Rattle.std.proofs.Common.{w32, to_z-of_z}
use Rattle.listing.proofs.Typing.{then, done}
use Rattle.wording.proofs.lines.put_number_line.Goals as goal

pub returns : goal.returns
returns c =
    then _ _ _ c.put_text-a.ensures
    (then _ _ _ (rw (to_z-of_z {w = w32} c.ranges.z) at c.put_integer-b.ensures)
    (then _ _ _ c.put_byte.ensures (done _)))
