-- The bits that the machine holds are those of the definition.
use Rattle.std.proofs.Common.{refl, ◌∙◌}
use mir.Syntax.{w32}
use mir.Facts.{to_z-of_z}
use Rattle.util.proofs.Complement.{complement-of}
use Rattle.util.proofs.i32_bits.Goals as goal

pub returns : goal.returns
returns c = rw (to_z-of_z {w = w32} c.ranges.x) at c.cast_unsigned.ensures ∙ complement-of w32 0x1_0000_0000 refl c.args.x
