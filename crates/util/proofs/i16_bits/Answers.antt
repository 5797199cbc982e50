-- The bits that the machine holds are those of the definition.
use Rattle.std.proofs.Common.{refl, ◌∙◌}
use mir.Syntax.{w16}
use mir.Facts.{to_z-of_z}
use Rattle.util.proofs.Complement.{complement-of, complement-16}
use Rattle.util.proofs.i16_bits.Goals as goal

pub returns : goal.returns
returns c = rw (to_z-of_z {w = w16} c.ranges.x) at c.cast_unsigned.ensures ∙ (complement-of w16 0x1_0000 refl c.args.x ∙ complement-16 c.args.x)
