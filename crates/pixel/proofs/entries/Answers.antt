-- 16 bits hold the offset.
use Rattle.std.proofs.Common.{◌∙◌}
use mir.Facts.{to_z-of_z}
use mir.Syntax.{w16, w32}
use mir.Val.{SFits, to_z, of_z}
use Rattle.util.proofs.Whole.{fits_16}
use Rattle.pixel.proofs.entries.Goals as goal

pub overflow_cast-result : goal.overflow_cast-result
overflow_cast-result c = rw (to_z-of_z {w = w32} c.ranges.offset) (fits_16 c.requires.0)

pub returns : goal.returns
returns c =
    let small : SFits w16 (to_z w32 (of_z w32 c.args.offset)) = rw (to_z-of_z {w = w32} c.ranges.offset) (fits_16 c.requires.0) in
    λ i. record {
      offset = (to_z-of_z {w = w16} small ∙ to_z-of_z {w = w32} c.ranges.offset) i;
      alpha = (rw (to_z-of_z {w = w32} c.ranges.alpha, c.u16_from_bits.ensures) at c.over_power.ensures) i;
      k_ta = (rw (to_z-of_z {w = w32} c.ranges.k_ta, c.u16_from_bits-2.ensures) at c.over_power-2.ensures) i;
    }
