-- The smallest it can be is -16384.
use Rattle.std.proofs.Common.{arith}
use mir.Syntax.{w16}
use Rattle.util.proofs.Kept.{counted, number, held, times, minus}
use Rattle.record.specs.Fields.{v_dd_25_field}
use Rattle.record.proofs.fields.v_dd_25.Goals as goal

pub returns : goal.returns
unfolding v_dd_25_field
returns c =
    let byte = counted w16 {n = 256} c.unsigned_at.ensures (omega arith) tt in
    (held w16 (minus (held w16 (times 32 (held w16 (minus byte (number 256)) tt)) tt) (number 8192)) tt).is
