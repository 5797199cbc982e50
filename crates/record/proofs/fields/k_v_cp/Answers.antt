-- The quotient by what `fraction` ensures.
use Rattle.std.proofs.Common.{sym}
use Rattle.record.specs.Fields.{k_v_cp_field}
use Rattle.record.proofs.fields.k_v_cp.Goals as goal

pub returns : goal.returns
unfolding k_v_cp_field
returns c = rw (sym c.scale.ensures) c.fraction.ensures
