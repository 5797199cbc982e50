-- The quotient by what `fraction` ensures.
use Rattle.std.proofs.Common.{sym}
use Rattle.record.specs.Fields.{k_ta_cp_field}
use Rattle.record.proofs.fields.k_ta_cp.Goals as goal

pub returns : goal.returns
unfolding k_ta_cp_field
returns c = rw (sym c.scale-k.ensures) c.fraction.ensures
