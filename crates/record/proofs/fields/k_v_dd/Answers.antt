-- 32 times a byte fits 16 bits.
use mir.Syntax.{w16}
use Rattle.util.proofs.Kept.{called, held, times}
use Rattle.record.specs.Fields.{k_v_dd_field}
use Rattle.record.proofs.fields.k_v_dd.Goals as goal

pub returns : goal.returns
unfolding k_v_dd_field
returns c = (held w16 (times 32 (called w16 c.signed_at.ensures.value c.signed_at.ensures.result_bound tt)) tt).is
