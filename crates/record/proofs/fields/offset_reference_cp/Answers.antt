-- The sum fits 16 bits.
use mir.Syntax.{w16}
use Rattle.util.proofs.Kept.{called, held, plus}
use Rattle.record.specs.Fields.{offset_reference_cp_field}
use Rattle.record.proofs.fields.offset_reference_cp.Goals as goal

pub returns : goal.returns
unfolding offset_reference_cp_field
returns c =
    let m = called w16 c.signed_at-m.ensures.value c.signed_at-m.ensures.result_bound tt in
    let d = called w16 c.signed_at-d.ensures.value c.signed_at-d.ensures.result_bound tt in
    rw ((held w16 (plus m d) tt).is, m.is)
