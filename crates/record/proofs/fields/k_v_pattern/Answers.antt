-- Each entry by what `fraction` ensures.
use Rattle.std.proofs.Common.{[], ◌∷◌, sym}
use Rattle.record.specs.Fields.{k_v_pattern_field}
use Rattle.record.proofs.fields.k_v_pattern.Goals as goal

pub returns : goal.returns
unfolding k_v_pattern_field
returns c = rw (sym c.scale-k.ensures) (λ i. c.fraction.ensures i ∷ c.fraction-2.ensures i ∷ c.fraction-3.ensures i ∷ c.fraction-4.ensures i ∷ [])
