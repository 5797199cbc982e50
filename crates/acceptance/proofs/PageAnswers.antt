-- The public functions of `page` have no second answer, and ask for nothing: each contract is an equation for what is answered.
-- Assumes nothing.
use mathlib.Core.Path.{sym, ◌∙◌}
use Rattle.acceptance.specs.Determined.{EntryPoint}
use Rattle.page.proofs.image_length.Kinds as ImageLengthK
use Rattle.page.proofs.image_length.Reads as ImageLength

pub one-image-length : EntryPoint ImageLengthK.ps ImageLengthK.r ImageLength.Asked ImageLength.Learnt
one-image-length = (λ _ _. tt, λ _ _ _ _ p q i. record { result = (p.0 ∙ sym q.0) i; lent = (tt, tt) })
