-- The two numerators are below 2 ^ 24 in size, so that the machine keeps them.
use Rattle.std.proofs.Common.{◌+◌, [], ◌∷◌, pos, ◌+ℤ◌, ◌*ℤ◌, ◌∙◌, arith}
use mir.Syntax.{w16}
use Rattle.util.proofs.Whole.{back32}
use Rattle.util.proofs.Kept.{called, counted}
use Rattle.exact.specs.Dyadic.{dyadic}
use Rattle.record.specs.Fields.{alpha_cp_field}
use Rattle.record.proofs.fields.alpha_cp.Goals as goal

pub returns : goal.returns
unfolding alpha_cp_field
returns c =
    let k = c.scale-k.ensures in
    let n = c.unsigned_at-n.ensures in
    let first = counted w16 {n = 1024} n (omega arith) tt in
    let ratio = called w16 c.signed_at-r.ensures.value c.signed_at-r.ensures.result_bound tt in
    let second =
    back32 c.raised.result c.raised.type_inv
    ∙ c.raised.ensures.value
    ∙ (λ i. pos (n i) *ℤ (pos 128 +ℤ ratio.is i)) in
    λ i. (c.quotient.ensures ∙ (λ j. dyadic (first.is j) (k j + 27))) i
    ∷ (c.over_power.ensures ∙ (λ j. dyadic (second j) (k j + 27 + 7))) i
    ∷ []
