-- The numerators are small, and a negation is of the float.
use Rattle.std.proofs.Common.{[], ◌∷◌, ◌∙◌}
use mir.Syntax.{w16}
use lib.Ieee.{neg}
use Rattle.util.proofs.Kept.{called, held, times, plus, minus}
use Rattle.exact.specs.Fraction.{◌/2^◌, float}
use Rattle.record.specs.Fields.{interleave_a, interleave_b, interleave_c, interleave_six}
use Rattle.record.proofs.fields.interleave_correction_pixels.Goals as goal

pub returns : goal.returns
unfolding interleave_six interleave_a interleave_b interleave_c
returns c =
    -- a, which is A's numerator, and 4 d
    let a = called w16 c.signed_at-n.ensures.value c.signed_at-n.ensures.result_bound tt in
    let d = held w16 (times 4 (called w16 c.signed_at-d.ensures.value c.signed_at-d.ensures.result_bound tt)) tt in
    let ea = c.quotient-a.ensures ∙ (λ j. float (a.is j /2^ 3)) in
    let eb = c.quotient-b.ensures ∙ (λ j. float ((held w16 (minus d a) tt).is j /2^ 3)) in
    let ec = c.quotient-c.ensures ∙ (λ j. float ((held w16 (plus d a) tt).is j /2^ 3)) in
    λ i. neg (ea i) ∷ eb i ∷ neg (ec i) ∷ ea i ∷ neg (eb i) ∷ ec i ∷ []
