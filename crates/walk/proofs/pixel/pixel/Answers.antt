-- Each table has its own terms.
use Rattle.std.proofs.Common.{ap, ◌∙◌}
use Rattle.util.specs.Words.{listed}
use Rattle.steps.specs.Steps.{first_outside}
use Rattle.walk.proofs.Single.{steps-are}
use Rattle.walk.proofs.pixel.pixel.Goals as goal

pub returns-in-Offset : goal.returns-in-Offset
returns-in-Offset c =
    let a = c.args in
    let t = c.in-Offset.is in
    rw (c.terms_at.ensures, t) at c.fault_of.ensures ∙ rw t (ap first_outside (steps-are (listed a.words.now) _ a.p))

pub returns-in-Alpha : goal.returns-in-Alpha
returns-in-Alpha c =
    let a = c.args in
    let t = c.in-Alpha.is in
    rw (c.terms_at-in-Alpha.ensures, t) at c.fault_of-in-Alpha.ensures ∙ rw t (ap first_outside (steps-are (listed a.words.now) _ a.p))

pub returns-in-Kta : goal.returns-in-Kta
returns-in-Kta c =
    let a = c.args in
    let t = c.in-Kta.is in
    rw (c.k_ta_terms_at.ensures, t) at c.fault_of-in-Kta.ensures ∙ rw t (ap first_outside (steps-are (listed a.words.now) _ a.p))
