-- Each turn takes the next pixel's steps off the front.
use Rattle.std.proofs.Common.{rules, ◌≡◌, ℕ, ◌+◌, ◌-◌, ◌*◌, ◌<◌, true, false, List, arith, sym, ◌∙◌}
use Rattle.refusal.specs.Code.{accepted_by, or_else, Verdict}
use Rattle.refusal.proofs.Order.{or-refused, or-passed}
use Rattle.util.specs.Words.{listed}
use Rattle.steps.specs.Steps.{Step, steps_from, first_outside}
use Rattle.steps.proofs.Order.{steps-end, steps-turn}
use Rattle.walk.specs.Walk.{pixel_steps}
use Rattle.walk.proofs.rows.pixels.Goals as goal

-- where the walk stands after a pixel
turned : (f : ℕ → List Step) (p k : ℕ) {all r : Verdict} → k < 32 → all ≡ first_outside (steps_from f (32 - k) (p + k)) → r ≡ first_outside (f (p + k)) →
    all ≡ or_else r (first_outside (steps_from f (32 - (k + 1)) (p + (k + 1))))
turned f p k h e g =
    let a : 32 - k - 1 ≡ 32 - (k + 1) = omega arith in
    let b : p + k + 1 ≡ p + (k + 1) = omega arith in
    e ∙ (steps-turn f (32 - k) (p + k) (omega arith) ∙ rw (a, b, sym g))

pub returns-in_err-pixel : goal.returns-in_err-pixel
returns-in_err-pixel c =
    let e : accepted_by c.pixel.result ≡ false = search rules in
    let s : c.from_residual.result ≡ c.pixel.result = search rules in
    s ∙ sym (turned (pixel_steps (listed c.args.words.now) c.args.table) (32 * c.args.r) c.loop-c.c c.loop-c-test.true c.loop-c.invariant c.pixel.ensures ∙ or-refused c.pixel.result _ e)

pub loop-c-preserved : goal.loop-c-preserved
loop-c-preserved c =
    let e : accepted_by c.pixel.result ≡ true = search rules in
    (turned (pixel_steps (listed c.args.words.now) c.args.table) (32 * c.args.r) c.loop-c.c c.loop-c-test.true c.loop-c.invariant c.pixel.ensures ∙ or-passed c.pixel.result _ e)

pub returns : goal.returns
returns c = sym (c.loop-c.invariant ∙ steps-end _ _ _ (omega (arith, c.loop-c-test.false)))
