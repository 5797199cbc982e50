-- Each turn takes the next row's steps off the front.
use Rattle.std.proofs.Common.{rules, ◌≡◌, ℕ, ◌+◌, ◌-◌, ◌*◌, ◌<◌, true, false, List, arith, refl, sym, ◌∙◌}
use Rattle.refusal.specs.Code.{accepted_by, or_else, Verdict}
use Rattle.refusal.proofs.Order.{or-refused, or-passed}
use Rattle.util.specs.Words.{listed}
use Rattle.steps.specs.Steps.{Step, steps_from, first_outside}
use Rattle.steps.proofs.Order.{steps-end, steps-part}
use Rattle.walk.specs.Walk.{pixel_steps, table_steps}
use Rattle.walk.proofs.rows.table_refusal.Goals as goal

-- where the walk stands after a row
turned : (f : ℕ → List Step) (k : ℕ) {all r : Verdict} → k < 24 → all ≡ first_outside (steps_from f (768 - 32 * k) (32 * k)) → r ≡ first_outside (steps_from f 32 (32 * k)) →
    all ≡ or_else r (first_outside (steps_from f (768 - 32 * (k + 1)) (32 * (k + 1))))
turned f k h e g =
    let a : 768 - 32 * k - 32 ≡ 768 - 32 * (k + 1) = omega arith in
    let b : 32 * k + 32 ≡ 32 * (k + 1) = omega arith in
    e ∙ (steps-part f 32 (768 - 32 * k) (32 * k) (omega arith) ∙ rw (a, b, sym g))

pub loop-r-init : goal.loop-r-init
unfolding table_steps
loop-r-init c = refl

pub returns-in_err-row_refusal : goal.returns-in_err-row_refusal
returns-in_err-row_refusal c =
    let e : accepted_by c.row_refusal.result ≡ false = search rules in
    let s : c.from_residual.result ≡ c.row_refusal.result = search rules in
    let g = c.args.glance.now in
    s ∙ sym (turned (pixel_steps (listed g.words.now) g.table) c.loop-r.r c.loop-r-test.true c.loop-r.invariant c.row_refusal.ensures ∙ or-refused c.row_refusal.result _ e)

pub loop-r-preserved : goal.loop-r-preserved
loop-r-preserved c =
    let e : accepted_by c.row_refusal.result ≡ true = search rules in
    let g = c.args.glance.now in
    turned (pixel_steps (listed g.words.now) g.table) c.loop-r.r c.loop-r-test.true c.loop-r.invariant c.row_refusal.ensures ∙ or-passed c.row_refusal.result _ e

pub returns : goal.returns
returns c = sym (c.loop-r.invariant ∙ steps-end _ _ _ (omega (arith, c.loop-r-test.false)))
