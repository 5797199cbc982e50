-- The explanation's own refusals come first, and past them there is room for it, and it stands at the front of the slice.
use Rattle.std.proofs.Common.{◌≡◌, ◌<◌, Ok, false, true, length, refl, sym, ap, arith, rules, ◌∙◌}
use Rattle.refusal.specs.Code.{Verdict, accepted, accepted_by, or_else, verdict_of}
use Rattle.refusal.proofs.Order.{or-refused}
use Rattle.explanation.specs.Explanation.{explain_refusal, explanation_of}
use Rattle.explanation.proofs.Promises.{own}
use Rattle.layout.specs.Sizes.{explanation_size}
use Rattle.layout.specs.ExplanationBytes.{explanation_bytes}
use Rattle.mofuleka.specs.Answers.{short_for}
use Rattle.mofuleka.proofs.Explained.{small-pixel}
use Rattle.mofuleka.proofs.Lent.{lent_written}
use Rattle.mofuleka.proofs.Single.{long-enough}
use Rattle.mofuleka.proofs.explanations.lay_explanation.Goals as goal
use Rattle.mofuleka.proofs.explanations.lay_explanation.Goals.{In_ok-explained}

pub returns-in_err-explained-clause-answer : goal.returns-in_err-explained-clause-answer
returns-in_err-explained-clause-answer c =
    let a = c.args in
    let r = c.from_residual.result in
    let e : verdict_of c.explain.result ≡ r = search rules in
    let no : accepted_by r ≡ false = search rules in
    let is : explain_refusal a.image.now a.table a.pixel ≡ r = sym (own a.image.now a.table a.pixel) ∙ (ap verdict_of (sym c.explain.ensures) ∙ e) in
    sym (ap (λ (v : Verdict). or_else v (short_for explanation_size (length a.out.now))) is ∙ or-refused r _ no)

-- where the library explains
module _ (c : In_ok-explained) where
  given : explanation_of c.args.image.now c.args.table c.args.pixel ≡ Ok c.in_ok-explained.explained
  given = search rules

  passed : explain_refusal c.args.image.now c.args.table c.args.pixel ≡ accepted
  passed = sym (own c.args.image.now c.args.table c.args.pixel) ∙ ap verdict_of given

  second : or_else (explain_refusal c.args.image.now c.args.table c.args.pixel) (short_for explanation_size (length c.args.out.now)) ≡ short_for explanation_size (length c.args.out.now)
  second = ap (λ (v : Verdict). or_else v (short_for explanation_size (length c.args.out.now))) passed

  small : c.in_ok-explained.explained.pixel < 65536
  small = omega (arith, small-pixel c.args.image.now c.args.table c.args.pixel c.in_ok-explained.explained given)

pub returns-in_err-room_for-clause-answer : goal.returns-in_err-room_for-clause-answer
returns-in_err-room_for-clause-answer c =
    let d = (goal.at.returns-in_err-room_for-clause-answer c).In_ok-explained in
    let e : c.from_residual-in_err-room_for.result ≡ c.room_for.result = search rules in
    e ∙ (c.room_for.ensures ∙ sym (second d))

pub put_explanation-requires : goal.put_explanation-requires
put_explanation-requires c =
    let d = (goal.at.put_explanation-requires c).In_ok-explained in
    let ok : accepted_by (short_for explanation_size (length c.args.out.now)) ≡ true = search rules in
    (long-enough explanation_size (length c.args.out.now) ok, small d)

pub returns-clause-answer : goal.returns-clause-answer
returns-clause-answer c =
    let d = (goal.at.returns-clause-answer c).In_ok-explained in
    let ok : short_for explanation_size (length c.args.out.now) ≡ accepted = search rules in
    sym (second d ∙ ok)

pub returns-clause-out : goal.returns-clause-out
returns-clause-out c =
    let d = (goal.at.returns-clause-out c).In_ok-explained in
    let ok : accepted_by (short_for explanation_size (length c.args.out.now)) ≡ true = search rules in
    let put = c.put_explanation.ensures in
    rw (given d) (lent_written true (explanation_bytes c.in_ok-explained.explained) c.args.out.now refl put.e_len (long-enough explanation_size (length c.args.out.now) ok) put.out_after)
