-- The library is lent the input's image, and its answer is laid out.
use Rattle.std.proofs.Common.{ap, ◌∙◌}
use Rattle.page.specs.Page.{image_in}
use Rattle.mofuleka.specs.Answers.{refusal_word}
use Rattle.mofuleka.proofs.Words.{zero-accepted}
use Rattle.mofuleka.proofs.explanations.mofuleka_explain.Goals as goal

pub returns-clause-answer : goal.returns-clause-answer
unfolding image_in
returns-clause-answer c = c.refusal_word.ensures ∙ ap refusal_word (rw c.image_length-count.ensures.value at c.lay_explanation.ensures.answer)

pub returns-clause-out : goal.returns-clause-out
unfolding image_in
returns-clause-out c = rw (c.refusal_word.ensures, zero-accepted c.lay_explanation.result) (rw c.image_length-count.ensures.value at c.lay_explanation.ensures.out)
