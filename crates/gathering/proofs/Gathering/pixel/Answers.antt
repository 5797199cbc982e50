-- The cells of the words that the pixel needs are answered for.
use Rattle.std.proofs.Common.{◌≡◌, true, rules, sym, ap, ◌∙◌}
use Rattle.util.specs.Words.{listed}
use Rattle.util.specs.Lists.{tab}
use Rattle.util.proofs.Told.{from_fn-told}
use Rattle.refusal.specs.Code.{accepted_by, accepted, Verdict}
use Rattle.refusal.proofs.Order.{or-passed}
use Rattle.pixel.specs.Needed.{needed_by}
use Rattle.pixel.specs.Answer.{past_refusal, answered}
use Rattle.pixel.proofs.Exactly.{within}
use Rattle.gathering.specs.Decoding.{gathered_words}
use Rattle.gathering.specs.Inner.Chosen.{cells_answer}
use Rattle.gathering.proofs.Chosen.{stored-cells}
use Rattle.gathering.proofs.Gathering.pixel.Goals as goal

pub returns-in_err-past_the_end : goal.returns-in_err-past_the_end
unfolding answered
returns-in_err-past_the_end c = search rules

pub returns : goal.returns
returns c =
    let g = c.args.self.now in
    let p = c.args.p in
    let went : c.past_the_end.result ≡ accepted = search rules in
    let passed : accepted_by (past_refusal p) ≡ true = ap accepted_by (sym c.past_the_end.ensures ∙ went) in
    let places : c.needed-words.result ≡ needed_by p = c.needed-words.ensures.value in
    let values : c.from_fn-values.result ≡ tab (λ k. listed g.values (listed c.needed-words.result k)) 11 =
    from_fn-told _ _ _ c.from_fn-values.result 11 (λ j y q l called. (search rules, search rules)) c.from_fn-values.ensures.items in
    let marks : c.from_fn-marks.result ≡ tab (λ k. listed g.marks (listed c.needed-words.result k)) 11 =
    from_fn-told _ _ _ c.from_fn-marks.result 11 (λ j y q l called. (search rules, search rules)) c.from_fn-marks.ensures.items in
    c.pixel_of_cells.ensures
    ∙ ((λ i. cells_answer ((rw places at values) i) ((rw places at marks) i) p)
    ∙ (stored-cells g p (within p passed) ∙ ap (λ (r : Verdict). answered r (gathered_words g) p) (sym (or-passed (past_refusal p) _ passed))))
