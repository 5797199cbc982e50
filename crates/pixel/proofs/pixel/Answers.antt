-- Past the tests the needed words of the image are read, and each of them counts.
use Rattle.std.proofs.Common.{◌≡◌, List, ℕ, rules, sym, ap, ◌∙◌}
use Rattle.refusal.specs.Code.{Verdict, accepted}
use Rattle.util.specs.Words.{word_at}
use Rattle.eeprom.specs.Image.{image_words}
use Rattle.pixel.specs.Needed.{needed_by}
use Rattle.pixel.specs.Answer.{answered}
use Rattle.pixel.specs.Inner.From.{answer_from}
use Rattle.pixel.proofs.Chosen.{chosen}
use Rattle.pixel.proofs.Sameness.{from-needed, needed-words}
use Rattle.pixel.proofs.Exactly.{Asked, none_first, past-tests}
use Rattle.pixel.proofs.pixel.Goals as goal

pub returns-in_err-asked : goal.returns-in_err-asked
unfolding answered
returns-in_err-asked c = search rules

pub returns : goal.returns
unfolding needed_by
returns c =
    let p = c.args.p in
    let image = c.args.image.now in
    let w = image_words image in
    let passed : c.asked.result ≡ accepted = search rules in
    let h : Asked image p = (none_first image p).0 (sym c.asked.ensures ∙ passed) in
    let words = rw c.needed.ensures.value at c.words_at-words.ensures ∙ (chosen (word_at image) (needed_by p) ∙ sym (needed-words image p h.pixel)) in
    c.pixel_from.ensures ∙ (ap (λ (l : List ℕ). answer_from l p) words ∙ from-needed w p) ∙ ap (λ (x : Verdict). answered x w p) (sym (past-tests image p h.whole h.pixel))
