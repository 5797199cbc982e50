-- Past the tests for the pixel and the gathering the pixel's own answer is laid out.
use Rattle.std.proofs.Common.{◌≡◌, length, rules, sym, ◌∙◌}
use Rattle.refusal.specs.Code.{accepted, or_else}
use Rattle.pixel.specs.Answer.{past_refusal}
use Rattle.layout.specs.Sizes.{pixel_size}
use Rattle.mofuleka.specs.Answers.{short_for}
use Rattle.mofuleka.specs.Gatherings.{stored_words, short_gathering}
use Rattle.mofuleka.specs.Pixels.{stored_fault}
use Rattle.mofuleka.proofs.Single.{laid}
use Rattle.mofuleka.proofs.pixels.lay_stored_pixel.Goals as goal

pub returns : goal.returns
returns c =
    let a = c.args in
    let s = a.gathering.now in
    let later = or_else (short_for pixel_size (length a.out.now)) (stored_fault s a.p) in
    let first : past_refusal a.p ≡ accepted = search rules in
    let second : short_gathering s ≡ accepted = search rules in
    let e = c.lay_pixel.ensures in
    let both = laid (stored_fault s a.p) (stored_words s) a.p (length a.out.now) a.out.now c.stored_pixel.ensures e.answer e.out in
    record { answer = both.0 ∙ sym (λ i. or_else (or_else (first i) (second i)) later); out = both.1 }
