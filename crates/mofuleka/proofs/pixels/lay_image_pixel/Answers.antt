-- Past the tests for the image and the pixel the pixel's own answer is laid out, in which they are made once more.
use Rattle.std.proofs.Common.{◌≡◌, length, rules, sym, ap, ◌∙◌}
use Rattle.refusal.specs.Code.{Verdict, accepted, or_else}
use Rattle.eeprom.specs.Image.{image_words}
use Rattle.pixel.specs.Answer.{tests_of, pixel_fault, pixel_refusal}
use Rattle.layout.specs.Sizes.{pixel_size}
use Rattle.mofuleka.specs.Answers.{short_for}
use Rattle.refusal.proofs.Order.{asked-again}
use Rattle.mofuleka.proofs.Single.{laid}
use Rattle.mofuleka.proofs.pixels.lay_image_pixel.Goals as goal

pub returns : goal.returns
returns c =
    let a = c.args in
    let image = a.image.now in
    let short = short_for pixel_size (length a.out.now) in
    let fault = pixel_fault (image_words image) a.p in
    let passed : tests_of (length image) a.p ≡ accepted = search rules in
    let e = c.lay_pixel.ensures in
    let both = laid (pixel_refusal image a.p) (image_words image) a.p (length a.out.now) a.out.now c.pixel.ensures e.answer e.out in
    record {
      answer = both.0 ∙ (sym (ap (λ (t : Verdict). or_else t (or_else short (pixel_refusal image a.p))) passed) ∙ asked-again (tests_of (length image) a.p) short fault);
      out = both.1;
    }
