-- Where there is a pixel and room for it, its numbers stand at the front of the slice.
use Rattle.std.proofs.Common.{◌≡◌, Ok, true, length, refl, rules}
use mir.Syntax.{w16}
use mir.Val.{to_z, of_z}
use Rattle.refusal.specs.Code.{accepted_by}
use Rattle.layout.specs.Sizes.{pixel_size}
use Rattle.mofuleka.specs.Answers.{short_for}
use Rattle.mofuleka.specs.Pixels.{numbers}
use Rattle.mofuleka.proofs.Lent.{lent_written}
use Rattle.mofuleka.proofs.Single.{long-enough}
use Rattle.mofuleka.proofs.pixels.lay_pixel.Goals as goal

pub returns-clause-out : goal.returns-clause-out
returns-clause-out c =
    let s = c.args in
    let x = c.in_ok-laid.laid in
    let held : to_z w16 (of_z w16 x.offset) ≡ x.offset = search rules in
    let ok : accepted_by (short_for pixel_size (length s.out.now)) ≡ true = search rules in
    let put = c.put_pixel.ensures in
    let is : s.found ≡ Ok x = search rules in
    rw is (lent_written true (numbers x) s.out.now refl (rw held at put.k_ta_len) (long-enough pixel_size (length s.out.now) ok) (rw held at put.out_after))
