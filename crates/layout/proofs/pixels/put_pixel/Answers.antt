-- Each number starts where the one before it ends.
use Rattle.std.proofs.Common.{◌≡◌, refl, rules}
use mir.Syntax.{w16}
use mir.Val.{to_z, of_z}
use Rattle.layout.specs.Numbers.{short_bytes, float_bytes}
use Rattle.layout.specs.PixelBytes.{pixel_bytes}
use Rattle.layout.proofs.Stored.{first, next, short-long, float-long}
use Rattle.layout.proofs.pixels.put_pixel.Goals as goal

pub returns : goal.returns
unfolding pixel_bytes
returns c =
    let s = c.args in
    let held : to_z w16 (of_z w16 s.offset) ≡ s.offset = search rules in
    let w1 = first s.out.now 0 (short_bytes s.offset) (rw held at c.put.ensures) (short-long s.offset) in
    let w2 = next w1 (float_bytes s.alpha) c.put-2.ensures (float-long s.alpha) refl in
    let w3 = next w2 (float_bytes s.k_ta) c.put-3.ensures (float-long s.k_ta) refl in
    record { out_after = w3.is; k_ta_len = w3.long }
