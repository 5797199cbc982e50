-- Three names, each before its number.
use Rattle.wording.specs.Wording.{pixel_line}
use Rattle.listing.proofs.Typing.{then, done}
use Rattle.wording.proofs.lines.put_pixel_line.Goals as goal

pub returns : goal.returns
unfolding pixel_line
returns c =
    then _ _ _ c.put_text-a.ensures
    (then _ _ _ c.put_decimal-b.ensures
    (then _ _ _ c.put_text-c.ensures
    (then _ _ _ c.put_decimal-d.ensures
    (then _ _ _ c.put_text-e.ensures
    (then _ _ _ c.put_decimal-f.ensures
    (then _ _ _ c.put_byte.ensures (done _)))))))
