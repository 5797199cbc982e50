-- The decoder's refusal, where there is one, then the table and the pixel.
use Rattle.wording.specs.Wording.{opening}
use Rattle.listing.proofs.Typing.{then, done}
use Rattle.wording.proofs.lines.put_opening.Goals as goal

pub returns : goal.returns
unfolding opening
returns c =
    then _ _ _ c.put_found-a.ensures
    (then _ _ _ c.put_text-b.ensures
    (then _ _ _ c.put_table_name-c.ensures
    (then _ _ _ c.put_byte-d.ensures
    (then _ _ _ c.put_pixel_line.ensures (done _)))))
