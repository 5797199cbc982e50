-- The word, three numbers and the line's end.
use Rattle.listing.specs.Listing.{spaced}
use Rattle.listing.proofs.Typing.{then, done}
use Rattle.listing.proofs.put_refused.Goals as goal

pub returns : goal.returns
unfolding spaced
returns c =
    let values = then _ _ _ c.put_decimal-b.ensures (then _ _ _ c.put_byte-d.ensures (then _ _ _ c.put_decimal-e.ensures (then _ _ _ c.put_byte-f.ensures (then _ _ _ c.put_decimal-g.ensures (done _))))) in
    then _ _ _ c.put_text-a.ensures (then _ _ _ values c.put_byte.ensures)
