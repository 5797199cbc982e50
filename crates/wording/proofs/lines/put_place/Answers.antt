-- Three names, each before its number.
use Rattle.wording.specs.Wording.{place_text}
use Rattle.listing.proofs.Typing.{then, done}
use Rattle.wording.proofs.lines.put_place.Goals as goal

pub returns : goal.returns
unfolding place_text
returns c =
    then _ _ _ c.put_text-a.ensures
    (then _ _ _ c.put_text-b.ensures
    (then _ _ _ c.put_address-c.ensures
    (then _ _ _ c.put_text-d.ensures
    (then _ _ _ c.put_bits-e.ensures
    (then _ _ _ c.put_text-f.ensures
    (then _ _ _ c.put_decimal.ensures (done _)))))))
