-- The float's line, or the name and `none`.
use Rattle.listing.specs.Listing.{spaced}
use Rattle.listing.proofs.Typing.{then}
use Rattle.listing.proofs.put_optional.Goals as goal

pub returns-in-None : goal.returns-in-None
unfolding spaced
returns-in-None c = rw c.in-None.is (then _ _ _ c.put_text-a.ensures c.put_text.ensures)
