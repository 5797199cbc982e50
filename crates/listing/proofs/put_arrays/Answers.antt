-- Five lines.
use Rattle.listing.proofs.Typing.{then, done}
use Rattle.listing.proofs.put_arrays.Goals as goal

pub returns : goal.returns
returns c = then _ _ _ c.put_line-a.ensures (then _ _ _ c.put_line-b.ensures (then _ _ _ c.put_line-c.ensures (then _ _ _ c.put_line-d.ensures (then _ _ _ c.put_line.ensures (done _)))))
