-- Two numbers and the dots between.
use Rattle.listing.proofs.Typing.{then, done}
use Rattle.wording.proofs.words.put_bits.Goals as goal

pub returns : goal.returns
returns c = then _ _ _ c.put_decimal-a.ensures (then _ _ _ c.put_text-b.ensures (then _ _ _ c.put_decimal.ensures (done _)))
