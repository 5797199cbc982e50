-- The high byte counts 256 times.
use Rattle.layout.specs.Numbers.{two_at}
use Rattle.layout.proofs.numbers.U16Readable.get.Goals as goal

pub returns : goal.returns
unfolding two_at
returns c = c.from_be_bytes.ensures
