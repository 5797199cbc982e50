-- The test is the definition's.
use Rattle.std.proofs.Common.{lt-ltb, le-ltb}
use Rattle.listing.specs.Inner.Typing.{typed}
use Rattle.listing.proofs.put_byte.Goals as goal

pub returns-then-at-out : goal.returns-then-at-out
unfolding typed
returns-then-at-out c = rw (lt-ltb _ _ c.if-at-out.true)

pub returns-else-at-out : goal.returns-else-at-out
unfolding typed
returns-else-at-out c = rw (le-ltb _ _ c.if-at-out.false)
