-- A fresh state has the history of no block.
use Rattle.std.proofs.Common.{[]}
use Rattle.orders.proofs.alone.Goals as goal

pub returns : goal.returns
returns c = c.after.ensures [] c.fresh.ensures.state_of
