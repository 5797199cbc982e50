-- After k turns the state is that of the block's first k words.
use Rattle.std.proofs.Common.{◌≡◌}
use Rattle.gathering.specs.Carried.{carried_at}
use Rattle.gathering.specs.State.{state_from}
use Rattle.gathering.proofs.Gathering.of_block.Given as goal

abbrev pub invariant-loop-k : goal.invariant-loop-k
invariant-loop-k l = l.g ≡ state_from (carried_at l.body l.block.first l.k)
