-- After w turns the first w words say what the two states say together.
use Rattle.std.proofs.Common.{◌≡◌}
use Rattle.gathering.specs.Cells.{joined}
use Rattle.gathering.specs.State.{cell_at}
use Rattle.gathering.proofs.State.{partly}
use Rattle.gathering.proofs.Gathering.merge.Given as goal

abbrev pub invariant-loop-w : goal.invariant-loop-w
invariant-loop-w l = l.g ≡ partly l.w (λ w. joined (cell_at l.fn.self w) (cell_at l.other w)) l.fn.self
