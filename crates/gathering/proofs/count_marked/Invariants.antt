-- After some turns n counts the marks that they saw.
use Rattle.std.proofs.Common.{◌≡◌}
use Rattle.util.specs.Lists.{count}
use Rattle.gathering.specs.Inner.Marks.{marked_as}
use Rattle.gathering.proofs.count_marked.Given as goal

abbrev pub invariant-loop-stored : goal.invariant-loop-stored
invariant-loop-stored l = l.n ≡ count l.stored-index (marked_as l.mark l.marks)
