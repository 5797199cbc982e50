-- No place that the loop has passed is marked so.
use Rattle.std.proofs.Common.{◌≡◌, ℕ, ◌-◌, ◌<◌, ◌≤◌, false, length}
use Rattle.gathering.specs.Inner.Marks.{marked_as}
use Rattle.gathering.proofs.lowest_marked.Given as goal

abbrev pub invariant-loop-w : goal.invariant-loop-w
invariant-loop-w l = (l.w ≤ length l.marks) × ((k : ℕ) → k < l.w → marked_as l.mark l.marks k ≡ false)

abbrev pub decreases-loop-w : goal.decreases-loop-w
decreases-loop-w l = length l.marks - l.w
