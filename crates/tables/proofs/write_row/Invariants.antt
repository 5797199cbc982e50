-- The first c entries are made.
use Rattle.tables.specs.Inner.Sums.{sum_of, Made}
use Rattle.tables.proofs.write_row.Given as goal

abbrev pub invariant-loop-c : goal.invariant-loop-c
invariant-loop-c g l = Made (goal.F-post g l.entry) (sum_of l.sums l.r) l.c l.initial.out l.out
