-- The first place that is read as this mark is the lowest, and past the last there is none.
use Rattle.std.proofs.Common.{sym, length, arith, ◌∙◌}
use borrow.Author.Tests.{eq-eqb}
use Rattle.util.proofs.Lists.{lowest-at, lowest-none}
use Rattle.gathering.specs.Inner.Marks.{marked_as}
use Rattle.gathering.proofs.lowest_marked.Goals as goal

pub returns-then-read_mark-mark : goal.returns-then-read_mark-mark
returns-then-read_mark-mark c =
    let marks = c.args.marks.now in
    sym (lowest-at (length marks) c.loop-w.w (marked_as c.args.mark marks) (omega arith) (eq-eqb _ _ (sym (c.read_mark.ensures 0) ∙ c.if-read_mark-mark.true)) c.loop-w.invariant.1)

pub returns : goal.returns
returns c =
    let marks = c.args.marks.now in
    sym (lowest-none (length marks) (marked_as c.args.mark marks) (λ k l. c.loop-w.invariant.1 k (omega arith)))
