-- A mark that is read as this one adds one to the count, and any other leaves it.
use Rattle.std.proofs.Common.{ℕ, ◌+◌, sym, ap, arith, ◌∙◌}
use borrow.Author.Tests.{eq-eqb, ne_eqb}
use Rattle.util.proofs.Lists.{count_none, count_yes, count_no, count-le}
use Rattle.gathering.specs.Inner.Marks.{marked_as}
use Rattle.gathering.proofs.count_marked.Goals as goal
use Rattle.gathering.proofs.count_marked.Goals.{then-read_mark-mark, else-read_mark-mark}

pub loop-stored-init : goal.loop-stored-init
loop-stored-init c = sym (count_none (marked_as c.args.mark c.args.marks.now))

pub overflow_add-n : goal.overflow_add-n
overflow_add-n c = record { fits = omega (arith, count-le c.loop-stored.stored-index (marked_as c.args.mark c.args.marks.now)) }

pub loop-stored-preserved : goal.loop-stored-preserved
loop-stored-preserved c =
    let q = marked_as c.args.mark c.args.marks.now in
    let w = c.loop-stored.stored-index in
    let was = c.loop-stored.invariant in
    let read = c.read_mark.ensures 0 in
    elim c.if-read_mark-mark.branch [
      | then-read_mark-mark t ↦ t.n-is ∙ ap (λ (n : ℕ). n + 1) was ∙ sym (count_yes w q (eq-eqb _ _ (sym read ∙ t.if-read_mark-mark.true)))
      | else-read_mark-mark t ↦ t.n-is ∙ was ∙ sym (count_no w q (ne_eqb _ _ (λ e. t.if-read_mark-mark.false (read ∙ e))))
    ]
