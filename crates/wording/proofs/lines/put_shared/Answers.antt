-- Three lines, as far as they are reached, where they are asked for.
use Rattle.std.proofs.Common.{◌≡◌, w32, to_z, of_z, rules}
use Rattle.wording.specs.Wording.{shared_lines}
use Rattle.listing.proofs.Typing.{then, done}
use Rattle.wording.proofs.lines.put_shared.Goals as goal

pub returns : goal.returns
unfolding shared_lines
returns c =
    let x = c.args.parts in
    let number : to_z w32 (of_z w32 x.after_column) ≡ x.after_column = search rules in
    let reach = c.reached_by-reached.ensures in
    rw c.if-not-given.false
    (then _ _ _ c.put_part-a.ensures
    (then _ _ _ (rw reach at c.put_column-b.ensures)
    (then _ _ _ (rw (number, reach) at c.put_after_column.ensures) (done _))))
