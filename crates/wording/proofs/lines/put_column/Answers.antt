-- Two lines, where they are asked for.
use Rattle.std.proofs.Common.{◌≡◌, w32, to_z, of_z, rules}
use Rattle.listing.proofs.Typing.{then}
use Rattle.wording.proofs.lines.put_column.Goals as goal

pub returns-then-given : goal.returns-then-given
returns-then-given c =
    let x = c.args.parts in
    let after : to_z w32 (of_z w32 x.after_row) ≡ x.after_row = search rules in
    rw c.if-given.true (then _ _ _ (rw after at c.put_number_line-a.ensures) c.put_part.ensures)
