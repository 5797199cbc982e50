-- Two terms, where they are asked for.
use Rattle.std.proofs.Common.{◌≡◌, w32, to_z, of_z, rules}
use Rattle.listing.proofs.Typing.{then}
use Rattle.wording.proofs.lines.put_shared_terms.Goals as goal

pub returns-then-given : goal.returns-then-given
returns-then-given c =
    let x = c.args.parts in
    let row : to_z w32 (of_z w32 x.row.term) ≡ x.row.term = search rules in
    let column : to_z w32 (of_z w32 x.column.term) ≡ x.column.term = search rules in
    rw c.if-given.true (then _ _ _ (rw row at c.put_signed-a.ensures) (rw column at c.put_signed.ensures))
