-- A line, where it is asked for.
use Rattle.std.proofs.Common.{◌≡◌, w32, to_z, of_z, rules}
use Rattle.wording.specs.Wording.{sum_line}
use Rattle.listing.proofs.Typing.{then, done}
use Rattle.wording.proofs.lines.put_sum.Goals as goal

pub returns : goal.returns
unfolding sum_line
returns c =
    let x = c.args.parts in
    let average : to_z w32 (of_z w32 x.average.term) ≡ x.average.term = search rules in
    let remainder : to_z w32 (of_z w32 x.remainder.term) ≡ x.remainder.term = search rules in
    let numerator : to_z w32 (of_z w32 x.numerator) ≡ x.numerator = search rules in
    rw c.if-not-given.false
    (then _ _ _ c.put_text-a.ensures
    (then _ _ _ (rw average at c.put_integer-b.ensures)
    (then _ _ _ (rw c.is_spread.ensures at c.put_shared_terms-c.ensures)
    (then _ _ _ (rw remainder at c.put_signed-d.ensures)
    (then _ _ _ c.put_text-e.ensures
    (then _ _ _ (rw numerator at c.put_integer-f.ensures)
    (then _ _ _ c.put_byte.ensures (done _))))))))
