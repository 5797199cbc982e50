-- Its place, then three names, each before its number.
use Rattle.std.proofs.Common.{◌≡◌, w16, w32, to_z, of_z, rules}
use Rattle.wording.specs.Wording.{part_line}
use Rattle.listing.proofs.Typing.{then, done}
use Rattle.wording.proofs.lines.put_part.Goals as goal

pub returns : goal.returns
unfolding part_line
returns c =
    let x = c.args.part in
    let value : to_z w16 (of_z w16 x.value) ≡ x.value = search rules in
    let term : to_z w32 (of_z w32 x.term) ≡ x.term = search rules in
    then _ _ _ c.put_place-a.ensures
    (then _ _ _ c.put_text-b.ensures
    (then _ _ _ (rw value at c.put_whole-c.ensures)
    (then _ _ _ c.put_text-d.ensures
    (then _ _ _ c.put_decimal-e.ensures
    (then _ _ _ c.put_text-f.ensures
    (then _ _ _ (rw term at c.put_integer-g.ensures)
    (then _ _ _ c.put_byte.ensures (done _))))))))
