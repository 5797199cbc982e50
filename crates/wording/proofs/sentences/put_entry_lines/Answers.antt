-- Three names, each before its number, and the line's end.
use Rattle.std.proofs.Common.{◌≡◌, w32, to_z, of_z, rules}
use Rattle.wording.specs.Wording.{entry_lines}
use Rattle.listing.proofs.Typing.{then, done}
use Rattle.wording.proofs.sentences.put_entry_lines.Goals as goal

pub returns : goal.returns
unfolding entry_lines
returns c =
    let x = c.args.e.parts in
    let numerator : to_z w32 (of_z w32 x.numerator) ≡ x.numerator = search rules in
    then _ _ _ c.put_text-a.ensures
    (then _ _ _ (rw numerator at c.put_integer-b.ensures)
    (then _ _ _ c.put_text-c.ensures
    (then _ _ _ c.put_decimal-d.ensures
    (then _ _ _ c.put_text-f.ensures
    (then _ _ _ c.put_entry-g.ensures
    (then _ _ _ c.put_byte.ensures (done _)))))))
