-- The sum, where its fields stand, and by how much it is outside.
use Rattle.std.proofs.Common.{◌≡◌, w32, to_z, of_z, rules}
use Rattle.wording.specs.Wording.{sum_sentence}
use Rattle.listing.proofs.Typing.{then, done}
use Rattle.wording.proofs.sentences.put_sum_sentence.Goals as goal

pub returns : goal.returns
unfolding sum_sentence
returns c =
    let x = c.args.parts in
    let numerator : to_z w32 (of_z w32 x.numerator) ≡ x.numerator = search rules in
    then _ _ _ c.put_text-a.ensures
    (then _ _ _ (rw numerator at c.put_integer-b.ensures)
    (then _ _ _ c.put_text-c.ensures
    (then _ _ _ c.put_address-d.ensures
    (then _ _ _ (rw c.is_spread.ensures at c.put_shared_words-e.ensures)
    (then _ _ _ c.put_text-f.ensures
    (then _ _ _ c.put_address-g.ensures
    (then _ _ _ c.put_text-h.ensures
    (then _ _ _ (rw numerator at c.put_excess-i.ensures)
    (then _ _ _ c.put_text.ensures (done _))))))))))
