-- Whose term it is, the term, and where its field stands.
use Rattle.std.proofs.Common.{◌≡◌, w32, to_z, of_z, rules}
use Rattle.wording.specs.Wording.{term_text}
use Rattle.listing.proofs.Typing.{then, done}
use Rattle.wording.proofs.sentences.put_failed_term.Goals as goal

pub returns : goal.returns
unfolding term_text
returns c =
    let x = c.args.part in
    let term : to_z w32 (of_z w32 x.term) ≡ x.term = search rules in
    then _ _ _ c.put_text-a.ensures
    (then _ _ _ c.put_text-b.ensures
    (then _ _ _ c.put_text-c.ensures
    (then _ _ _ (rw term at c.put_integer-d.ensures)
    (then _ _ _ c.put_text-e.ensures
    (then _ _ _ c.put_bits-f.ensures
    (then _ _ _ c.put_text-g.ensures
    (then _ _ _ c.put_address.ensures (done _))))))))
