-- What it holds, and the bounds that `room_at` finds.
use Rattle.std.proofs.Common.{◌≡◌, w16, to_z, of_z, rules}
use Rattle.wording.specs.Wording.{fitting_text}
use Rattle.listing.proofs.Typing.{then, done}
use Rattle.wording.proofs.sentences.put_fitting.Goals as goal

pub returns : goal.returns
unfolding fitting_text
returns c =
    let x = c.args.part in
    let value : to_z w16 (of_z w16 x.value) ≡ x.value = search rules in
    let room = c.room_at-room.ensures in
    then _ _ _ c.put_text-a.ensures
    (then _ _ _ (rw value at c.put_whole-b.ensures)
    (then _ _ _ c.put_text-c.ensures
    (then _ _ _ c.put_decimal-d.ensures
    (then _ _ _ c.put_text-e.ensures
    (then _ _ _ (rw room at c.put_decimal-f.ensures)
    (then _ _ _ c.put_text-g.ensures
    (then _ _ _ (rw room at c.put_decimal-h.ensures)
    (then _ _ _ c.put_text.ensures (done _)))))))))
