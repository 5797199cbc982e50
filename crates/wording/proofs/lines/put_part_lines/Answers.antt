-- Each part follows the other, as far as they are reached.
use Rattle.wording.specs.Wording.{part_lines}
use Rattle.listing.proofs.Typing.{then, done}
use Rattle.wording.proofs.lines.put_part_lines.Goals as goal

pub returns : goal.returns
unfolding part_lines
returns c =
    let reach = c.reached_by-reached.ensures in
    then _ _ _ c.put_part-a.ensures
    (then _ _ _ (rw c.is_spread.ensures at c.put_shared-b.ensures)
    (then _ _ _ (rw reach at c.put_remainder-c.ensures)
    (then _ _ _ (rw reach at c.put_sum.ensures) (done _))))
