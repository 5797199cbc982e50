-- The three parts of an answered call's explanation.
use Rattle.wording.specs.Wording.{wording}
use Rattle.listing.proofs.Typing.{then, done}
use Rattle.wording.proofs.put_explanation.Goals as goal

pub returns-in-Ok : goal.returns-in-Ok
unfolding wording
returns-in-Ok c = rw c.in-Ok.is (then _ _ _ c.put_opening-a.ensures (then _ _ _ c.put_part_lines-b.ensures (then _ _ _ c.put_ending.ensures (done _))))
