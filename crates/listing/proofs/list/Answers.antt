-- The record's lines in their order.
use Rattle.std.proofs.Common.{ℕ, List, ap, ◌∙◌}
use Rattle.listing.specs.Inner.Typing.{typed}
use Rattle.listing.specs.Listing.{listing}
use Rattle.listing.proofs.Parts.{accepted-listing}
use Rattle.listing.proofs.Typing.{then}
use Rattle.listing.proofs.list.Goals as goal

pub returns-in-Ok : goal.returns-in-Ok
unfolding listing
returns-in-Ok c =
    rw c.in-Ok.is
    (then _ _ _ c.put_supply-a.ensures (then _ _ _ c.put_ambient-b.ensures (then _ _ _ c.put_arrays-c.ensures c.put_corrections.ensures))
    ∙ ap (λ (t : List ℕ). typed t (c.args.out.now, 0)) (accepted-listing c.in-Ok.«record»))
