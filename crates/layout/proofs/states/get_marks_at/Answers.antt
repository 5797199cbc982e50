-- Each mark is the one at its word's place.
use Rattle.std.proofs.Common.{rules}
use Rattle.util.proofs.Told.{from_fn-told}
use Rattle.layout.proofs.states.get_marks_at.Goals as goal

pub returns : goal.returns
returns c = from_fn-told _ _ _ c.from_fn.result 11 (λ j y q l called. (search rules, search rules)) c.from_fn.ensures.items
