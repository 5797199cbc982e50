-- Each number is the one at its place.
use Rattle.std.proofs.Common.{rules}
use Rattle.util.proofs.Told.{from_fn-told}
use Rattle.layout.proofs.numbers.get_array.Goals as goal

pub returns : goal.returns
returns g c = from_fn-told _ _ _ c.from_fn.result g.row.N (λ j y q l called. (search rules, search rules)) c.from_fn.ensures.items
