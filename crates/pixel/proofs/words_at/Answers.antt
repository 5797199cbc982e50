-- Each word is the one with its number.
use Rattle.std.proofs.Common.{rules}
use Rattle.util.proofs.Told.{from_fn-told}
use Rattle.pixel.proofs.words_at.Goals as goal

pub returns : goal.returns
returns c = from_fn-told _ _ _ c.from_fn.result 11 (λ j y q l called. (search rules, search rules)) c.from_fn.ensures.items
