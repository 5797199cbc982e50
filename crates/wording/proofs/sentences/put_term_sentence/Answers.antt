-- Whose term it is, then what would fit.
use Rattle.listing.proofs.Typing.{then}
use Rattle.wording.proofs.sentences.put_term_sentence.Goals as goal

pub returns : goal.returns
returns c = then _ _ _ c.put_failed_term-a.ensures c.put_fitting.ensures
