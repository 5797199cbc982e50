-- Where no block came, every word is missing.
use Rattle.gathering.proofs.History.{fresh-is}
use Rattle.gathering.proofs.Gathering.fresh.Goals as goal

pub returns-clause-state_of : goal.returns-clause-state_of
returns-clause-state_of c = fresh-is
