-- Each kind of entry has its 32 bits.
use Rattle.std.proofs.Common.{rules}
use Rattle.layout.proofs.Stored.{whole_long, float-long}
use Rattle.layout.proofs.explanations.put_entry.Goals as goal

pub returns-in-None-clause-len : goal.returns-in-None-clause-len
returns-in-None-clause-len c = search (rules, whole_long)

pub returns-in-Some-Whole-clause-len : goal.returns-in-Some-Whole-clause-len
returns-in-Some-Whole-clause-len c = search (rules, whole_long)

pub returns-in-Some-Fraction-clause-len : goal.returns-in-Some-Fraction-clause-len
returns-in-Some-Fraction-clause-len c = search (rules, float-long)
