-- The subpage picks the entry, which 16 bits hold.
use Rattle.std.proofs.Common.{rules}
use Rattle.record.specs.Questions.{offset_reference_cp_of}
use Rattle.record.proofs.questions.offset_reference_cp_of.Goals as goal

pub returns-in-Zero : goal.returns-in-Zero
unfolding offset_reference_cp_of
returns-in-Zero c = rw c.in-Zero.is (search rules)

pub returns-in-One : goal.returns-in-One
unfolding offset_reference_cp_of
returns-in-One c = rw c.in-One.is (search rules)
