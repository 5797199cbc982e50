-- The subpage picks the entry.
use Rattle.record.specs.Questions.{alpha_cp_of}
use Rattle.record.proofs.questions.alpha_cp_of.Goals as goal

pub returns-in-Zero : goal.returns-in-Zero
unfolding alpha_cp_of
returns-in-Zero c = rw c.in-Zero.is

pub returns-in-One : goal.returns-in-One
unfolding alpha_cp_of
returns-in-One c = rw c.in-One.is
