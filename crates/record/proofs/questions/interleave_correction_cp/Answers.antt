-- The pattern and the subpage pick the case.
use Rattle.record.specs.Questions.{correction_cp}
use Rattle.record.proofs.questions.interleave_correction_cp.Goals as goal

pub returns-in-Zero : goal.returns-in-Zero
unfolding correction_cp
returns-in-Zero c = rw (c.in-Interleave.is, c.in-Zero.is)

pub returns-in-One : goal.returns-in-One
unfolding correction_cp
returns-in-One c = rw (c.in-Interleave.is, c.in-One.is)

pub returns-in-Chess : goal.returns-in-Chess
unfolding correction_cp
returns-in-Chess c = rw c.in-Chess.is
