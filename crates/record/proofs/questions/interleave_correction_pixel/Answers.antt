-- Its test is the definition's, and the pattern picks the case.
use borrow.Author.Tests.{lt-ltb, le-ltb}
use Rattle.record.specs.Questions.{correction_answer}
use Rattle.record.proofs.questions.interleave_correction_pixel.Goals as goal

pub returns-then-pixel-ge-NUM_PIXELS : goal.returns-then-pixel-ge-NUM_PIXELS
unfolding correction_answer
returns-then-pixel-ge-NUM_PIXELS c = simp (le-ltb _ _ c.if-pixel-ge-NUM_PIXELS.true)

pub returns-in-Interleave : goal.returns-in-Interleave
unfolding correction_answer
returns-in-Interleave c = simp (lt-ltb _ _ c.if-pixel-ge-NUM_PIXELS.false, c.in-Interleave.is, c.six_place-place.ensures.value)

pub returns-in-Chess : goal.returns-in-Chess
unfolding correction_answer
returns-in-Chess c = simp (lt-ltb _ _ c.if-pixel-ge-NUM_PIXELS.false, c.in-Chess.is)
