-- The public function of `blocks` has no second answer: its contract is an equation for what is answered.
-- Assumes nothing.
use mathlib.Core.Path.{sym, ◌∙◌}
use Rattle.acceptance.specs.Determined.{OneAnswer}
use Rattle.blocks.proofs.read_block.Kinds as ReadBlockK
use Rattle.blocks.proofs.read_block.Reads as ReadBlock

pub one-read-block : OneAnswer ReadBlockK.ps ReadBlockK.r ReadBlock.Learnt
one-read-block _ _ _ _ p q = λ i. record { result = (p.0 ∙ sym q.0) i; lent = (tt, tt) }
