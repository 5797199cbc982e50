-- The public function of `steps` has no second answer, and asks for nothing: its contract is an equation for what is answered.
-- Assumes nothing.
use mathlib.Core.Path.{sym, ◌∙◌}
use Rattle.acceptance.specs.Determined.{EntryPoint}
use Rattle.steps.proofs.first_of.Kinds as FirstOfK
use Rattle.steps.proofs.first_of.Reads as FirstOf

pub one-first-of : EntryPoint FirstOfK.ps FirstOfK.r FirstOf.Asked FirstOf.Learnt
one-first-of = (λ _ _. tt, λ _ _ _ _ p q i. record { result = (p ∙ sym q) i; lent = (tt, (tt, (tt, (tt, (tt, (tt, tt)))))) })
