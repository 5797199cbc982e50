-- The public functions of `explanation` have no second answer, and ask for nothing: each contract is an equation for what is answered.
-- Assumes nothing.
use mathlib.Core.Path.{sym, ◌∙◌}
use mathlib.Core.List.{[]}
use lib.ListN.{replicate}
use Rattle.std.specs.Prelude.{Err, Some, None}
use Rattle.refusal.specs.declared.Refusal.TheVariants.{ImageLength, PastTheEnd, TableNumber}
use Rattle.explanation.specs.Explanation.{explanation_of}
use Rattle.explanation.specs.declared.Failure.TheVariants.{Row, Sum}
use Rattle.acceptance.specs.Determined.{EntryPoint, Only, slice}
use Rattle.explanation.proofs.reached_by.Kinds as ReachedByK
use Rattle.explanation.proofs.reached_by.Reads as ReachedBy
use Rattle.explanation.proofs.explain.Kinds as ExplainK
use Rattle.explanation.proofs.explain.Reads as Explain

pub one-reached-by : EntryPoint ReachedByK.ps ReachedByK.r ReachedBy.Asked ReachedBy.Learnt
one-reached-by = (λ _ _. tt, λ _ _ _ _ p q i. record { result = (p ∙ sym q) i; lent = (tt, tt) })

pub asked-reached-by : Only ReachedByK.ps ReachedByK.r ReachedBy.Learnt (λ _. (Some Row, tt)) (λ _. 0)
    × Only ReachedByK.ps ReachedByK.r ReachedBy.Learnt (λ _. (Some Sum, tt)) (λ _. 3)
    × Only ReachedByK.ps ReachedByK.r ReachedBy.Learnt (λ _. (None, tt)) (λ _. 4)
asked-reached-by = (λ _ _ p. p, λ _ _ p. p, λ _ _ p. p)

pub one-explain : EntryPoint ExplainK.ps ExplainK.r Explain.Asked Explain.Learnt
one-explain = (λ _ _. tt, λ _ _ _ _ p q i. record { result = (p ∙ sym q) i; lent = (tt, (tt, (tt, tt))) })

-- 1 comes before 11, and 11 before 15
pub asked-explain : Only ExplainK.ps ExplainK.r Explain.Learnt (λ _. (slice [], (3, (768, tt)))) (λ _. Err ImageLength)
    × Only ExplainK.ps ExplainK.r Explain.Learnt (λ _. (slice (replicate 1664 0), (3, (768, tt)))) (λ _. Err PastTheEnd)
    × Only ExplainK.ps ExplainK.r Explain.Learnt (λ _. (slice (replicate 1664 0), (3, (767, tt)))) (λ _. Err TableNumber)
unfolding explanation_of
asked-explain = (λ _ _ p. p, λ _ _ p. p, λ _ _ p. p)
