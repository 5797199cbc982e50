-- The public functions of `walk` have no second answer: a contract is an equation for what is answered, or says of an array how long it is and what stands at each place.
-- Assumes nothing.
use Prim.Native.Nat.{ℕ, ◌<◌}
use native.Mathlib.Omega.{arith}
use mathlib.Core.Path.{◌≡◌, sym, ◌∙◌}
use mathlib.Core.List.{List}
use lib.IntN.{ℤ, pos}
use lib.ListN.{length, get_or}
use lib.Seq.{ext_get_or}
use Rattle.acceptance.specs.Determined.{OneAnswer}
use Rattle.walk.proofs.scale_power.Kinds as ScalePowerK
use Rattle.walk.proofs.scale_power.Reads as ScalePower
use Rattle.walk.proofs.scaled.Kinds as ScaledK
use Rattle.walk.proofs.scaled.Reads as Scaled
use Rattle.walk.proofs.row_sums.Kinds as RowSumsK
use Rattle.walk.proofs.row_sums.Reads as RowSums
use Rattle.walk.proofs.column_terms.Kinds as ColumnTermsK
use Rattle.walk.proofs.column_terms.Reads as ColumnTerms
use Rattle.walk.proofs.k_ta_columns.Kinds as KTaColumnsK
use Rattle.walk.proofs.k_ta_columns.Reads as KTaColumns
use Rattle.walk.proofs.k_ta_average_low.Kinds as KTaAverageLowK
use Rattle.walk.proofs.k_ta_average_low.Reads as KTaAverageLow
use Rattle.walk.proofs.k_ta_average_word.Kinds as KTaAverageWordK
use Rattle.walk.proofs.k_ta_average_word.Reads as KTaAverageWord
use Rattle.walk.proofs.shared_terms.Kinds as SharedTermsK
use Rattle.walk.proofs.shared_terms.Reads as SharedTerms
use Rattle.walk.proofs.k_ta_terms.Kinds as KTaTermsK
use Rattle.walk.proofs.k_ta_terms.Reads as KTaTerms
use Rattle.walk.proofs.fault_of.Kinds as FaultOfK
use Rattle.walk.proofs.fault_of.Reads as FaultOf
use Rattle.walk.proofs.first_refusal.Kinds as FirstRefusalK
use Rattle.walk.proofs.first_refusal.Reads as FirstRefusal

-- n numbers, each as f has it
abbrev Array : (ℕ → ℤ) → ℕ → List ℤ → Type 0
Array f n l = ((k : ℕ) → k < n → get_or l k (pos 0) ≡ f k) × (length l ≡ n)

one-array : (f : ℕ → ℤ) (n : ℕ) (a b : List ℤ) → Array f n a → Array f n b → a ≡ b
one-array f n a b p q =
    ext_get_or (pos 0) a b (p.1 ∙ sym q.1)
    (λ k h. let l : k < n = omega (arith, p.1, h) in p.0 k l ∙ sym (q.0 k l))

pub one-scale-power : OneAnswer ScalePowerK.ps ScalePowerK.r ScalePower.Learnt
one-scale-power _ _ _ _ p q = λ i. record { result = (p.0 ∙ sym q.0) i; lent = (tt, (tt, (tt, tt))) }

pub one-scaled : OneAnswer ScaledK.ps ScaledK.r Scaled.Learnt
one-scaled _ _ _ _ p q = λ i. record { result = (p.0 ∙ sym q.0) i; lent = (tt, (tt, tt)) }

pub one-row-sums : OneAnswer RowSumsK.ps RowSumsK.r RowSums.Learnt
one-row-sums _ a x y p q = let same = one-array _ 24 x.result y.result p q in λ i. record { result = same i; lent = (tt, (tt, tt)) }

pub one-column-terms : OneAnswer ColumnTermsK.ps ColumnTermsK.r ColumnTerms.Learnt
one-column-terms _ a x y p q = let same = one-array _ 64 x.result y.result p q in λ i. record { result = same i; lent = (tt, (tt, tt)) }

pub one-k-ta-columns : OneAnswer KTaColumnsK.ps KTaColumnsK.r KTaColumns.Learnt
one-k-ta-columns _ a x y p q = let same = one-array _ 64 x.result y.result p q in λ i. record { result = same i; lent = (tt, tt) }

pub one-k-ta-average-low : OneAnswer KTaAverageLowK.ps KTaAverageLowK.r KTaAverageLow.Learnt
one-k-ta-average-low _ _ _ _ p q = λ i. record { result = (p.0 ∙ sym q.0) i; lent = (tt, tt) }

pub one-k-ta-average-word : OneAnswer KTaAverageWordK.ps KTaAverageWordK.r KTaAverageWord.Learnt
one-k-ta-average-word _ _ _ _ p q = λ i. record { result = (p.0 ∙ sym q.0) i; lent = (tt, tt) }

pub one-shared-terms : OneAnswer SharedTermsK.ps SharedTermsK.r SharedTerms.Learnt
one-shared-terms _ _ _ _ p q = λ i. record { result = (p.0 ∙ sym q.0) i; lent = (tt, (tt, (tt, (tt, (tt, (tt, (tt, tt))))))) }

pub one-k-ta-terms : OneAnswer KTaTermsK.ps KTaTermsK.r KTaTerms.Learnt
one-k-ta-terms _ _ _ _ p q = λ i. record { result = (p.0 ∙ sym q.0) i; lent = (tt, (tt, (tt, (tt, tt)))) }

pub one-fault-of : OneAnswer FaultOfK.ps FaultOfK.r FaultOf.Learnt
one-fault-of _ _ _ _ p q = λ i. record { result = (p ∙ sym q) i; lent = (tt, (tt, (tt, tt))) }

pub one-first-refusal : OneAnswer FirstRefusalK.ps FirstRefusalK.r FirstRefusal.Learnt
one-first-refusal _ _ _ _ p q = λ i. record { result = (p ∙ sym q) i; lent = (tt, tt) }
