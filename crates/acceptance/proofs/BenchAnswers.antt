-- The public functions of `bench` have no second answer, and ask for nothing: each contract is an equation for what is answered and for what is left in lent memory.
-- Assumes nothing.
use mathlib.Core.Path.{sym, ◌∙◌}
use Rattle.acceptance.specs.Determined.{EntryPoint}
use Rattle.bench.proofs.bench_from_data.Kinds as BenchFromDataK
use Rattle.bench.proofs.bench_from_data.Reads as BenchFromData

pub one-bench-from-data : EntryPoint BenchFromDataK.ps BenchFromDataK.r BenchFromData.Asked BenchFromData.Learnt
one-bench-from-data = (
  λ _ _. tt,
  λ κs a x y p q.
      let same = p.0 ∙ sym q.0 in
      λ i. record { result = same i; lent = (tt, ((rw same at p.1.0 ∙ sym q.1.0) i, ((rw same at p.1.1.0 ∙ sym q.1.1.0) i, ((rw same at p.1.1.1.0 ∙ sym q.1.1.1.0) i, ((rw same at p.1.1.1.1 ∙ sym q.1.1.1.1) i, tt))))) },
)
