-- The number is 0 exactly where the call was accepted.
use Rattle.std.proofs.Common.{ap, ◌∙◌}
use Rattle.refusal.specs.Code.{Verdict, code_of}
use Rattle.refusal.specs.declared.Code.{Code}
use Rattle.refusal.proofs.Apart.{accepted-number}
use Rattle.bench.proofs.bench_from_data.Goals as goal

pub returns : goal.returns
returns c =
    let d = c.decode in
    let e = ap (λ (x : Code). x.number) c.code_of.ensures in
    record {
      answer = e ∙ ap (λ (r : Verdict). (code_of r).number) d.ensures.answer;
      offset = rw (e, accepted-number d.result) d.ensures.offset;
      alpha = rw (e, accepted-number d.result) d.ensures.alpha;
      k_ta = rw (e, accepted-number d.result) d.ensures.k_ta;
      «record» = rw (e, accepted-number d.result) d.ensures.«record»;
    }
