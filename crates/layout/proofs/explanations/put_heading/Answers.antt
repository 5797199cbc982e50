-- Each number starts where the one before it ends.
use Rattle.std.proofs.Common.{[], ◌∷◌, refl}
use Rattle.util.specs.Bytes.{two}
use Rattle.refusal.specs.Code.{table_number, code_of}
use Rattle.layout.specs.ExplanationBytes.{failure_number, heading_bytes}
use Rattle.layout.proofs.Stored.{first, next, two-long}
use Rattle.layout.proofs.explanations.put_heading.Goals as goal

pub returns : goal.returns
unfolding heading_bytes
returns c =
    let e = c.args.e in
    let w1 = first c.args.out.now 0 ((code_of e.found).number ∷ []) (rw c.code_of.ensures at c.put.ensures) refl in
    let w2 = next w1 (table_number e.table ∷ []) (rw c.table_number.ensures at c.put-2.ensures) refl refl in
    let w3 = next w2 (two e.pixel) c.put-3.ensures (two-long e.pixel) refl in
    let w4 = next w3 (failure_number e.failure ∷ []) (rw c.failure_number.ensures at c.put-4.ensures) refl refl in
    record { out_after = w4.is; e_len = w4.long }
