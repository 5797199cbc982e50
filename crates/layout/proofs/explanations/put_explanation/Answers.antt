-- Each part starts where the one before it ends.
use Rattle.std.proofs.Common.{[], ◌∷◌, refl}
use Rattle.layout.specs.ExplanationBytes.{parts_bytes, entry_bytes, heading_bytes, explanation_bytes}
use Rattle.layout.proofs.Stored.{first, next}
use Rattle.layout.proofs.explanations.put_explanation.Goals as goal

pub returns : goal.returns
unfolding explanation_bytes
returns c =
    let e = c.args.e in
    let w1 = first c.args.out.now 0 (heading_bytes e) c.put_heading.ensures.out_after c.put_heading.ensures.e_len in
    let w2 = next w1 (parts_bytes e.parts) c.put_parts.ensures.out_after c.put_parts.ensures.x_len refl in
    let w3 = next w2 (e.exponent ∷ []) c.put.ensures refl refl in
    let w4 = next w3 (entry_bytes e.entry) c.put_entry.ensures.out_after c.put_entry.ensures.len refl in
    record { out_after = w4.is; e_len = w4.long }
