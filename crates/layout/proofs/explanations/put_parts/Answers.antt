-- Each field starts where the sum before it ends.
use Rattle.std.proofs.Common.{◌≡◌, refl, rules}
use mir.Syntax.{w32}
use mir.Val.{to_z, of_z}
use Rattle.layout.specs.ExplanationBytes.{part_bytes, stage_bytes, parts_bytes}
use Rattle.layout.proofs.Stored.{first, next}
use Rattle.layout.proofs.explanations.put_parts.Goals as goal

pub returns : goal.returns
unfolding parts_bytes
returns c =
    let x = c.args.x in
    let row : to_z w32 (of_z w32 x.after_row) ≡ x.after_row = search rules in
    let column : to_z w32 (of_z w32 x.after_column) ≡ x.after_column = search rules in
    let sum : to_z w32 (of_z w32 x.numerator) ≡ x.numerator = search rules in
    let w1 = first c.args.out.now 5 (part_bytes x.average) c.put_part.ensures.out_after c.put_part.ensures.x_len in
    let w2 = next w1 (stage_bytes x.row x.after_row) (rw row at c.put_stage.ensures.out_after) (rw row at c.put_stage.ensures.sum_len) refl in
    let w3 = next w2 (stage_bytes x.column x.after_column) (rw column at c.put_stage-2.ensures.out_after) (rw column at c.put_stage-2.ensures.sum_len) refl in
    let w4 = next w3 (stage_bytes x.remainder x.numerator) (rw sum at c.put_stage-3.ensures.out_after) (rw sum at c.put_stage-3.ensures.sum_len) refl in
    record { out_after = w4.is; x_len = w4.long }
