-- The sum starts where the field ends.
use Rattle.std.proofs.Common.{◌≡◌, refl, rules}
use mir.Syntax.{w32}
use mir.Val.{to_z, of_z}
use Rattle.layout.specs.ExplanationBytes.{whole_bytes, part_bytes, stage_bytes}
use Rattle.layout.proofs.Stored.{first, next, whole_long}
use Rattle.layout.proofs.explanations.put_stage.Goals as goal

pub returns : goal.returns
unfolding stage_bytes
returns c =
    let a = c.args in
    let sum : to_z w32 (of_z w32 a.sum) ≡ a.sum = search rules in
    let w1 = first a.out.now a.at (part_bytes a.x) c.put_part.ensures.out_after c.put_part.ensures.x_len in
    let w2 = next w1 (whole_bytes a.sum) (rw sum at c.put.ensures) (whole_long a.sum) refl in
    record { out_after = w2.is; sum_len = w2.long }
