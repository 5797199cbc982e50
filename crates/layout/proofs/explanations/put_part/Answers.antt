-- Each number starts where the one before it ends.
use Rattle.std.proofs.Common.{◌≡◌, [], ◌∷◌, refl, rules}
use mir.Syntax.{w16, w32}
use mir.Val.{to_z, of_z}
use Rattle.util.specs.Bytes.{two}
use Rattle.layout.specs.Numbers.{short_bytes}
use Rattle.layout.specs.ExplanationBytes.{whole_bytes, part_bytes}
use Rattle.layout.proofs.Stored.{first, next, two-long, short-long, whole_long}
use Rattle.layout.proofs.explanations.put_part.Goals as goal

pub returns : goal.returns
unfolding part_bytes
returns c =
    let s = c.args in
    let x = s.x in
    let value : to_z w16 (of_z w16 x.value) ≡ x.value = search rules in
    let term : to_z w32 (of_z w32 x.term) ≡ x.term = search rules in
    let w1 = first s.out.now s.at (two x.address) c.put.ensures (two-long x.address) in
    let w2 = next w1 (x.high ∷ []) c.put-2.ensures refl refl in
    let w3 = next w2 (x.low ∷ []) c.put-3.ensures refl refl in
    let w4 = next w3 (two x.raw) c.put-4.ensures (two-long x.raw) refl in
    let w5 = next w4 (short_bytes x.value) (rw value at c.put-5.ensures) (short-long x.value) refl in
    let w6 = next w5 (x.scale ∷ []) c.put-6.ensures refl refl in
    let w7 = next w6 (whole_bytes x.term) (rw term at c.put-7.ensures) (whole_long x.term) refl in
    record { out_after = w7.is; x_len = w7.long }
