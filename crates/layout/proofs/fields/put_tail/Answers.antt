-- Each field starts where the one before it ends.
use Rattle.std.proofs.Common.{[], ◌∷◌, refl, rules}
use Rattle.layout.specs.Numbers.{float_bytes, floats_bytes}
use Rattle.layout.specs.RecordBytes.{optional_bytes, tail_bytes}
use Rattle.layout.proofs.Stored.{first, next, float-long, floats-long, optional-long}
use Rattle.layout.proofs.fields.put_tail.Goals as goal

pub returns : goal.returns
unfolding tail_bytes
returns c =
    let r = c.args.r in
    let scalars = r.k_v_cp ∷ r.k_ta_cp ∷ [] in
    let p2 = c.put_optional.ensures in
    let w1 = first c.args.out.now 81 (floats_bytes scalars) c.put_all.ensures (floats-long scalars 2 refl) in
    let w2 = next w1 (optional_bytes r.temperature_gradient_coefficient) p2.out_after (optional-long r.temperature_gradient_coefficient) refl in
    let w3 = next w2 (floats_bytes r.interleave_correction_pixels) c.put_all-2.ensures (floats-long r.interleave_correction_pixels 6 (search rules)) refl in
    let w4 = next w3 (float_bytes r.interleave_correction_cp) c.put.ensures (float-long r.interleave_correction_cp) refl in
    record { out_after = w4.is; r_len = w4.long; temperature_gradient_coefficient_value = p2.x_value }
