-- Each array starts where the one before it ends.
use Rattle.std.proofs.Common.{refl, rules}
use Rattle.layout.specs.Numbers.{shorts_bytes, floats_bytes}
use Rattle.layout.specs.RecordBytes.{array_bytes}
use Rattle.layout.proofs.Stored.{first, next, shorts-long, floats-long}
use Rattle.layout.proofs.fields.put_arrays.Goals as goal

pub returns : goal.returns
unfolding array_bytes
returns c =
    let r = c.args.r in
    let w1 = first c.args.out.now 29 (shorts_bytes r.corner_temperatures) c.put_all.ensures (shorts-long r.corner_temperatures 4 (search rules)) in
    let w2 = next w1 (floats_bytes r.k_s_to) c.put_all-2.ensures (floats-long r.k_s_to 4 (search rules)) refl in
    let w3 = next w2 (floats_bytes r.alpha_cp) c.put_all-3.ensures (floats-long r.alpha_cp 2 (search rules)) refl in
    let w4 = next w3 (shorts_bytes r.offset_reference_cp) c.put_all-4.ensures (shorts-long r.offset_reference_cp 2 (search rules)) refl in
    let w5 = next w4 (floats_bytes r.k_v_pattern) c.put_all-5.ensures (floats-long r.k_v_pattern 4 (search rules)) refl in
    record { out_after = w5.is; r_len = w5.long }
