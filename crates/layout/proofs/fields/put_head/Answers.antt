-- Each field starts where the one before it ends.
use Rattle.std.proofs.Common.{◌≡◌, [], ◌∷◌, refl, rules}
use mir.Syntax.{w16}
use mir.Val.{to_z, of_z}
use Rattle.layout.specs.Numbers.{short_bytes, floats_bytes}
use Rattle.layout.specs.RecordBytes.{head_bytes}
use Rattle.layout.proofs.Stored.{first, next, short-long, floats-long}
use Rattle.layout.proofs.fields.put_head.Goals as goal

pub returns : goal.returns
unfolding head_bytes
returns c =
    let r = c.args.r in
    let scalars = r.k_v_ptat ∷ r.k_t_ptat ∷ r.v_ptat_25 ∷ r.alpha_ptat ∷ r.gain ∷ r.k_s_ta ∷ [] in
    let k : to_z w16 (of_z w16 r.k_v_dd) ≡ r.k_v_dd = search rules in
    let v : to_z w16 (of_z w16 r.v_dd_25) ≡ r.v_dd_25 = search rules in
    let w1 = first c.args.out.now 0 (short_bytes r.k_v_dd) (rw k at c.put.ensures) (short-long r.k_v_dd) in
    let w2 = next w1 (short_bytes r.v_dd_25) (rw v at c.put-2.ensures) (short-long r.v_dd_25) refl in
    let w3 = next w2 (r.resolution ∷ []) c.put-3.ensures refl refl in
    let w4 = next w3 (floats_bytes scalars) c.put_all.ensures (floats-long scalars 6 refl) refl in
    record { out_after = w4.is; r_len = w4.long }
