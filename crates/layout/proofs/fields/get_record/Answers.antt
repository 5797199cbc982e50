-- Each field by what its function ensures. The equation of the two records is written field by field, since no law says it of records: each field's part is another call's.
use Rattle.std.proofs.Common.{◌≡◌, get_or, rules, ◌∙◌}
use mir.Syntax.{w16}
use mir.Val.{to_z, of_z}
use Rattle.layout.specs.RecordBytes.{record_in}
use Rattle.layout.proofs.fields.get_record.Goals as goal

pub returns : goal.returns
unfolding record_in
returns c =
    let k : to_z w16 (of_z w16 c.get.result) ≡ c.get.result = search rules in
    let v : to_z w16 (of_z w16 c.get-2.result) ≡ c.get-2.result = search rules in
    λ i. record {
      k_v_dd = (k ∙ c.get.ensures) i;
      v_dd_25 = (v ∙ c.get-2.ensures) i;
      resolution = get_or c.args.s.now 4 0;
      k_v_ptat = c.get-3.ensures i;
      k_t_ptat = c.get-4.ensures i;
      v_ptat_25 = c.get-5.ensures i;
      alpha_ptat = c.get-6.ensures i;
      gain = c.get-7.ensures i;
      k_s_ta = c.get-8.ensures i;
      corner_temperatures = c.get_array.ensures i;
      k_s_to = c.get_array-2.ensures i;
      alpha_cp = c.get_array-3.ensures i;
      offset_reference_cp = c.get_array-4.ensures i;
      k_v_pattern = c.get_array-5.ensures i;
      k_v_cp = c.get-9.ensures i;
      k_ta_cp = c.get-10.ensures i;
      temperature_gradient_coefficient = c.get_optional.ensures i;
      interleave_correction_pixels = c.get_array-6.ensures i;
      interleave_correction_cp = c.get-11.ensures i;
    }
