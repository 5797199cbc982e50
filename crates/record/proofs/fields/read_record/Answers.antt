-- Each field by what its function ensures.
use Rattle.std.proofs.Common.{◌∙◌}
use Rattle.util.proofs.Whole.{back16}
use Rattle.record.specs.Fields.{gain_of, v_ptat_25_field, k_v_ptat_field, k_t_ptat_field, interleave_cp, resolution_of, k_s_ta_field, record_of}
use Rattle.record.proofs.fields.read_record.Goals as goal

pub returns : goal.returns
unfolding record_of gain_of v_ptat_25_field k_v_ptat_field k_t_ptat_field interleave_cp resolution_of k_s_ta_field
returns c =
    λ i. record {
      k_v_dd = (back16 c.k_v_dd.result c.k_v_dd.type_inv ∙ c.k_v_dd.ensures) i;
      v_dd_25 = (back16 c.v_dd_25.result c.v_dd_25.type_inv ∙ c.v_dd_25.ensures) i;
      resolution = c.unsigned_at.ensures i;
      k_v_ptat = c.fraction.ensures i;
      k_t_ptat = c.fraction-2.ensures i;
      v_ptat_25 = c.fraction-3.ensures i;
      alpha_ptat = c.alpha_ptat.ensures i;
      gain = c.fraction-4.ensures i;
      k_s_ta = c.fraction-5.ensures i;
      corner_temperatures = c.corner_temperatures-corner_temperatures.ensures i;
      k_s_to = c.k_s_to-k_s_to.ensures i;
      alpha_cp = c.alpha_cp-alpha_cp.ensures i;
      offset_reference_cp = c.offset_reference_cp-offset_reference_cp.ensures i;
      k_v_pattern = c.k_v_pattern-k_v_pattern.ensures i;
      k_v_cp = c.k_v_cp.ensures i;
      k_ta_cp = c.k_ta_cp.ensures i;
      temperature_gradient_coefficient = c.temperature_gradient_coefficient-gradient.ensures i;
      interleave_correction_pixels = c.interleave_correction_pixels-six.ensures i;
      interleave_correction_cp = c.fraction-6.ensures i;
    }
