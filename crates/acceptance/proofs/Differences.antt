-- Where the library parts ways with the datasheet, and in alpha_ptat with the original, each difference on an accepted image: the decoder's answer to the image's bytes, and the formula's
-- over its words.
-- Assumes nothing.
use Prim.Native.Nat.{ℕ, ◌+◌}
use mathlib.Core.Path.{◌≡◌, refl, ap, ◌∙◌}
use mathlib.Core.List.{List, [], ◌∷◌}
use lib.IntN.{pos, negsuc}
use lib.Ieee.{nan, neg}
use lib.ListN.{get_or}
use Rattle.std.specs.Prelude.{None, Result}
use Rattle.std.specs.Result.{result_unwrap_or}
use Rattle.exact.specs.Dyadic.{dyadic, minus_zero, plus_zero}
use Rattle.util.specs.Sums.{in16}
use Rattle.exact.specs.Fraction.{◌/2^◌, float}
use Rattle.refusal.specs.Code.{accepted, verdict_of}
use Rattle.refusal.specs.declared.Refusal.{Refusal}
use Rattle.record.specs.declared.Record.{Record}
use Rattle.record.specs.Fields.{record_of, blank_record, alpha_ptat_field, gradient_of, interleave_a, interleave_b, interleave_c, interleave_six}
use Rattle.datasheet.specs.Formulas as D
use Rattle.record.proofs.Before.{whole_steps}
use Rattle.walk.specs.Parts.{row_sum, column_sum, whole_sum, kta_sum}
use Rattle.steps.specs.Steps.{steps_from, first_outside}
use Rattle.walk.specs.Walk.{term_steps, pixel_steps, table_steps, walk}
use Rattle.tables.specs.Entries.{alpha_at}
use Rattle.eeprom.specs.Image.{image_words}
use Rattle.acceptance.specs.Readings.{Set, ◌≔◌, words_set, image_of, decoded}
use Rattle.acceptance.proofs.Marked.{set_words, decoded-set}

-- the record of an answer, which an accepted image has
abbrev pub known : Result Record Refusal → Record
known d = result_unwrap_or d blank_record

-- an image that is accepted, what is answered of it, and what another formula gives for it
pub record Differs {X Y : Type 0} (s : List Set) (ours : Result Record Refusal → (ℕ → ℕ) → X) (theirs : (ℕ → ℕ) → Y) (x : X) (y : Y) : Type 0 where
  pub accepted : verdict_of (decoded (image_of s)) ≡ accepted
  pub answered : ours (decoded (image_of s)) (image_words (image_of s)) ≡ x
  pub formula : theirs (D.addressed (image_words (image_of s))) ≡ y

-- 0x2410 = 0x5000: 37 / 4, which is the datasheet's, and in the original's whole steps 9
pub alpha-ptat-differs : Differs ((0x2410 ≔ 0x5000) ∷ []) (λ d w. (known d).alpha_ptat) (λ EE. float (whole_steps (λ n. EE (0x2400 + n)))) (float (pos 37 /2^ 2)) (float (pos 9 /2^ 0))
unfolding words_set walk table_steps steps_from pixel_steps term_steps first_outside row_sum column_sum whole_sum kta_sum in16 record_of alpha_ptat_field whole_steps dyadic
alpha-ptat-differs =
    let s = (0x2410 ≔ 0x5000) ∷ [] in
    record {
      accepted = ap verdict_of (decoded-set s) ∙ refl;
      answered = ap (λ (d : Result Record Refusal). (known d).alpha_ptat) (decoded-set s) ∙ refl;
      formula = ap (λ (w : ℕ → ℕ). float (whole_steps (λ n. D.addressed w (0x2400 + n)))) (set_words s) ∙ refl;
    }

-- 0x2421 = 0x8000: alpha 0 is -2 ^ 15 / 2 ^ 30, and by the datasheet 2 ^ 15 / 2 ^ 30
pub alpha-differs : Differs ((0x2421 ≔ 0x8000) ∷ []) (λ d w. alpha_at w 0) (λ EE. float (D.alpha EE 0)) (dyadic (negsuc 32767) 30) (dyadic (pos 32768) 30)
unfolding words_set walk table_steps steps_from pixel_steps term_steps first_outside row_sum column_sum whole_sum kta_sum in16 record_of D.alpha
alpha-differs =
    let s = (0x2421 ≔ 0x8000) ∷ [] in
    record {
      accepted = ap verdict_of (decoded-set s) ∙ refl;
      answered = ap (λ (w : ℕ → ℕ). alpha_at w 0) (set_words s) ∙ refl;
      formula = ap (λ (w : ℕ → ℕ). float (D.alpha (D.addressed w) 0)) (set_words s) ∙ refl;
    }

-- zeros: no gradient, and by the datasheet a gradient of zero
pub gradient-differs : Differs [] (λ d w. (known d).temperature_gradient_coefficient) D.tgc None (pos 0 /2^ 5)
unfolding words_set walk table_steps steps_from pixel_steps term_steps first_outside row_sum column_sum whole_sum kta_sum in16 record_of gradient_of D.tgc
gradient-differs = record {
  accepted = ap verdict_of (decoded-set []) ∙ refl;
  answered = ap (λ (d : Result Record Refusal). (known d).temperature_gradient_coefficient) (decoded-set []) ∙ refl;
  formula = ap (λ (w : ℕ → ℕ). D.tgc (D.addressed w)) (set_words []) ∙ refl;
}

-- zeros: the first of the six is -0.0, and the datasheet's correction of pixel 0 is zero
pub six-differs : Differs [] (λ d w. get_or (known d).interleave_correction_pixels 0 nan) (λ EE. float (D.correction EE 0)) minus_zero plus_zero
unfolding words_set walk table_steps steps_from pixel_steps term_steps first_outside row_sum column_sum whole_sum kta_sum in16 record_of interleave_a interleave_b interleave_c interleave_six neg dyadic D.correction D.il_chess_c2 D.il_chess_c3
six-differs = record {
  accepted = ap verdict_of (decoded-set []) ∙ refl;
  answered = ap (λ (d : Result Record Refusal). get_or (known d).interleave_correction_pixels 0 nan) (decoded-set []) ∙ refl;
  formula = ap (λ (w : ℕ → ℕ). float (D.correction (D.addressed w) 0)) (set_words []) ∙ refl;
}
