-- What the questions over a record's bytes answer: what the library answers of the record that stands in them. Refusal 14 comes first, then the library's own, then 2
-- for a slice too short for a record.
-- Assumes nothing.
use Rattle.std.specs.Prelude.{ℕ, cond, List, ltb, length, Option, Some, None, Result, Ok, Float}
use Rattle.std.specs.Float.{binary32}
use Rattle.std.specs.Float.Ieee.{to_bits}
use Rattle.refusal.specs.Code.{and_then, answer_map}
use Rattle.refusal.specs.declared.Refusal.{Refusal}
use Rattle.util.specs.Bytes.{i16_bits}
use Rattle.camera.specs.Selectors.{pattern_from, subpage_from}
use Rattle.record.specs.Fields.{blank_record}
use Rattle.record.specs.Questions.{k_v_answer, correction_answer, correction_cp, alpha_cp_of, offset_reference_cp_of}
use Rattle.record.specs.declared.Record.{Record}
use Rattle.layout.specs.Sizes.{record_size}
use Rattle.layout.specs.RecordBytes.{record_in}
use Rattle.mofuleka.specs.Answers.{beside, valued, slice_answer}
use Rattle.mofuleka.specs.Cameras.{of_both}

-- the record in a slice, a blank one where the slice is too short for one
abbrev pub stored_record : List ℕ → Record
stored_record s = cond (ltb (length s) record_size) blank_record (record_in s)

-- a float is given as its 32 bits, a signed number as its 16
abbrev pub k_v_word : Record → ℕ → Result ℕ Refusal
k_v_word r pixel = answer_map (λ x. valued (to_bits binary32 x)) (k_v_answer r pixel)

abbrev pub k_v_pixel_answer : List ℕ → ℕ → ℕ
k_v_pixel_answer s pixel = slice_answer (k_v_word (stored_record s) pixel) (length s) record_size

-- whether there is a correction, 1 or 0, beside which it is, 0 where there is none
abbrev pub correction_word : Option Float → ℕ
correction_word None = beside 0 0
correction_word (Some x) = beside 1 (to_bits binary32 x)

abbrev pub pixel_correction_word : Record → ℕ → ℕ → Result ℕ Refusal
pixel_correction_word r pattern pixel = and_then (pattern_from pattern) (λ p. answer_map correction_word (correction_answer r p pixel))

abbrev pub interleave_correction_pixel_answer : List ℕ → ℕ → ℕ → ℕ
interleave_correction_pixel_answer s pattern pixel = slice_answer (pixel_correction_word (stored_record s) pattern pixel) (length s) record_size

abbrev pub cp_correction_word : Record → ℕ → ℕ → Result ℕ Refusal
cp_correction_word r pattern subpage = of_both pattern subpage (λ p s. Ok (correction_word (correction_cp r p s)))

abbrev pub interleave_correction_cp_answer : List ℕ → ℕ → ℕ → ℕ
interleave_correction_cp_answer s pattern subpage = slice_answer (cp_correction_word (stored_record s) pattern subpage) (length s) record_size

-- the two of the compensation pixel
abbrev pub alpha_cp_word : Record → ℕ → Result ℕ Refusal
alpha_cp_word r subpage = answer_map (λ s. valued (to_bits binary32 (alpha_cp_of r s))) (subpage_from subpage)

abbrev pub alpha_cp_answer : List ℕ → ℕ → ℕ
alpha_cp_answer s subpage = slice_answer (alpha_cp_word (stored_record s) subpage) (length s) record_size

abbrev pub offset_cp_word : Record → ℕ → Result ℕ Refusal
offset_cp_word r subpage = answer_map (λ s. valued (i16_bits (offset_reference_cp_of r s))) (subpage_from subpage)

abbrev pub offset_reference_cp_answer : List ℕ → ℕ → ℕ
offset_reference_cp_answer s subpage = slice_answer (offset_cp_word (stored_record s) subpage) (length s) record_size
