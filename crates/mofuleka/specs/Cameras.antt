-- What the questions about the camera answer. Refusal 14 comes first, for the pattern and then for the subpage.
-- Assumes nothing.
use Rattle.std.specs.Prelude.{ℕ, ◌+◌, ◌*◌, cond, Result}
use Rattle.std.specs.Float.{binary32}
use Rattle.std.specs.Float.Ieee.{to_bits}
use Rattle.refusal.specs.Code.{and_then, answer_map}
use Rattle.refusal.specs.declared.Refusal.{Refusal}
use Rattle.camera.specs.Addresses.{compensation_pixel}
use Rattle.camera.specs.Masks.{mask_answer}
use Rattle.camera.specs.Ranges.{range_count, range_answer}
use Rattle.camera.specs.Resolution.{resolution_answer}
use Rattle.camera.specs.Selectors.{pattern_from, subpage_from}
use Rattle.camera.specs.declared.AccessPattern.{AccessPattern}
use Rattle.camera.specs.declared.PixelAddressRange.{PixelAddressRange}
use Rattle.camera.specs.declared.Subpage.{Subpage}
use Rattle.mofuleka.specs.Answers.{valued, word_from}

-- a question of a pattern and a subpage, by their numbers
abbrev pub of_both : {A : Type 0} → ℕ → ℕ → (AccessPattern → Subpage → Result A Refusal) → Result A Refusal
of_both pattern subpage ask = and_then (pattern_from pattern) (λ p. and_then (subpage_from subpage) (λ s. ask p s))

-- 1 where the pixel is in the subpage, else 0
abbrev pub mask_word : ℕ → ℕ → ℕ → Result ℕ Refusal
mask_word pattern subpage pixel = of_both pattern subpage (λ p s. answer_map (λ held. valued (cond held 1 0)) (mask_answer p s pixel))

abbrev pub pixel_in_subpage_answer : ℕ → ℕ → ℕ → ℕ
pixel_in_subpage_answer pattern subpage pixel = word_from (mask_word pattern subpage pixel)

abbrev pub range_count_word : ℕ → Result ℕ Refusal
range_count_word pattern = answer_map (λ p. valued (range_count p)) (pattern_from pattern)

abbrev pub pixel_range_count_answer : ℕ → ℕ
pixel_range_count_answer pattern = word_from (range_count_word pattern)

-- address x 2^32 + offset x 2^16 + length
abbrev pub range_value : PixelAddressRange → ℕ
range_value g = g.start_address.0 * 0x1_0000_0000 + g.buffer_offset.0 * 0x1_0000 + g.length

abbrev pub range_word : ℕ → ℕ → ℕ → Result ℕ Refusal
range_word pattern subpage number = of_both pattern subpage (λ p s. answer_map (λ g. valued (range_value g)) (range_answer p s number))

abbrev pub pixel_range_answer : ℕ → ℕ → ℕ → ℕ
pixel_range_answer pattern subpage number = word_from (range_word pattern subpage number)

abbrev pub compensation_word : ℕ → Result ℕ Refusal
compensation_word subpage = answer_map (λ s. valued (compensation_pixel s).0) (subpage_from subpage)

abbrev pub compensation_pixel_answer : ℕ → ℕ
compensation_pixel_answer subpage = word_from (compensation_word subpage)

-- the float's 32 bits
abbrev pub resolution_word : ℕ → ℕ → Result ℕ Refusal
resolution_word calibrated current = answer_map (λ x. valued (to_bits binary32 x)) (resolution_answer calibrated current)

abbrev pub resolution_correction_answer : ℕ → ℕ → ℕ
resolution_correction_answer calibrated current = word_from (resolution_word calibrated current)
