-- What the functions that answer for one pixel answer and leave behind: the library's three numbers, laid out in a lent slice. Refusal 2 for a slice that is too short
-- comes after 1 and 11, and before what is found in the words.
-- Assumes nothing.
use Rattle.std.specs.Prelude.{ℕ, List, length}
use Rattle.refusal.specs.Code.{or_else, Verdict}
use Rattle.tables.specs.Entries.{offset_at, alpha_at, kta_at}
use Rattle.eeprom.specs.Image.{image_words}
use Rattle.pixel.specs.Needed.{needed_by}
use Rattle.pixel.specs.Answer.{past_refusal, tests_of, pixel_fault}
use Rattle.pixel.specs.declared.PixelEntries.{PixelEntries}
use Rattle.gathering.specs.Pixels.{fault_among}
use Rattle.layout.specs.Sizes.{pixel_size}
use Rattle.layout.specs.PixelBytes.{pixel_bytes}
use Rattle.mofuleka.specs.Answers.{short_for}
use Rattle.mofuleka.specs.Gatherings.{stored_gathering, stored_words, short_gathering}

-- an answer's bytes; and those of the three numbers over the words w
abbrev pub numbers : PixelEntries → List ℕ
numbers a = pixel_bytes a.offset a.alpha a.k_ta

abbrev pub bytes_at : (ℕ → ℕ) → ℕ → List ℕ
bytes_at w p = pixel_bytes (offset_at w p) (alpha_at w p) (kta_at w p)

-- of an image and a slice of n bytes: 1, 11, 2, then 3 and 4
abbrev pub slice_pixel_refusal : List ℕ → ℕ → ℕ → Verdict
slice_pixel_refusal image p n =
    or_else (tests_of (length image) p) (or_else (short_for pixel_size n) (pixel_fault (image_words image) p))

-- what is found in the words of a stored gathering: 9 and 10 among those that the pixel needs, then 3 and 4
abbrev pub stored_fault : List ℕ → ℕ → Verdict
stored_fault s p = or_else (fault_among (stored_gathering s) (needed_by p)) (pixel_fault (stored_words s) p)

-- of a gathering and such a slice: 11, 2 for either, then that
abbrev pub stored_pixel_refusal : List ℕ → ℕ → ℕ → Verdict
stored_pixel_refusal s p n = or_else (or_else (past_refusal p) (short_gathering s)) (or_else (short_for pixel_size n) (stored_fault s p))
