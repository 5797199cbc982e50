-- What one pixel is answered: refusal 1, then 11, then 3 or 4 for this pixel's own steps in the order of the walk; and else its three numbers.
-- Assumes nothing.
use Rattle.std.specs.Prelude.{ℕ, cond, List, ◌++◌, eqb, ltb, ℤ, Float, length, Result, Err}
use Rattle.refusal.specs.Code.{Verdict, accepted, or_else, granted}
use Rattle.refusal.specs.declared.Table.TheVariants.{Offset, Alpha, Kta}
use Rattle.refusal.specs.declared.Refusal.{Refusal}
use Rattle.refusal.specs.declared.Refusal.TheVariants.{ImageLength, PastTheEnd}
use Rattle.steps.specs.Steps.{Step, first_outside}
use Rattle.walk.specs.Walk.{pixel_steps}
use Rattle.tables.specs.Entries.{offset_at, alpha_at, kta_at}
use Rattle.eeprom.specs.Image.{image_words}
use Rattle.pixel.specs.declared.PixelEntries.{PixelEntries}

-- the steps of pixel p: offset's, alpha's, Kta's; and the refusal of the first outside 16 bits
unfoldable pub pixel_walk : (ℕ → ℕ) → ℕ → List Step
pixel_walk w p = pixel_steps w Offset p ++ (pixel_steps w Alpha p ++ pixel_steps w Kta p)

abbrev pub pixel_fault : (ℕ → ℕ) → ℕ → Verdict
pixel_fault w p = first_outside (pixel_walk w p)

-- 1 for every length of the image but 1,664; 11 past the last pixel; and the two in their order
abbrev pub length_refusal : ℕ → Verdict
length_refusal n = cond (eqb n 1664) accepted (Err ImageLength)

abbrev pub past_refusal : ℕ → Verdict
past_refusal p = cond (ltb p 768) accepted (Err PastTheEnd)

abbrev pub tests_of : ℕ → ℕ → Verdict
tests_of n p = or_else (length_refusal n) (past_refusal p)

abbrev pub pixel_refusal : List ℕ → ℕ → Verdict
pixel_refusal image p = or_else (tests_of (length image) p) (pixel_fault (image_words image) p)

-- three numbers, where a call was accepted; and the answer of pixel p over the words w
abbrev pub answer_with : Verdict → ℤ → Float → Float → Result PixelEntries Refusal
answer_with r offset alpha kta = granted r (record { offset = offset; alpha = alpha; k_ta = kta })

unfoldable pub answered : Verdict → (ℕ → ℕ) → ℕ → Result PixelEntries Refusal
answered r w p = answer_with r (offset_at w p) (alpha_at w p) (kta_at w p)

abbrev pub pixel_of : List ℕ → ℕ → Result PixelEntries Refusal
pixel_of image p = answered (pixel_refusal image p) (image_words image) p
