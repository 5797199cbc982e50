-- The readings that the scope marks P, and 1,665 bytes by request i, in one table: what is asked, and what the answer must be. Addresses are 0x2400 plus the word's number.
-- An image is its bytes, and is decoded into three tables of 768 zeros. An answer begins with the refusal's number, table and place; the numbers asked for
-- follow, f32s as their 32 bits.
-- Assumes nothing.
use Rattle.std.specs.Prelude.{ℕ, ◌-◌, cond, List, [], ◌∷◌, ◌++◌, map, eqb, ℤ, pos, negsuc, Float, replicate, take, Option, Some, None, Result}
use Rattle.std.specs.Result.{result_unwrap_or}
use Rattle.std.specs.Float.{binary32}
use Rattle.std.specs.Float.Ieee.{to_bits}
use Rattle.exact.specs.Dyadic.{plus_zero}
use Rattle.refusal.specs.Code.{code_of, Verdict, verdict_of}
use Rattle.util.specs.Bytes.{bytes_of}
use Rattle.refusal.specs.declared.Refusal.{Refusal}
use Rattle.record.specs.Fields.{blank_record}
use Rattle.record.specs.declared.Record.{Record}
use Rattle.util.specs.Lists.{tab}
use Rattle.tables.specs.Entries.{offset_at, alpha_at, kta_at}
use Rattle.eeprom.specs.Image.{image_words}
use Rattle.eeprom.specs.Decoding.{decoded_of, table_after}
use Rattle.gathering.specs.Cells.{value_of, mark_of}
use Rattle.gathering.specs.State.{fresh_state, with_block, cell_at}

-- word `word` of an image set to `value`
pub record Set : Type 0 where
  pub word : ℕ
  pub value : ℕ

infix 5 ◌≔◌
abbrev pub ◌≔◌ : ℕ → ℕ → Set
◌≔◌ a v = record { word = a - 0x2400; value = v }

-- what is asked of an image
pub data Asked : Type 0 where
  refusal supply offset_row_0 offset_0 alpha_0 kta_0 gradient interleave corners : Asked

pub data Question : Type 0 where
  -- an image of so many zero bytes
  zeros : ℕ → Question
  -- an image that is zero but for these words
  image : List Set → Asked → Question
  -- a block that is handed to a fresh gathering; word 831 is asked for
  block : List ℕ → Question

-- the words of an image that is zero but for these, and its bytes
unfoldable pub words_set : List Set → ℕ → ℕ
words_set [] n = 0
words_set (s ∷ rest) n = cond (eqb n s.word) s.value (words_set rest n)

unfoldable pub image_of : List Set → List ℕ
image_of s = bytes_of (tab (words_set s) 832)

-- what the decoder answers to an image, and what it leaves in the three tables
abbrev pub decoded : List ℕ → Result Record Refusal
decoded bytes = decoded_of bytes 768 768 768

pub record Left : Type 0 where
  pub offset : List ℤ
  pub alpha : List Float
  pub kta : List Float

abbrev pub left : Result Record Refusal → (ℕ → ℕ) → Left
left d w = record {
  offset = table_after (verdict_of d) (offset_at w) (replicate 768 (pos 0));
  alpha = table_after (verdict_of d) (alpha_at w) (replicate 768 plus_zero);
  kta = table_after (verdict_of d) (kta_at w) (replicate 768 plus_zero);
}

abbrev pub coded : Verdict → List ℤ
coded r = pos (code_of r).number ∷ pos (code_of r).table ∷ pos (code_of r).place ∷ []

abbrev pub bits : Float → ℤ
bits x = pos (to_bits binary32 x)

abbrev pub optional : Option Float → List ℤ
optional None = []
optional (Some x) = bits x ∷ []

unfoldable pub asked : Record → Left → Asked → List ℤ
asked r t refusal = []
asked r t supply = r.k_v_dd ∷ r.v_dd_25 ∷ []
asked r t offset_row_0 = take 32 t.offset
asked r t offset_0 = take 1 t.offset
asked r t alpha_0 = map bits (take 1 t.alpha)
asked r t kta_0 = map bits (take 1 t.kta)
asked r t gradient = optional r.temperature_gradient_coefficient
asked r t interleave = map bits r.interleave_correction_pixels ++ (bits r.interleave_correction_cp ∷ [])
asked r t corners = r.corner_temperatures

-- the whole answer of a decoded image with the words w; beside a refusal a blank record is asked
abbrev pub told : Result Record Refusal → (ℕ → ℕ) → Asked → List ℤ
told d w a = coded (verdict_of d) ++ asked (result_unwrap_or d blank_record) (left d w) a

unfoldable pub answer : Question → List ℤ
answer (zeros n) = told (decoded (replicate n 0)) (image_words (replicate n 0)) refusal
answer (image s a) = told (decoded (image_of s)) (image_words (image_of s)) a
answer (block b) =
    let after = with_block fresh_state b in
    coded after.verdict ++ (pos (mark_of (cell_at after.gathering 831)) ∷ pos (value_of (cell_at after.gathering 831)) ∷ [])

-- a refusal's three numbers; none is 0 0 0
abbrev pub none : List ℤ
none = pos 0 ∷ pos 0 ∷ pos 0 ∷ []

pub record Row : Type 0 where
  pub question : Question
  pub expected : List ℤ

infix 4 ◌⇒◌
abbrev pub ◌⇒◌ : Question → List ℤ → Row
◌⇒◌ q e = record { question = q; expected = e }

unfoldable pub readings : List Row
readings =
    (zeros 1663 ⇒ pos 1 ∷ pos 0 ∷ pos 0 ∷ [])
    ∷ (zeros 1664 ⇒ none)
    ∷ (zeros 1665 ⇒ pos 1 ∷ pos 0 ∷ pos 0 ∷ [])
    ∷ (image ((0x2433 ≔ 0x9D68) ∷ []) supply ⇒ none ++ (negsuc 3167 ∷ negsuc 13055 ∷ []))
    ∷ (image ((0x2410 ≔ 0x0F00) ∷ (0x2412 ≔ 0x000F) ∷ []) offset_row_0 ⇒ none ++ replicate 32 (negsuc 32767))
    ∷ (image ((0x2410 ≔ 0x0F00) ∷ (0x2412 ≔ 0x0001) ∷ []) refusal ⇒ pos 3 ∷ pos 0 ∷ pos 0 ∷ [])
    ∷ (image ((0x2410 ≔ 0x0F00) ∷ (0x2412 ≔ 0x0002) ∷ []) refusal ⇒ pos 3 ∷ pos 0 ∷ pos 0 ∷ [])
    ∷ (image ((0x2411 ≔ 0x7FFF) ∷ (0x2413 ≔ 0x0010) ∷ []) refusal ⇒ pos 4 ∷ pos 0 ∷ pos 160 ∷ [])
    ∷ (image ((0x2410 ≔ 0x4210) ∷ (0x2411 ≔ 0xFFC0) ∷ (0x2412 ≔ 0x000F) ∷ (0x2418 ≔ 0x0007) ∷ (0x2440 ≔ 0xFC0E) ∷ []) offset_0 ⇒ none ++ (negsuc 54 ∷ []))
    ∷ (image ((0x2420 ≔ 0x7000) ∷ (0x2421 ≔ 0x2000) ∷ []) alpha_0 ⇒ none ++ (pos 0x3380_0000 ∷ []))
    ∷ (image ((0x2436 ≔ 0x0500) ∷ (0x2438 ≔ 0x2001) ∷ (0x2440 ≔ 0xFC0E) ∷ []) kta_0 ⇒ none ++ (pos 0x3C40_0000 ∷ []))
    -- -1/32 and -4
    ∷ (image ((0x243C ≔ 0x00FF) ∷ []) gradient ⇒ none ++ (pos 0xBD00_0000 ∷ []))
    ∷ (image ((0x243C ≔ 0x0080) ∷ []) gradient ⇒ none ++ (pos 0xC080_0000 ∷ []))
    -- -0.125, 0.375, -0.625, 0.125, -0.375, 0.625 and 0.0625
    ∷ (image ((0x2435 ≔ 0x0841) ∷ []) interleave
    ⇒ none ++ (pos 0xBE00_0000 ∷ pos 0x3EC0_0000 ∷ pos 0xBF20_0000 ∷ pos 0x3E00_0000 ∷ pos 0xBEC0_0000 ∷ pos 0x3F20_0000 ∷ pos 0x3D80_0000 ∷ []))
    ∷ (image ((0x243F ≔ 0x2363) ∷ []) corners ⇒ none ++ (negsuc 39 ∷ pos 0 ∷ pos 120 ∷ pos 180 ∷ []))
    ∷ (image ((0x243F ≔ 0x0FF0) ∷ []) corners ⇒ none ++ (negsuc 39 ∷ pos 0 ∷ pos 0 ∷ pos 0 ∷ []))
    -- the mark of a held word is 1
    ∷ (block (0x00 ∷ 0x05 ∷ 0x01 ∷ 0x03 ∷ 0x3F ∷ 0xAB ∷ 0xCD ∷ []) ⇒ none ++ (pos 1 ∷ pos 0xABCD ∷ []))
    ∷ (block (0x00 ∷ 0x07 ∷ 0x01 ∷ 0x03 ∷ 0x3F ∷ 0x12 ∷ 0x34 ∷ 0x56 ∷ 0x78 ∷ []) ⇒ pos 8 ∷ pos 0 ∷ pos 0 ∷ pos 0 ∷ pos 0 ∷ [])
    ∷ []
