-- Each answer of the table is as the scope has it: the words of an image's bytes are those that were set, and over them the definitions compute to the answer.
-- Assumes nothing.
use Prim.Native.Nat.{ℕ, ◌*◌}
use mathlib.Core.Path.{◌≡◌, refl, ap, ap₂, ◌∙◌}
use mathlib.Core.Bool.{Bool, true, false, cond}
use mathlib.Core.List.{List, [], ◌∷◌, map}
use borrow.Author.Tests.{ltb-true}
use lib.Dec.{leb, ltb}
use lib.IntN.{ℤ}
use lib.Ieee.{neg, to_bits}
use lib.ListN.{length}
use Rattle.std.specs.Prelude.{Result}
use Rattle.exact.specs.Dyadic.{dyadic}
use Rattle.refusal.specs.declared.Refusal.{Refusal}
use Rattle.util.specs.Words.{word_at}
use Rattle.util.specs.Sums.{in16}
use Rattle.util.specs.Bytes.{bytes_of}
use Rattle.record.specs.declared.Record.{Record}
use Rattle.record.specs.Fields.{record_of, blank_record, k_v_dd_field, v_dd_25_field, corners, gradient_of, interleave_a, interleave_b, interleave_c, interleave_six, interleave_cp}
use Rattle.walk.specs.Parts.{row_sum, column_sum, whole_sum, kta_sum}
use Rattle.steps.specs.Steps.{steps_from, first_outside}
use Rattle.walk.specs.Walk.{term_steps, pixel_steps, table_steps, walk}
use Rattle.util.specs.Lists.{tab}
use Rattle.util.proofs.Filled.{tab-at, tab-length}
use Rattle.eeprom.specs.Image.{image_words}
use Rattle.eeprom.specs.Decoding.{refusal_of, answered, decoded_of}
use Rattle.util.proofs.Bytes.{word-of-bytes, length-bytes}
use Rattle.acceptance.specs.Readings.{Set, Question, zeros, image, block, words_set, image_of, decoded, asked, told, answer, readings}

-- the words that count of an image that is zero but for these
abbrev counted : List Set → ℕ → ℕ
counted s n = cond (leb 16 n) (cond (ltb n 832) (words_set s n) 0) 0

set_word : (s : List Set) (n : ℕ) → image_words (image_of s) n ≡ counted s n
unfolding image_words image_of
set_word s n = ap (λ (x : ℕ). cond (leb 16 n) x 0) (go (ltb n 832) refl)
  where
    go : (b : Bool) → ltb n 832 ≡ b → cond b (word_at (bytes_of (tab (words_set s) 832)) n) 0 ≡ cond b (words_set s n) 0
    go true e = word-of-bytes (tab (words_set s) 832) n ∙ tab-at (words_set s) 832 n 0 (ltb-true n 832 e)
    go false e = refl

pub set_words : (s : List Set) → image_words (image_of s) ≡ counted s
set_words s = λ i n. set_word s n i

pub image-length : (s : List Set) → length (image_of s) ≡ 1664
unfolding image_of
image-length s = length-bytes (tab (words_set s) 832) ∙ ap (λ (n : ℕ). 2 * n) (tab-length (words_set s) 832)

-- so the decoder's answer is the walk's over them
abbrev walked : (ℕ → ℕ) → Result Record Refusal
walked w = answered (first_outside (walk w)) w

pub decoded-set : (s : List Set) → decoded (image_of s) ≡ walked (counted s)
unfolding decoded_of refusal_of
decoded-set s = rw (image-length s, set_words s)

by-words : Question → List ℤ
by-words (zeros n) = answer (zeros n)
by-words (image s a) = told (walked (counted s)) (counted s) a
by-words (block b) = answer (block b)

same : (q : Question) → answer q ≡ by-words q
unfolding answer by-words
same (zeros n) = refl
same (image s a) = ap₂ (λ (d : Result Record Refusal) (w : ℕ → ℕ). told d w a) (decoded-set s) (set_words s)
same (block b) = refl

map_same : {A B : Type 0} (f g : A → B) → ((x : A) → f x ≡ g x) → (l : List A) → map f l ≡ map g l
map_same f g e [] = refl
map_same f g e (x ∷ l) = ap₂ ◌∷◌ (e x) (map_same f g e l)

pub marked-readings : map (λ r. answer r.question) readings ≡ map (λ r. r.expected) readings
unfolding readings answer by-words asked words_set refusal_of decoded_of image_words walk table_steps steps_from pixel_steps term_steps first_outside row_sum column_sum whole_sum kta_sum in16 tab record_of blank_record k_v_dd_field v_dd_25_field corners gradient_of interleave_a interleave_b interleave_c interleave_six interleave_cp dyadic neg to_bits
marked-readings = map_same (λ r. answer r.question) (λ r. by-words r.question) (λ r. same r.question) readings ∙ refl
