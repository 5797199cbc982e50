-- The page rule: an input of exactly 2,048 bytes, the fixed page that older head firmware sends, stands for its first 1,664; an input of any other length stands for itself.
-- Assumes nothing.
use Rattle.std.specs.Prelude.{ℕ, cond, List, eqb, length, take}

-- how many bytes at the front of an input of n bytes are its image
abbrev pub image_length : ℕ → ℕ
image_length n = cond (eqb n 2048) 1664 n

-- the image that an input stands for
unfoldable pub image_in : List ℕ → List ℕ
image_in input = take (image_length (length input)) input
