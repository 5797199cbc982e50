-- What decoding an image into four lent slices answers and leaves behind.
-- Assumes nothing.
use Rattle.std.specs.Prelude.{ℕ, Bool, cond, ◌||◌, List, ◌++◌, ltb, length, drop}
use Rattle.refusal.specs.Code.{Verdict}
use Rattle.util.specs.Lists.{tab}
use Rattle.tables.specs.Entries.{offset_at, alpha_at, kta_at}
use Rattle.eeprom.specs.Decoding.{decoder_refusal}
use Rattle.layout.specs.Sizes.{offset_table_size, alpha_table_size, kta_table_size, record_size}
use Rattle.layout.specs.Numbers.{shorts_bytes, floats_bytes}

-- that one of the four slices has too few bytes for its layout
abbrev pub too_short : ℕ → ℕ → ℕ → ℕ → Bool
too_short offset alpha kta rec = ltb offset offset_table_size || ltb alpha alpha_table_size || ltb kta kta_table_size || ltb rec record_size

-- the decoder's refusal of an image and four such slices
unfoldable pub slices_refusal : List ℕ → List ℕ → List ℕ → List ℕ → List ℕ → Verdict
slices_refusal image offset alpha kta rec = decoder_refusal image (too_short (length offset) (length alpha) (length kta) (length rec))

-- the tables' bytes, over the words of the image
unfoldable pub offset_bytes : (ℕ → ℕ) → List ℕ
offset_bytes w = shorts_bytes (tab (offset_at w) 768)

unfoldable pub alpha_bytes : (ℕ → ℕ) → List ℕ
alpha_bytes w = floats_bytes (tab (alpha_at w) 768)

unfoldable pub kta_bytes : (ℕ → ℕ) → List ℕ
kta_bytes w = floats_bytes (tab (kta_at w) 768)

-- what a lent slice holds afterwards: where the call was accepted what is new at its front and its own past that, else what it held before
abbrev pub lent_after : {A : Type 0} → Bool → List A → List A → List A
lent_after done new before = cond done (new ++ drop (length new) before) before
