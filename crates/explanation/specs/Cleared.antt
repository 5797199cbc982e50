-- An image with one field set to zero, over its bytes: the other bits of that word, and every other word, stay as they are.
-- Assumes nothing.
use Rattle.std.specs.Prelude.{ℕ, ◌+◌, ◌-◌, ◌*◌, ◌/◌, ◌%◌, ◌^◌, List}
use Rattle.std.proofs.lemmas.List.Edits.{sets}
use Rattle.util.specs.Bytes.{two}
use Rattle.util.specs.Words.{word_at}
use Rattle.explanation.specs.declared.Part.{Part}

-- x with its bits high..low zero: what stands above them, and what stands below
abbrev pub cleared_word : ℕ → ℕ → ℕ → ℕ
cleared_word x high low = x / 2 ^ (high + 1) * 2 ^ (high + 1) + x % 2 ^ low

abbrev pub cleared : List ℕ → Part → List ℕ
cleared image part =
    let n = part.address - 0x2400 in
    sets image (2 * n) (two (cleared_word (word_at image n) part.high part.low))
