-- The words below n are read as their bytes lie; then those below the place are swapped, and the others as they lie.
use Rattle.std.proofs.Common.{◌≡◌, ℕ, ◌+◌, ◌*◌, ◌++◌, List, cond, drop, get_or, replicate}
use Rattle.std.specs.Prelude.{leb}
use Rattle.util.specs.Lists.{tab}
use Rattle.eeprom.specs.Image.{image_words}
use Rattle.eeprom.proofs.read_words.Given as goal

-- word n with its bytes as they lie, the lower first, and zero where it is ignored
abbrev pub lying_at : List ℕ → ℕ → ℕ
lying_at image n = cond (leb 16 n) (get_or image (2 * n) 0 + get_or image (2 * n + 1) 0 * 256) 0

abbrev pub invariant-loop-n : goal.invariant-loop-n
invariant-loop-n l = l.words ≡ tab (lying_at l.image) l.n ++ drop l.n (replicate 832 0)

abbrev pub invariant-loop-word : goal.invariant-loop-word
invariant-loop-word l = l.word-items ≡ tab (image_words l.image) l.word-index ++ drop l.word-index (tab (lying_at l.image) 832)
