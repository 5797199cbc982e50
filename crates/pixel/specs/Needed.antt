-- The words that a pixel's offset, alpha and Kta need, by their numbers, rising. Four rows and four columns share a word; so do two of the Kta averages.
-- Assumes nothing.
use Rattle.std.specs.Prelude.{ℕ, ◌+◌, ◌/◌, Bool, false, ◌||◌, List, [], ◌∷◌, eqb}
use Rattle.util.specs.Pixels.{row, column, chessboard}

-- scales, average, row and column of offset; the same of alpha; Kta's average, Kta's scales; the pixel's own
unfoldable pub needed_by : ℕ → List ℕ
needed_by p =
    0x10 ∷ 0x11 ∷ (0x12 + row p / 4) ∷ (0x18 + column p / 4)
    ∷ 0x20 ∷ 0x21 ∷ (0x22 + row p / 4) ∷ (0x28 + column p / 4)
    ∷ (0x36 + chessboard p / 2) ∷ 0x38 ∷ (0x40 + p) ∷ []

-- whether n is one of a list; and one of those words
unfoldable pub among : List ℕ → ℕ → Bool
among [] n = false
among (m ∷ rest) n = eqb m n || among rest n

abbrev pub needs : ℕ → ℕ → Bool
needs p n = among (needed_by p) n
