-- What one pixel's entry in a table is made of, by the words that it stands in, and the steps that this gives. proofs/Single.antt shows that they are the walk's.
-- Assumes nothing.
use Rattle.std.specs.Prelude.{ℕ, ◌+◌, ◌-◌, ◌*◌, ◌/◌, ◌%◌, List, [], ◌∷◌, ℤ, pos, ◌+ℤ◌}
use Rattle.refusal.specs.declared.Table.{Table}
use Rattle.refusal.specs.declared.Table.TheVariants.{Offset, Alpha, Kta}
use Rattle.util.specs.Words.{field, signed_field}
use Rattle.util.specs.Sums.{term_of}
use Rattle.util.specs.Pixels.{row, column, chessboard}
use Rattle.steps.specs.Steps.{Step, term, sum}
use Rattle.walk.specs.declared.PixelTerms.{PixelTerms}

-- the term of nibble k in the word x, whose scale stands from bit low of scales up
abbrev pub nibble_term : ℕ → ℕ → ℕ → ℕ → ℤ
nibble_term x k scales low = term_of (signed_field x (4 * (k % 4)) 4) (field scales low 4)

-- the term of a pixel's own remainder: width bits of its word from bit low up
abbrev pub own_term : ℕ → ℕ → ℕ → ℕ → ℤ
own_term own low width scales = term_of (signed_field own low width) (field scales 0 4)

-- a table's terms with their sum, average first
abbrev pub summed : ℤ → ℤ → ℤ → ℤ → PixelTerms
summed average row column own = record { row = row; column = column; own = own; sum = average +ℤ row +ℤ column +ℤ own }

-- in offset or alpha, from the words of the scales, the average, the row, the column and the pixel, in which the remainder starts at bit low
abbrev pub shared_from : ℕ → ℕ → ℕ → ℕ → ℕ → ℕ → ℕ → PixelTerms
shared_from scales average rows columns own low p =
    summed (signed_field average 0 16) (nibble_term rows (row p) scales 8) (nibble_term columns (column p) scales 4) (own_term own low 6 scales)

-- in Kta, which has no row and no column, from the words of the average, the scales and the pixel
abbrev pub kta_from : ℕ → ℕ → ℕ → ℕ → PixelTerms
kta_from average scales own p =
    record { row = pos 0; column = pos 0; own = own_term own 1 3 scales; sum = signed_field average (8 * (1 - chessboard p % 2)) 8 +ℤ own_term own 1 3 scales }

-- from all words: offset's start at 0x10 and alpha's at 0x20
abbrev pub shared_terms : (ℕ → ℕ) → ℕ → ℕ → ℕ → PixelTerms
shared_terms w base low p = shared_from (w base) (w (base + 1)) (w (base + 2 + row p / 4)) (w (base + 8 + column p / 4)) (w (0x40 + p)) low p

abbrev pub kta_terms : (ℕ → ℕ) → ℕ → PixelTerms
kta_terms w p = kta_from (w (0x36 + chessboard p / 2)) (w 0x38) (w (0x40 + p)) p

abbrev pub terms_in : (ℕ → ℕ) → Table → ℕ → PixelTerms
terms_in w Offset p = shared_terms w 0x10 10 p
terms_in w Alpha p = shared_terms w 0x20 4 p
terms_in w Kta p = kta_terms w p

abbrev pub steps_for : Table → ℕ → PixelTerms → List Step
steps_for Offset p t = term Offset p t.row ∷ term Offset p t.column ∷ term Offset p t.own ∷ sum Offset p t.sum ∷ []
steps_for Alpha p t = term Alpha p t.row ∷ term Alpha p t.column ∷ term Alpha p t.own ∷ []
steps_for Kta p t = term Kta p t.own ∷ sum Kta p t.sum ∷ []
