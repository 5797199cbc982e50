-- The walk of the MLX90640: in each pixel every scaled term first, and then, for offset and Kta, the final sum. Alpha has no sum to test: its numerator is exact in f32.
-- Assumes nothing.
use Rattle.std.specs.Prelude.{ℕ, ◌/◌, ◌%◌, List, [], ◌∷◌, ◌++◌}
use Rattle.refusal.specs.declared.Table.{Table}
use Rattle.refusal.specs.declared.Table.TheVariants.{Offset, Alpha, Kta}
use Rattle.steps.specs.Steps.{Step, term, sum, steps_from}
use Rattle.walk.specs.Parts.{row_term, column_term, remainder_term, whole_sum, kta_term, kta_sum}

-- row term, column term, remainder term
unfoldable pub term_steps : (ℕ → ℕ) → Table → ℕ → ℕ → ℕ → List Step
term_steps w t base low p =
    term t p (row_term w base (p / 32))
    ∷ term t p (column_term w base (p % 32))
    ∷ term t p (remainder_term w base low p)
    ∷ []

-- the steps of one pixel: offset has its terms and its sum, alpha its terms, and Kta its remainder term and its sum
unfoldable pub pixel_steps : (ℕ → ℕ) → Table → ℕ → List Step
pixel_steps w Offset p = term_steps w Offset 0x10 10 p ++ (sum Offset p (whole_sum w 0x10 10 p) ∷ [])
pixel_steps w Alpha p = term_steps w Alpha 0x20 4 p
pixel_steps w Kta p = term Kta p (kta_term w p) ∷ sum Kta p (kta_sum w p) ∷ []

unfoldable pub table_steps : (ℕ → ℕ) → Table → List Step
table_steps w t = steps_from (pixel_steps w t) 768 0

-- offset table, then alpha, then Kta
unfoldable pub walk : (ℕ → ℕ) → List Step
walk w = table_steps w Offset ++ (table_steps w Alpha ++ table_steps w Kta)
