-- Which marks are read as which.
-- Assumes nothing.
use Rattle.std.specs.Prelude.{ℕ, Bool, List, eqb, get_or}
use Rattle.gathering.specs.Cells.{cell_of, mark_of}

-- that place w of stored marks is read as the mark of number n
abbrev pub marked_as : ℕ → List ℕ → ℕ → Bool
marked_as n marks w = eqb (mark_of (cell_of 0 (get_or marks w 0))) n
