-- The widths that a field is asked for with.
-- Assumes nothing.
use Rattle.std.specs.Prelude.{ℕ, min, max}

-- a width from 1 to 16: 0 counts as 1, and more than 16 as 16
abbrev pub clip : ℕ → ℕ
clip width = max 1 (min width 16)
