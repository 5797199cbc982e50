-- Lists of floats that can be written bit by bit.
-- Assumes nothing.
use Rattle.std.specs.Prelude.{ℕ, ◌<◌, not, List, T, Float, length, get_or}
use Rattle.std.specs.Float.{nan}
use Rattle.std.specs.Float.Ieee.{is_nan}

-- no number of the list is a NaN
abbrev pub NoNan : List Float → Type 0
NoNan s = (i : ℕ) → i < length s → T (not (is_nan (get_or s i nan)))
