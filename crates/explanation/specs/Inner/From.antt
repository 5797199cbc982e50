-- What fails in a table, and its entry, from the parts. proofs/From.antt shows that they are what the walk's steps and the tables give.
-- Assumes nothing.
use Rattle.std.specs.Prelude.{ℕ, [], ◌∷◌, ℤ, pos, Option}
use Rattle.exact.specs.Dyadic.{dyadic}
use Rattle.refusal.specs.declared.Table.{Table}
use Rattle.refusal.specs.declared.Table.TheVariants.{Offset, Alpha, Kta}
use Rattle.explanation.specs.declared.Parts.{Parts}
use Rattle.explanation.specs.declared.Failure.{Failure}
use Rattle.explanation.specs.declared.Entry.{Entry}
use Rattle.explanation.specs.declared.Entry.TheVariants.{Whole, Fraction}
use Rattle.explanation.specs.Explanation.{step_names, first_named}

-- 0 stands for what a table doesn't have: alpha a sum to test, Kta a row and a column
abbrev pub tested_sum : Table → ℤ → ℤ
tested_sum Offset z = z
tested_sum Alpha z = pos 0
tested_sum Kta z = z

abbrev pub failure_from : Table → Parts → Option Failure
failure_from t x = first_named (step_names Offset) (x.row.term ∷ x.column.term ∷ x.remainder.term ∷ tested_sum t x.numerator ∷ [])

abbrev pub entry_from : Table → ℤ → ℕ → Entry
entry_from Offset z k = Whole z
entry_from Alpha z k = Fraction (dyadic z k)
entry_from Kta z k = Fraction (dyadic z k)
