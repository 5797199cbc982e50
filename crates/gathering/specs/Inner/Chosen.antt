-- What is answered of pixel p from the values and the marks of the words that it needs, in their order.
-- Assumes nothing.
use Rattle.std.specs.Prelude.{ℕ, cond, List, ltb, Result}
use Rattle.std.specs.Result.{result_and}
use Rattle.refusal.specs.Code.{Verdict}
use Rattle.refusal.specs.declared.Refusal.{Refusal}
use Rattle.util.specs.Words.{listed}
use Rattle.util.specs.Lists.{lowest}
use Rattle.pixel.specs.Needed.{needed_by}
use Rattle.pixel.specs.Inner.From.{answer_from}
use Rattle.pixel.specs.declared.PixelEntries.{PixelEntries}
use Rattle.gathering.specs.State.{fault_from}
use Rattle.gathering.specs.Inner.Marks.{marked_as}

-- the word at a place among the eleven, 832 past them
abbrev pub standing_at : List ℕ → ℕ → ℕ
standing_at words k = cond (ltb k 11) (listed words k) 832

-- the first of the words whose mark is read as this one
abbrev pub first_marked : List ℕ → List ℕ → ℕ → ℕ
first_marked words marks mark = standing_at words (lowest 11 (marked_as mark marks))

abbrev pub cells_fault : List ℕ → ℕ → Verdict
cells_fault marks p = fault_from (first_marked (needed_by p) marks 2) (first_marked (needed_by p) marks 0)

abbrev pub cells_told : Verdict → List ℕ → ℕ → Result PixelEntries Refusal
cells_told fault values p = result_and fault (answer_from values p)

abbrev pub cells_answer : List ℕ → List ℕ → ℕ → Result PixelEntries Refusal
cells_answer values marks p = cells_told (cells_fault marks p) values p
