-- An explanation's bytes, `explanation_size` of them: what the decoder answers, which pixel is explained and what fails in it, then its fields and running sums in their order, and the
-- entry. docs/INTERFACE.md has the table of their places.
-- Assumes nothing.
use Rattle.std.specs.Prelude.{ℕ, List, [], ◌∷◌, ◌++◌, ℤ, pos, Option, None, Some}
use Rattle.util.specs.Bytes.{two, four, i32_bits}
use Rattle.refusal.specs.Code.{table_number, code_of}
use Rattle.explanation.specs.declared.Part.{Part}
use Rattle.explanation.specs.declared.Parts.{Parts}
use Rattle.explanation.specs.declared.Failure.{Failure}
use Rattle.explanation.specs.declared.Failure.TheVariants.{Row, Column, Remainder, Sum}
use Rattle.explanation.specs.declared.Entry.{Entry}
use Rattle.explanation.specs.declared.Entry.TheVariants.{Whole, Fraction}
use Rattle.explanation.specs.declared.Explanation.{Explanation}
use Rattle.layout.specs.Numbers.{short_bytes, float_bytes}

-- a signed number's 32 bits
abbrev pub whole_bytes : ℤ → List ℕ
whole_bytes z = four (i32_bits z)

unfoldable pub part_bytes : Part → List ℕ
part_bytes x = two x.address ++ (x.high ∷ []) ++ (x.low ∷ []) ++ two x.raw ++ short_bytes x.value ++ (x.scale ∷ []) ++ whole_bytes x.term

-- a field, and the running sum after it
unfoldable pub stage_bytes : Part → ℤ → List ℕ
stage_bytes x z = part_bytes x ++ whole_bytes z

unfoldable pub parts_bytes : Parts → List ℕ
parts_bytes x =
    part_bytes x.average
    ++ stage_bytes x.row x.after_row
    ++ stage_bytes x.column x.after_column
    ++ stage_bytes x.remainder x.numerator

abbrev pub failure_number : Option Failure → ℕ
failure_number None = 0
failure_number (Some Row) = 1
failure_number (Some Column) = 2
failure_number (Some Remainder) = 3
failure_number (Some Sum) = 4

-- a whole number has 32 bits, as a fraction has
abbrev pub entry_bytes : Option Entry → List ℕ
entry_bytes None = whole_bytes (pos 0)
entry_bytes (Some (Whole z)) = whole_bytes z
entry_bytes (Some (Fraction x)) = float_bytes x

-- what is explained: the decoder's answer, the table, the pixel, the failure
unfoldable pub heading_bytes : Explanation → List ℕ
heading_bytes e = ((code_of e.found).number ∷ []) ++ (table_number e.table ∷ []) ++ two e.pixel ++ (failure_number e.failure ∷ [])

unfoldable pub explanation_bytes : Explanation → List ℕ
explanation_bytes e = heading_bytes e ++ parts_bytes e.parts ++ (e.exponent ∷ []) ++ entry_bytes e.entry
