-- The explanation of a number: what its entry is made of, field by field, with each running sum; and, of an image that the decoder refuses, the same of the pixel that the
-- decoder names, up to the number that it refuses. The fields' places are those of the scope's "The image"; proofs/Terms.antt shows that the terms are the walk's.
-- Assumes nothing.
use Rattle.std.specs.Prelude.{ℕ, ◌+◌, ◌-◌, ◌*◌, ◌/◌, ◌%◌, cond, List, [], ◌∷◌, map, leb, ℤ, pos, ◌+ℤ◌, length, Option, None, Some, Result, Ok, Err}
use Rattle.std.specs.Result.{result_and}
use Rattle.refusal.specs.Code.{table_from, code_of, accepted_by, or_else, Verdict, accepted, verdict_of}
use Rattle.refusal.specs.declared.Table.{Table}
use Rattle.refusal.specs.declared.Table.TheVariants.{Offset, Alpha, Kta}
use Rattle.refusal.specs.declared.Refusal.{Refusal}
use Rattle.refusal.specs.declared.Refusal.TheVariants.{TermOutside, SumOutside}
use Rattle.util.specs.Words.{field, signed_field}
use Rattle.util.specs.Sums.{in16, term_of}
use Rattle.util.specs.Pixels.{row, column, chessboard}
use Rattle.steps.specs.Steps.{value_in, first_outside}
use Rattle.walk.specs.Walk.{pixel_steps, walk}
use Rattle.tables.specs.Entries.{offset_at, alpha_at, kta_at}
use Rattle.eeprom.specs.Image.{image_words}
use Rattle.pixel.specs.Answer.{tests_of}
use Rattle.explanation.specs.declared.Part.{Part}
use Rattle.explanation.specs.declared.Parts.{Parts}
use Rattle.explanation.specs.declared.Failure.{Failure}
use Rattle.explanation.specs.declared.Failure.TheVariants.{Row, Column, Remainder, Sum}
use Rattle.explanation.specs.declared.Entry.{Entry}
use Rattle.explanation.specs.declared.Entry.TheVariants.{Whole, Fraction}
use Rattle.explanation.specs.declared.Explanation.{Explanation}

-- ---- a field: width bits of word n from bit low up, and what they come to at a scale
abbrev pub part_at : (ℕ → ℕ) → ℕ → ℕ → ℕ → ℕ → Part
part_at w n low width scale = record {
  address = 0x2400 + n;
  high = low + (width - 1);
  low = low;
  raw = field (w n) low width;
  value = signed_field (w n) low width;
  scale = scale;
  term = term_of (signed_field (w n) low width) scale;
}

abbrev pub blank_part : Part
blank_part = record { address = 0; high = 0; low = 0; raw = 0; value = pos 0; scale = 0; term = pos 0 }

-- ---- what an entry is made of: the average, which has no scale, and the row, the column and the remainder, each after the other
abbrev pub summed : Part → Part → Part → Part → Parts
summed average row column remainder = record {
  average = average;
  row = row;
  after_row = average.term +ℤ row.term;
  column = column;
  after_column = average.term +ℤ row.term +ℤ column.term;
  remainder = remainder;
  numerator = average.term +ℤ row.term +ℤ column.term +ℤ remainder.term;
}

-- offset and alpha have one layout, from word base on; a pixel's remainder stands in its own word from bit low up
unfoldable pub shared_parts : (ℕ → ℕ) → ℕ → ℕ → ℕ → Parts
shared_parts w base low p =
    summed
    (part_at w (base + 1) 0 16 0)
    (part_at w (base + 2 + row p / 4) (4 * (row p % 4)) 4 (field (w base) 8 4))
    (part_at w (base + 8 + column p / 4) (4 * (column p % 4)) 4 (field (w base) 4 4))
    (part_at w (0x40 + p) low 6 (field (w base) 0 4))

-- Kta has no row and no column
unfoldable pub kta_parts : (ℕ → ℕ) → ℕ → Parts
kta_parts w p =
    summed
    (part_at w (0x36 + chessboard p / 2) (8 * (1 - chessboard p % 2)) 8 0)
    blank_part
    blank_part
    (part_at w (0x40 + p) 1 3 (field (w 0x38) 0 4))

abbrev pub parts_in : (ℕ → ℕ) → Table → ℕ → Parts
parts_in w Offset p = shared_parts w 0x10 10 p
parts_in w Alpha p = shared_parts w 0x20 4 p
parts_in w Kta p = kta_parts w p

-- the entry is the numerator over 2 to the power of this
abbrev pub exponent_in : (ℕ → ℕ) → Table → ℕ
exponent_in w Offset = 0
exponent_in w Alpha = field (w 0x20) 12 4 + 30
exponent_in w Kta = field (w 0x38) 4 4 + 8

-- the entry itself, as the decoder's tables hold it
abbrev pub entry_in : (ℕ → ℕ) → Table → ℕ → Entry
entry_in w Offset p = Whole (offset_at w p)
entry_in w Alpha p = Fraction (alpha_at w p)
entry_in w Kta p = Fraction (kta_at w p)

-- ---- what fails: the first of the pixel's steps, as the walk has them, that is outside 16 bits, by name
abbrev pub step_names : Table → List Failure
step_names Offset = Row ∷ Column ∷ Remainder ∷ Sum ∷ []
step_names Alpha = Row ∷ Column ∷ Remainder ∷ []
step_names Kta = Remainder ∷ Sum ∷ []

unfoldable pub first_named : List Failure → List ℤ → Option Failure
first_named [] values = None
first_named (name ∷ names) [] = None
first_named (name ∷ names) (z ∷ values) = cond (in16 z) (first_named names values) (Some name)

abbrev pub failure_in : (ℕ → ℕ) → Table → ℕ → Option Failure
failure_in w t p = first_named (step_names t) (map value_in (pixel_steps w t p))

-- the refusal that a failure is, of pixel p of table t; the number that it is about, and the part
abbrev pub refusal_for : Option Failure → Table → ℕ → Verdict
refusal_for None t p = accepted
refusal_for (Some Row) t p = Err (TermOutside t p)
refusal_for (Some Column) t p = Err (TermOutside t p)
refusal_for (Some Remainder) t p = Err (TermOutside t p)
refusal_for (Some Sum) t p = Err (SumOutside t p)

abbrev pub part_of : Option Failure → Parts → Part
part_of None x = blank_part
part_of (Some Row) x = x.row
part_of (Some Column) x = x.column
part_of (Some Remainder) x = x.remainder
part_of (Some Sum) x = blank_part

abbrev pub number_of : Option Failure → Parts → ℤ
number_of None x = pos 0
number_of (Some Row) x = x.row.term
number_of (Some Column) x = x.column.term
number_of (Some Remainder) x = x.remainder.term
number_of (Some Sum) x = x.numerator

-- ---- the numbers up to there: how far the walk comes, and what is kept of the parts
abbrev pub reached : Option Failure → ℕ
reached (Some Row) = 0
reached (Some Column) = 1
reached (Some Remainder) = 2
reached (Some Sum) = 3
reached None = 4

abbrev pub up_to : {A : Type 0} → ℕ → Option Failure → A → A → A
up_to k f x blank = cond (leb k (reached f)) x blank

unfoldable pub cut_parts : Option Failure → Parts → Parts
cut_parts f x = record {
  average = x.average;
  row = x.row;
  after_row = up_to 1 f x.after_row (pos 0);
  column = up_to 1 f x.column blank_part;
  after_column = up_to 2 f x.after_column (pos 0);
  remainder = up_to 2 f x.remainder blank_part;
  numerator = up_to 3 f x.numerator (pos 0);
}

-- pixel p of table t, where the decoder answers r
abbrev pub described : Verdict → (ℕ → ℕ) → Table → ℕ → Explanation
described r w t p = record {
  found = r;
  table = t;
  pixel = p;
  failure = failure_in w t p;
  parts = cut_parts (failure_in w t p) (parts_in w t p);
  exponent = up_to 4 (failure_in w t p) (exponent_in w t) 0;
  entry = up_to 4 (failure_in w t p) (Some (entry_in w t p)) None;
}

-- ---- the answer: of the table and the pixel that were asked for or, where the decoder refuses, of those that it names. It refuses terms and sums alone: the last line is of no image
abbrev pub table_in : Verdict → Table → Table
table_in (Ok done) asked = asked
table_in (Err (TermOutside t pixel)) asked = t
table_in (Err (SumOutside t pixel)) asked = t
table_in (Err r) asked = Offset

abbrev pub pixel_in : Verdict → ℕ → ℕ
pixel_in r asked = cond (accepted_by r) asked (code_of r).place

abbrev pub explained : (ℕ → ℕ) → Table → ℕ → Explanation
explained w t p = described (first_outside (walk w)) w (table_in (first_outside (walk w)) t) (pixel_in (first_outside (walk w)) p)

-- 15 for a table's number above 2; and the order of the refusals: 1, 11, 15
abbrev pub table_refusal : ℕ → Verdict
table_refusal n = verdict_of (table_from n)

abbrev pub explain_refusal : List ℕ → ℕ → ℕ → Verdict
explain_refusal image n p = or_else (tests_of (length image) p) (table_refusal n)

-- pixel p of the table with a number, where there is one
abbrev pub explained_in : (ℕ → ℕ) → Result Table Refusal → ℕ → Result Explanation Refusal
explained_in w (Ok t) p = Ok (explained w t p)
explained_in w (Err r) p = Err r

unfoldable pub explanation_of : List ℕ → ℕ → ℕ → Result Explanation Refusal
explanation_of image n p = result_and (tests_of (length image) p) (explained_in (image_words image) (table_from n) p)
