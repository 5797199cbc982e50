-- An explanation in words: lines that a person reads and a script can. Names, then numbers in decimal, addresses in hexadecimal, a fraction as eight hexadecimal digits of its bits;
-- the sum written out; and, beside a failure, a sentence on what failed, where its bits stand and what would fit. proofs/Fitting.antt shows that exactly that would fit.
-- Assumes nothing.
use Rattle.std.specs.Prelude.{ℕ, suc, ◌-◌, ◌/◌, ◌%◌, ◌^◌, Bool, true, false, cond, not, List, [], ◌∷◌, ◌++◌, map, leb, ℤ, pos, negsuc, Option, None, Some, Result, Ok, Err}
use Rattle.refusal.specs.Code.{code_of, accepted_by}
use Rattle.refusal.specs.declared.Refusal.{Refusal}
use Rattle.refusal.specs.declared.Table.{Table}
use Rattle.refusal.specs.declared.Table.TheVariants.{Offset, Alpha, Kta}
use Rattle.util.specs.Pixels.{row, column}
use Rattle.listing.specs.Text.{ascii, digit, decimal_text, whole_text, float_text}
use Rattle.listing.specs.Listing.{together, refused_line}
use Rattle.explanation.specs.Explanation.{reached}
use Rattle.explanation.specs.declared.Part.{Part}
use Rattle.explanation.specs.declared.Parts.{Parts}
use Rattle.explanation.specs.declared.Failure.{Failure}
use Rattle.explanation.specs.declared.Failure.TheVariants.{Row, Column, Remainder, Sum}
use Rattle.explanation.specs.declared.Entry.{Entry}
use Rattle.explanation.specs.declared.Entry.TheVariants.{Whole, Fraction}
use Rattle.explanation.specs.declared.Explanation.{Explanation}

-- a text, or nothing
abbrev pub when : Bool → List ℕ → List ℕ
when b text = cond b text []

-- ---- words
abbrev pub table_name : Table → List ℕ
table_name Offset = ascii "offset"
table_name Alpha = ascii "alpha"
table_name Kta = ascii "k_ta"

-- whether a table has rows and columns
abbrev pub spread : Table → Bool
spread Offset = true
spread Alpha = true
spread Kta = false

-- four hexadecimal digits, that of weight 16 ^ 3 first
abbrev pub address_text : ℕ → List ℕ
address_text n = ascii "0x" ++ map (λ k. digit (n / 16 ^ k % 16)) (3 ∷ 2 ∷ 1 ∷ 0 ∷ [])

abbrev pub bits_text : Part → List ℕ
bits_text x = together (decimal_text x.high ∷ ascii ".." ∷ decimal_text x.low ∷ [])

-- a number of a sum after its first
abbrev pub signed_text : ℤ → List ℕ
signed_text (pos n) = ascii " + " ++ decimal_text n
signed_text (negsuc n) = ascii " - " ++ decimal_text (suc n)

abbrev pub entry_text : Option Entry → List ℕ
entry_text None = ascii "none"
entry_text (Some (Whole z)) = whole_text z
entry_text (Some (Fraction x)) = float_text x

-- ---- lines
abbrev pub number_line : List ℕ → ℤ → List ℕ
number_line name z = together (name ∷ whole_text z ∷ ascii "\n" ∷ [])

unfoldable pub pixel_line : ℕ → List ℕ
pixel_line p = together (ascii "pixel " ∷ decimal_text p ∷ ascii " row " ∷ decimal_text (row p) ∷ ascii " column " ∷ decimal_text (column p) ∷ ascii "\n" ∷ [])

-- a field: where it stands, and what it comes to
unfoldable pub place_text : List ℕ → Part → List ℕ
place_text name x = together (name ∷ ascii " address " ∷ address_text x.address ∷ ascii " bits " ∷ bits_text x ∷ ascii " raw " ∷ decimal_text x.raw ∷ [])

unfoldable pub part_line : List ℕ → Part → List ℕ
part_line name x =
    together (
    place_text name x ∷ ascii " value " ∷ whole_text x.value ∷ ascii " scale " ∷ decimal_text x.scale ∷ ascii " term " ∷ whole_text x.term ∷ ascii "\n" ∷ []
    )

unfoldable pub sum_line : Table → Parts → List ℕ
sum_line t x =
    together (
    ascii "sum " ∷ whole_text x.average.term
    ∷ when (spread t) (signed_text x.row.term ++ signed_text x.column.term)
    ∷ signed_text x.remainder.term ∷ ascii " = " ∷ whole_text x.numerator ∷ ascii "\n" ∷ []
    )

-- what comes of a row and a column, up to the failure
unfoldable pub shared_lines : Option Failure → Parts → List ℕ
shared_lines f x =
    together (
    part_line (ascii "row") x.row
    ∷ when (leb 1 (reached f)) (number_line (ascii "after_row ") x.after_row ++ part_line (ascii "column") x.column)
    ∷ when (leb 2 (reached f)) (number_line (ascii "after_column ") x.after_column)
    ∷ []
    )

unfoldable pub part_lines : Option Failure → Table → Parts → List ℕ
part_lines f t x =
    together (
    part_line (ascii "average") x.average
    ∷ when (spread t) (shared_lines f x)
    ∷ when (leb 2 (reached f)) (part_line (ascii "remainder") x.remainder)
    ∷ when (leb 3 (reached f)) (sum_line t x)
    ∷ []
    )

-- which pixel it is, after the decoder's refusal where there is one
unfoldable pub opening : Explanation → List ℕ
opening e =
    together (
    when (not (accepted_by e.found)) (refused_line (code_of e.found))
    ∷ ascii "table " ∷ table_name e.table ∷ ascii "\n" ∷ pixel_line e.pixel ∷ []
    )

-- ---- sentences: a field of this scale fits from -2 ^ (15 - scale) to one less than that power; a sum is too high or too low by so much
unfoldable pub term_text : List ℕ → Part → List ℕ
term_text name x =
    together (
    ascii "The " ∷ name ∷ ascii "'s term " ∷ whole_text x.term ∷ ascii " is outside -32768..32767. Its field, bits " ∷ bits_text x
    ∷ ascii " of word " ∷ address_text x.address ∷ []
    )

unfoldable pub fitting_text : Part → List ℕ
fitting_text x =
    together (
    ascii ", holds " ∷ whole_text x.value ∷ ascii "; at scale " ∷ decimal_text x.scale
    ∷ ascii " a field from -" ∷ decimal_text (2 ^ (15 - x.scale)) ∷ ascii " to " ∷ decimal_text (2 ^ (15 - x.scale) - 1) ∷ ascii " would fit.\n" ∷ []
    )

abbrev pub term_sentence : List ℕ → Part → List ℕ
term_sentence name x = term_text name x ++ fitting_text x

abbrev pub excess_text : ℤ → List ℕ
excess_text (pos n) = ascii "lower by " ++ decimal_text (n - 32767)
excess_text (negsuc n) = ascii "higher by " ++ decimal_text (n - 32767)

abbrev pub shared_words : Parts → List ℕ
shared_words x = together (ascii ", " ∷ address_text x.row.address ∷ ascii ", " ∷ address_text x.column.address ∷ [])

unfoldable pub sum_sentence : Table → Parts → List ℕ
sum_sentence t x =
    together (
    ascii "The final sum " ∷ whole_text x.numerator ∷ ascii " is outside -32768..32767. Its fields stand in words " ∷ address_text x.average.address
    ∷ when (spread t) (shared_words x) ∷ ascii " and " ∷ address_text x.remainder.address
    ∷ ascii "; a sum " ∷ excess_text x.numerator ∷ ascii " would fit.\n" ∷ []
    )

unfoldable pub entry_lines : Explanation → List ℕ
entry_lines e =
    together (
    ascii "numerator " ∷ whole_text e.parts.numerator ∷ ascii "\nexponent " ∷ decimal_text e.exponent ∷ ascii "\nentry " ∷ entry_text e.entry ∷ ascii "\n" ∷ []
    )

abbrev pub ending : Option Failure → Explanation → List ℕ
ending None e = entry_lines e
ending (Some Row) e = term_sentence (ascii "row") e.parts.row
ending (Some Column) e = term_sentence (ascii "column") e.parts.column
ending (Some Remainder) e = term_sentence (ascii "remainder") e.parts.remainder
ending (Some Sum) e = sum_sentence e.table e.parts

-- ---- the whole; a refused call has one line, as caldump prints it
unfoldable pub wording : Result Explanation Refusal → List ℕ
wording (Ok e) = together (opening e ∷ part_lines e.failure e.table e.parts ∷ ending e.failure e ∷ [])
wording (Err r) = refused_line (code_of (Err r))
