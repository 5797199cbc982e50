-- Every explanation in words has room in 2,048 bytes: each of its numbers has at most 21 bytes, whatever it is.
-- Assumes nothing.
use native.Mathlib.Omega.{arith}
use mathlib.Core.Bool.{Bool, true, false, not}
use mathlib.Core.List.{List, ◌++◌}
use Prim.Native.Nat.{ℕ, suc, ◌+◌, ◌-◌, ◌^◌, ◌≤◌}
use lib.Dec.{leb}
use lib.IntN.{ℤ, pos, negsuc}
use lib.ListN.{length, length-append}
use Rattle.std.specs.Prelude.{Option, None, Some, Result, Ok, Err}
use Rattle.refusal.specs.Code.{code_of, accepted_by}
use Rattle.refusal.specs.declared.Refusal.{Refusal}
use Rattle.refusal.specs.declared.Table.{Table}
use Rattle.refusal.specs.declared.Table.TheVariants.{Offset, Alpha, Kta}
use Rattle.util.specs.Pixels.{row, column}
use Rattle.listing.specs.Text.{ascii}
use Rattle.listing.specs.Listing.{refused_line}
use Rattle.listing.proofs.Room.{decimal-room, whole_room, refused-room}
use Rattle.explanation.specs.Explanation.{reached}
use Rattle.explanation.specs.declared.Part.{Part}
use Rattle.explanation.specs.declared.Parts.{Parts}
use Rattle.explanation.specs.declared.Failure.{Failure}
use Rattle.explanation.specs.declared.Failure.TheVariants.{Row, Column, Remainder, Sum}
use Rattle.explanation.specs.declared.Entry.{Entry}
use Rattle.explanation.specs.declared.Entry.TheVariants.{Whole, Fraction}
use Rattle.explanation.specs.declared.Explanation.{Explanation}
use Rattle.wording.specs.Wording.{when, table_name, spread, signed_text, entry_text, number_line, pixel_line, place_text, part_line, sum_line, shared_lines, part_lines}
use Rattle.wording.specs.Wording.{opening, term_text, fitting_text, term_sentence, excess_text, shared_words, sum_sentence, entry_lines, ending, wording}

when-room : (b : Bool) (t : List ℕ) (k : ℕ) → length t ≤ k → length (when b t) ≤ k
when-room true t k h = h
when-room false t k h = omega arith

table-room : (t : Table) → length (table_name t) ≤ 6
table-room Offset = omega arith
table-room Alpha = omega arith
table-room Kta = omega arith

signed-room : (z : ℤ) → length (signed_text z) ≤ 23
signed-room (pos n) = omega (arith, decimal-room 20 n)
signed-room (negsuc n) = omega (arith, decimal-room 20 (suc n))

entry-room : (e : Option Entry) → length (entry_text e) ≤ 21
entry-room None = omega arith
entry-room (Some (Whole z)) = whole_room z
entry-room (Some (Fraction x)) = omega arith

excess-room : (z : ℤ) → length (excess_text z) ≤ 30
excess-room (pos n) = omega (arith, decimal-room 20 (n - 32767))
excess-room (negsuc n) = omega (arith, decimal-room 20 (n - 32767))

-- ---- lines
number-room : (name : List ℕ) (z : ℤ) → length (number_line name z) ≤ length name + 22
number-room name z = simp length-append (omega (arith, whole_room z))

pixel-room : (p : ℕ) → length (pixel_line p) ≤ 80
unfolding pixel_line
pixel-room p = simp length-append (omega (arith, decimal-room 20 p, decimal-room 20 (row p), decimal-room 20 (column p)))

place-room : (name : List ℕ) (x : Part) → length (place_text name x) ≤ length name + 88
unfolding place_text
place-room name x = simp length-append (omega (arith, decimal-room 20 x.high, decimal-room 20 x.low, decimal-room 20 x.raw))

part_room : (name : List ℕ) (x : Part) → length (part_line name x) ≤ length name + 171
unfolding part_line
part_room name x = simp length-append (omega (arith, place-room name x, whole_room x.value, decimal-room 20 x.scale, whole_room x.term))

sum_room : (t : Table) (x : Parts) → length (sum_line t x) ≤ 119
unfolding sum_line
sum_room t x =
    let both : length (signed_text x.row.term ++ signed_text x.column.term) ≤ 46 = simp length-append (omega (arith, signed-room x.row.term, signed-room x.column.term)) in
    let shared = when-room (spread t) (signed_text x.row.term ++ signed_text x.column.term) 46 both in
    simp length-append (omega (arith, shared, whole_room x.average.term, signed-room x.remainder.term, whole_room x.numerator))

shared-room : (f : Option Failure) (x : Parts) → length (shared_lines f x) ≤ 418
unfolding shared_lines
shared-room f x =
    let two = number_line (ascii "after_row ") x.after_row ++ part_line (ascii "column") x.column in
    let both : length two ≤ 209 = simp length-append (omega (arith, whole_room x.after_row, part_room (ascii "column") x.column)) in
    let column = when-room (leb 1 (reached f)) two 209 both in
    let after = when-room (leb 2 (reached f)) (number_line (ascii "after_column ") x.after_column) 35 (number-room (ascii "after_column ") x.after_column) in
    simp length-append (omega (arith, part_room (ascii "row") x.row, column, after))

parts-room : (f : Option Failure) (t : Table) (x : Parts) → length (part_lines f t x) ≤ 895
unfolding part_lines
parts-room f t x =
    let shared = when-room (spread t) (shared_lines f x) 418 (shared-room f x) in
    let remainder = when-room (leb 2 (reached f)) (part_line (ascii "remainder") x.remainder) 180 (part_room (ascii "remainder") x.remainder) in
    let sum = when-room (leb 3 (reached f)) (sum_line t x) 119 (sum_room t x) in
    simp length-append (omega (arith, part_room (ascii "average") x.average, shared, remainder, sum))

opening-room : (e : Explanation) → length (opening e) ≤ 164
unfolding opening
opening-room e =
    let found = when-room (not (accepted_by e.found)) (refused_line (code_of e.found)) 71 (refused-room (code_of e.found)) in
    simp length-append (omega (arith, found, table-room e.table, pixel-room e.pixel))

-- ---- what comes last
term-room : (name : List ℕ) (x : Part) → length (term_sentence name x) ≤ length name + 300
unfolding term_text fitting_text
term-room name x =
    simp length-append
    (omega (
      arith,
      whole_room x.term,
      decimal-room 20 x.high,
      decimal-room 20 x.low,
      whole_room x.value,
      decimal-room 20 x.scale,
      decimal-room 20 (2 ^ (15 - x.scale)),
      decimal-room 20 (2 ^ (15 - x.scale) - 1),
    ))

sum-sentence-room : (t : Table) (x : Parts) → length (sum_sentence t x) ≤ 200
unfolding sum_sentence
sum-sentence-room t x =
    let words = when-room (spread t) (shared_words x) 16 (omega arith) in
    simp length-append (omega (arith, words, whole_room x.numerator, excess-room x.numerator))

entry-lines-room : (e : Explanation) → length (entry_lines e) ≤ 90
unfolding entry_lines
entry-lines-room e = simp length-append (omega (arith, whole_room e.parts.numerator, decimal-room 20 e.exponent, entry-room e.entry))

ending-room : (f : Option Failure) (e : Explanation) → length (ending f e) ≤ 309
ending-room None e = omega (arith, entry-lines-room e)
ending-room (Some Row) e = omega (arith, term-room (ascii "row") e.parts.row)
ending-room (Some Column) e = omega (arith, term-room (ascii "column") e.parts.column)
ending-room (Some Remainder) e = omega (arith, term-room (ascii "remainder") e.parts.remainder)
ending-room (Some Sum) e = omega (arith, sum-sentence-room e.table e.parts)

-- ---- the whole
pub wording-room : (answer : Result Explanation Refusal) → length (wording answer) ≤ 2048
unfolding wording
wording-room (Ok e) = simp length-append (omega (arith, opening-room e, parts-room e.failure e.table e.parts, ending-room e.failure e))
wording-room (Err r) = omega (arith, refused-room (code_of (Err r)))
