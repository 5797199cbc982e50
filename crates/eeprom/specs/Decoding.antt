-- What `from_data` answers and leaves behind: the refusals 1 and 2 first, then the walk's; a record and three tables where there is none; and beside a refusal
-- nothing is written.
-- Assumes nothing.
use Rattle.std.specs.Prelude.{ℕ, Bool, cond, ◌||◌, List, eqb, ltb, length, Result, Err}
use Rattle.refusal.specs.Code.{Verdict, accepted_by, granted}
use Rattle.refusal.specs.declared.Refusal.{Refusal}
use Rattle.refusal.specs.declared.Refusal.TheVariants.{ImageLength, ShortSlice}
use Rattle.record.specs.Fields.{record_of}
use Rattle.record.specs.declared.Record.{Record}
use Rattle.steps.specs.Steps.{first_outside}
use Rattle.walk.specs.Walk.{walk}
use Rattle.util.specs.Lists.{written}
use Rattle.eeprom.specs.Image.{image_words}

-- the order of the refusals, whatever is lent: 1 for every length of the image but 1,664, 2 where a lent slice is too short, then what is found in the image
abbrev pub in_order : List ℕ → Bool → Verdict → Verdict
in_order image short found = cond (eqb (length image) 1664) (cond short (Err ShortSlice) found) (Err ImageLength)

-- what the walk finds is 3 or 4
abbrev pub decoder_refusal : List ℕ → Bool → Verdict
decoder_refusal image short = in_order image short (first_outside (walk (image_words image)))

-- that one of three tables with room for l, m and n entries is too short
abbrev pub tables_short : ℕ → ℕ → ℕ → Bool
tables_short l m n = ltb l 768 || (ltb m 768 || ltb n 768)

-- the refusal of an image and three such tables
unfoldable pub refusal_of : List ℕ → ℕ → ℕ → ℕ → Verdict
refusal_of image l m n = decoder_refusal image (tables_short l m n)

-- the record, or else the refusal
abbrev pub answered : Verdict → (ℕ → ℕ) → Result Record Refusal
answered r w = granted r (record_of w)

unfoldable pub decoded_of : List ℕ → ℕ → ℕ → ℕ → Result Record Refusal
decoded_of image l m n = answered (refusal_of image l m n) (image_words image)

-- what a lent table holds afterwards: its first 768 entries written where the call was accepted, and else what it held before
abbrev pub table_after : {A : Type 0} → Verdict → (ℕ → A) → List A → List A
table_after r f d = cond (accepted_by r) (written 768 f d) d
