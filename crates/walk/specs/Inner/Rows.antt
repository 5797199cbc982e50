-- A table row by row, as the code goes over it: what the pixels of a row share, what those of a column share, and the remainder of each pixel.
-- Assumes nothing.
use Rattle.std.specs.Prelude.{ℕ, ◌+◌, ◌*◌, ◌%◌, ◌<◌, ◌≤◌, ◌≡◌, true, List, get_or, ℤ, pos, nat_abs, ◌+ℤ◌, ◌*ℤ◌}
use Rattle.refusal.specs.Code.{accepted}
use Rattle.refusal.specs.declared.Table.{Table}
use Rattle.util.specs.Words.{field, signed_field}
use Rattle.util.specs.Inner.Widths.{clip}
use Rattle.util.specs.Sums.{in16, term_of}
use Rattle.walk.specs.Parts.{nibble, row_term, column_term}
use Rattle.steps.specs.Steps.{first_outside}
use Rattle.walk.specs.Walk.{pixel_steps}

-- average, row term and column term together, of row r and column c. The columns are given twice, for even rows and for odd ones.
abbrev pub column_part : List ℤ → List ℤ → ℕ → ℕ → ℤ
column_part rows columns r c = get_or rows r (pos 0) +ℤ get_or columns (32 * (r % 2) + c) (pos 0)

-- the remainder's term: width bits of the pixel's own word from bit low up, times power
abbrev pub own_term : (ℕ → ℕ) → ℕ → ℕ → ℕ → ℕ → ℕ → ℤ
own_term w low width power r c = signed_field (w (0x40 + (32 * r + c))) low (clip width) *ℤ pos power

-- the whole sum of column c of row r
abbrev pub row_entry : (ℕ → ℕ) → List ℤ → List ℤ → ℕ → ℕ → ℕ → ℕ → ℕ → ℤ
row_entry w rows columns low width power r c = column_part rows columns r c +ℤ own_term w low width power r c

-- the first n numbers are small enough that 32 bits hold every sum of them
abbrev pub Small : ℕ → List ℤ → Type 0
Small n l = (k : ℕ) → k < n → nat_abs (get_or l k (pos 0)) ≤ 0x100000

-- every remainder's term and every entry of row r is inside 16 bits
abbrev pub RowInside : (ℕ → ℕ) → List ℤ → List ℤ → ℕ → ℕ → ℕ → ℕ → Type 0
RowInside w rows columns low width power r =
    (c : ℕ) → c < 32 → (in16 (own_term w low width power r c) ≡ true) × (in16 (row_entry w rows columns low width power r c) ≡ true)

-- the terms of the first n nibbles from word base + first on fit 16 bits
abbrev pub Fitting : (ℕ → ℕ) → ℕ → ℕ → ℕ → ℕ → Type 0
Fitting w base first low n = (k : ℕ) → k < n → in16 (term_of (nibble w (base + first) k) (field (w base) low 4)) ≡ true

-- of offset or alpha: the terms of the first n rows fit, and, unless n is 0, those of all columns
abbrev pub SharedFit : (ℕ → ℕ) → ℕ → ℕ → Type 0
SharedFit w base n = (r c : ℕ) → r < n → c < 32 → (in16 (row_term w base r) ≡ true) × (in16 (column_term w base c) ≡ true)

-- in the first n rows, a pixel has no fault where its remainder's term and its row's entry are inside
abbrev pub Vouches : (ℕ → ℕ) → Table → List ℤ → List ℤ → ℕ → ℕ → ℕ → ℕ → Type 0
Vouches w t rows columns low width power n =
    (r c : ℕ) → r < n → c < 32 → in16 (own_term w low width power r c) ≡ true → in16 (row_entry w rows columns low width power r c) ≡ true
    → first_outside (pixel_steps w t (32 * r + c)) ≡ accepted
