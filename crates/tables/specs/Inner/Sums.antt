-- The whole sums of a table's pixels, and what a closure makes of them.
-- Assumes nothing.
use Rattle.std.specs.Prelude.{◌≡◌, ℕ, ◌/◌, ◌%◌, ◌^◌, ◌<◌, List, ℤ, nat_abs}
use Rattle.util.specs.Words.{listed}
use Rattle.util.specs.Lists.{written}
use Rattle.walk.specs.Inner.Rows.{row_entry}
use Rattle.tables.specs.declared.sums.Sums.{Sums}

-- of column c of row r
abbrev pub sum_of : Sums → ℕ → ℕ → ℤ
sum_of s r c = row_entry (listed s.words.now) s.rows.now s.columns.now s.low s.width s.power r c

-- of pixel p
abbrev pub pixel_sum : Sums → ℕ → ℤ
pixel_sum s p = sum_of s (p / 32) (p % 32)

-- by what it asks for, a closure may be called with each of the first n sums
abbrev pub Takes : (ℤ → Type 0) → (ℕ → ℤ) → ℕ → Type 0
Takes pre sum n = (k : ℕ) → k < n → nat_abs (sum k) < 2 ^ 24 → pre (sum k)

-- a lent list with its first n entries written, each an answer of a closure to its sum
pub record Made {X : Type 0} (post : ℤ → X → Type 0) (sum : ℕ → ℤ) (n : ℕ) (old new : List X) : Type 0 where
  pub entry : ℕ → X
  pub all : new ≡ written n entry old
  pub each : (k : ℕ) → k < n → (nat_abs (sum k) < 2 ^ 24) × post (sum k) (entry k)
