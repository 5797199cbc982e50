-- A pixel's number tells its row and its column, since a row has 32.
-- Assumes nothing.
use mathlib.Core.Path.{◌≡◌}
use Prim.Native.Nat.{ℕ, ◌+◌, ◌*◌, ◌/◌, ◌%◌, ◌<◌}
use native.Mathlib.Omega.{arith}

module _ (r c : ℕ) (h : c < 32) where
  pub row_of : (32 * r + c) / 32 ≡ r
  row_of = omega arith

  pub column-of : (32 * r + c) % 32 ≡ c
  column-of = omega arith

-- a row's entries, by the pixel's number
pub row-place : {A : Type 0} (f : ℕ → ℕ → A) (r c : ℕ) → c < 32 → f r c ≡ f ((32 * r + c) / 32) ((32 * r + c) % 32)
row-place f r c h = rw (row_of r c h, column-of r c h)
