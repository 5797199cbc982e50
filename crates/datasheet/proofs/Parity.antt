-- One of four by the datasheet's parities is the one at its place in chessboard order: its odd rows and columns, counted from 1, are the even ones counted from 0.
-- Assumes nothing.
use mathlib.Core.Path.{◌≡◌}
use mathlib.Core.Bool.{cond}
use Prim.Native.Nat.{ℕ, zero, suc, ◌+◌, ◌-◌, ◌*◌, ◌/◌, ◌%◌, ◌<◌}
use native.Mathlib.Omega.{arith}
use lib.Dec.{eqb}
use Rattle.util.specs.Pixels.{chessboard}
use Rattle.datasheet.specs.Formulas as D

-- of four numbers a, b, c and d, and what g makes of them
module _ {A B : Type 0} (g : A → B) (f : ℕ → B) (a b c d : A) (first : f 0 ≡ g a) (second : f 1 ≡ g b) (third : f 2 ≡ g c) (fourth : f 3 ≡ g d) where
  pub by-parity : (p : ℕ) → f (chessboard p) ≡ g (D.by_parity p a b c d)
  by-parity p =
      let row : (p / 32 + 1) % 2 ≡ 1 - p / 32 % 2 = omega arith in
      let column : (p % 32 + 1) % 2 ≡ 1 - p % 32 % 2 = omega arith in
      rw (row, column) (go (p / 32 % 2) (p % 32 % 2) (omega arith) (omega arith))
    where
      go : (r s : ℕ) → r < 2 → s < 2 → f (r + 2 * s) ≡ g (cond (eqb (1 - s) 1) (cond (eqb (1 - r) 1) a b) (cond (eqb (1 - r) 1) c d))
      go zero zero h l = first
      go zero (suc zero) h l = third
      go zero (suc (suc s)) h l = absurd (omega arith)
      go (suc zero) zero h l = second
      go (suc zero) (suc zero) h l = fourth
      go (suc zero) (suc (suc s)) h l = absurd (omega arith)
      go (suc (suc r)) s h l = absurd (omega arith)
