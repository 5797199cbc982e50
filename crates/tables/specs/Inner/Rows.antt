-- What the code that writes a table asks of the numbers that it is given: that the terms fit 16 bits.
-- Assumes nothing.
use Rattle.std.specs.Prelude.{ℕ, ◌<◌, ◌≡◌, true}
use Rattle.util.specs.Sums.{in16}
use Rattle.walk.specs.Inner.Rows.{own_term}

abbrev pub TermsFit : (ℕ → ℕ) → ℕ → ℕ → ℕ → Type 0
TermsFit w low width power = (r c : ℕ) → r < 24 → c < 32 → in16 (own_term w low width power r c) ≡ true
