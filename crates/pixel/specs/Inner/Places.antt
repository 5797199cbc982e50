-- Numbers that rise, so that the first with a property is the lowest; and numbers below a bound.
-- Assumes nothing.
use Rattle.std.specs.Prelude.{ℕ, ◌<◌, List, [], ◌∷◌, length, get_or}

-- each is above n and above those before it
unfoldable pub RisingFrom : ℕ → List ℕ → Type 0
RisingFrom n [] = Unit {0}
RisingFrom n (m ∷ rest) = (n < m) × RisingFrom m rest

abbrev pub Rising : List ℕ → Type 0
Rising l = RisingFrom 0 l

abbrev pub Below : ℕ → List ℕ → Type 0
Below n l = (k : ℕ) → k < length l → get_or l k 0 < n
