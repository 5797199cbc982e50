-- A whole numerator over a power of two, and the float that is exactly equal to it.
-- Assumes nothing.
use Rattle.std.specs.Prelude.{ℕ, ℤ, Float}
use Rattle.exact.specs.Dyadic.{dyadic}

pub record Fraction : Type 0 where
  pub numerator : ℤ
  pub exponent : ℕ

-- z / 2 ^ k
infix 5 ◌/2^◌
abbrev pub ◌/2^◌ : ℤ → ℕ → Fraction
◌/2^◌ z k = record { numerator = z; exponent = k }

-- zero is +0
abbrev pub float : Fraction → Float
float f = dyadic f.numerator f.exponent
