-- A word has no bits from 16 up, so a start or a width past that changes nothing.
use Rattle.std.proofs.Common.{◌≡◌, ◌/◌, ◌^◌, ◌<◌, ◌≤◌, ℕ, Option, None, Some, sym, ◌∙◌, pow_mono, arith}
use Rattle.std.specs.Option.{SomeIff, unwrap_or}
use native.Mathlib.Nat.{div-eq_of_lt, mod-eq_of_lt, lt_of_le_of_lt, lt_of_lt_of_le}
use lib.Pow.{shr_le}
use Rattle.util.proofs.u16_from_bits.Goals as goal

from-low : (r : Option ℕ) (x low : ℕ) → x < 2 ^ 16 → SomeIff r (low < 16) (x / 2 ^ low) → unwrap_or r 0 ≡ x / 2 ^ low
from-low None x low h past =
    let wide : 16 ≤ low = omega (arith, past) in
    sym (div-eq_of_lt (lt_of_lt_of_le h (pow_mono wide)))
from-low (Some y) x low h is = is.1

pub returns-then-width-lt16 : goal.returns-then-width-lt16
returns-then-width-lt16 c = rw (c.unwrap_or-from_low.ensures, c.power_of_two.ensures, from-low c.checked_shr.result c.args.x c.args.low c.ranges.x.fits c.checked_shr.ensures)

pub returns-else-width-lt16 : goal.returns-else-width-lt16
returns-else-width-lt16 c =
    c.unwrap_or-from_low.ensures
    ∙ (from-low c.checked_shr.result c.args.x c.args.low c.ranges.x.fits c.checked_shr.ensures
    ∙ sym (mod-eq_of_lt (lt_of_le_of_lt (shr_le c.args.x c.args.low) (lt_of_lt_of_le c.ranges.x.fits (pow_mono c.if-width-lt16.false)))))
