-- alpha_ptat before request iii, as the scope has it and the original does: a whole quarter of the nibble. The record's has the rest of that division too, nibble mod 4 quarters, so that the
-- two are the same exactly where the rest is none.
-- Assumes nothing.
use mathlib.Core.Path.{◌≡◌, ap}
use mathlib.Core.Logic.{◌↔◌}
use Prim.Native.Nat.{ℕ, ◌+◌, ◌*◌, ◌/◌, ◌%◌}
use native.Mathlib.Omega.{arith}
use lib.Dec.{lit≤}
use lib.IntN.{pos}
use Rattle.util.specs.Words.{field}
use Rattle.exact.proofs.Exact.{same-fraction}
use Rattle.exact.specs.Fraction.{Fraction, ◌/2^◌, float}
use Rattle.record.specs.Fields.{record_of, alpha_ptat_field}

-- field div 4 + 8
unfoldable pub whole_steps : (ℕ → ℕ) → Fraction
whole_steps w = pos (field (w 0x10) 12 4 / 4 + 8) /2^ 0

-- the record's, in quarters: nibble mod 4 of them above
pub quarters-above : (w : ℕ → ℕ) → alpha_ptat_field w ≡ (pos (4 * (field (w 0x10) 12 4 / 4 + 8) + field (w 0x10) 12 4 % 4) /2^ 2)
unfolding alpha_ptat_field
quarters-above w = ap (λ (n : ℕ). pos n /2^ 2) (omega arith)

pub whole-exactly : (w : ℕ → ℕ) → ((record_of w).alpha_ptat ≡ float (whole_steps w)) ↔ (field (w 0x10) 12 4 % 4 ≡ 0)
unfolding record_of alpha_ptat_field whole_steps
whole-exactly w =
    let t = field (w 0x10) 12 4 in
    let both = same-fraction (32 + t) (t / 4 + 8) 2 0 (omega arith) (omega arith) (lit≤ tt) (lit≤ tt) in
    (λ e. omega (arith, both.0 e), λ e. both.1 (omega arith))
