-- The shift loses no bit, and the bits are those of the power.
use Rattle.std.proofs.Common.{◌≡◌, ap, ◌∙◌, ℕ, ◌+◌, ◌*◌, ◌%◌, ◌^◌, arith}
use lib.Ieee.{binary32, of_bits}
use Rattle.exact.proofs.Exact.{no_nan}
use Rattle.exact.proofs.Powers.{power-bits}
use Rattle.exact.proofs.up_power.Goals as goal

pub float_from_bits-result : goal.float_from_bits-result
float_from_bits-result c = no_nan _ (omega arith)

pub returns : goal.returns
returns c =
    let k = c.args.k in
    let whole : (127 + k) * 2 ^ 23 % 2 ^ 32 ≡ (127 + k) * 2 ^ 23 = omega arith in
    ap (λ (n : ℕ). of_bits binary32 n) whole ∙ power-bits k (omega arith)
