-- The four bytes are its bits.
use Rattle.std.proofs.Common.{◌≡◌, ◌+◌, ap, arith, ◌∙◌}
use lib.Ieee.{binary32, of_bits}
use Rattle.layout.specs.Numbers.{two_at, four_at, float_at}
use Rattle.layout.proofs.numbers.F32Readable.get.Goals as goal

pub returns : goal.returns
unfolding float_at four_at two_at
returns c =
    let s = c.args.s.now in
    let at = c.args.at in
    let last : at + 2 + 1 ≡ at + 3 = omega arith in
    let number : c.from_be_bytes.result ≡ four_at s at = rw last (c.from_be_bytes.ensures ∙ omega arith) in
    c.from_bits.ensures ∙ ap (of_bits binary32) number
