-- Of a negative number, the sign and its size.
use Rattle.std.proofs.Common.{◌≡◌, ℕ, List, ◌++◌, ℤ, pos, negsuc, nat_abs, true, refl, ap, arith, ltb-true, to_z-of_z, w32, ◌∙◌}
use lib.Signed.{lt_z}
use Rattle.listing.specs.Text.{ascii, decimal_text, whole_text}
use Rattle.listing.specs.Inner.Typing.{typed}
use Rattle.listing.proofs.Typing.{then}
use Rattle.listing.proofs.put_integer.Goals as goal

below-zero : (z : ℤ) → lt_z z (pos 0) ≡ true → ascii "-" ++ decimal_text (nat_abs z) ≡ whole_text z
below-zero (pos n) t = absurd (omega (arith, ltb-true n 0 t))
below-zero (negsuc n) t = refl

pub returns-then-z-lt0 : goal.returns-then-z-lt0
returns-then-z-lt0 c =
    let z = c.args.z in
    let back = to_z-of_z {w = w32} c.ranges.z in
    let e : ascii "-" ++ decimal_text c.unsigned_abs.result ≡ whole_text z =
    ap (λ (n : ℕ). ascii "-" ++ decimal_text n) (rw back at c.unsigned_abs.ensures.value) ∙ below-zero z (rw back at c.if-z-lt0.true) in
    then _ _ _ c.put_byte-next.ensures c.put_decimal.ensures ∙ ap (λ (t : List ℕ). typed t (c.args.out.now, c.args.at)) e
