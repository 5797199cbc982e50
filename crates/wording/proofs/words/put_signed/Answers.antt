-- The sign between spaces, and the number's size.
use Rattle.std.proofs.Common.{◌≡◌, ℕ, List, ◌++◌, ℤ, pos, negsuc, nat_abs, true, false, refl, ap, subst, arith, ltb-true, to_z-of_z, w32, ◌∙◌}
use lib.Dec.{T}
use lib.Signed.{lt_z}
use Rattle.listing.specs.Text.{ascii, decimal_text}
use Rattle.listing.specs.Inner.Typing.{typed}
use Rattle.wording.specs.Wording.{signed_text}
use Rattle.listing.proofs.Typing.{then}
use Rattle.wording.proofs.words.put_signed.Goals as goal

below-zero : (z : ℤ) → lt_z z (pos 0) ≡ true → ascii " - " ++ decimal_text (nat_abs z) ≡ signed_text z
below-zero (pos n) t = absurd (omega (arith, ltb-true n 0 t))
below-zero (negsuc n) t = refl

from_zero : (z : ℤ) → lt_z z (pos 0) ≡ false → ascii " + " ++ decimal_text (nat_abs z) ≡ signed_text z
from_zero (pos n) t = refl
from_zero (negsuc n) t = absurd (subst T t tt)

pub returns-then-z-lt0 : goal.returns-then-z-lt0
returns-then-z-lt0 c =
    let z = c.args.z in
    let back = to_z-of_z {w = w32} c.ranges.z in
    let e : ascii " - " ++ decimal_text c.magnitude-n.result ≡ signed_text z = ap (λ (n : ℕ). ascii " - " ++ decimal_text n) (rw back at c.magnitude-n.ensures) ∙ below-zero z (rw back at c.if-z-lt0.true) in
    then _ _ _ c.put_text-next.ensures c.put_decimal.ensures ∙ ap (λ (t : List ℕ). typed t (c.args.out.now, c.args.at)) e

pub returns-else-z-lt0 : goal.returns-else-z-lt0
returns-else-z-lt0 c =
    let z = c.args.z in
    let back = to_z-of_z {w = w32} c.ranges.z in
    let e : ascii " + " ++ decimal_text c.magnitude-n.result ≡ signed_text z = ap (λ (n : ℕ). ascii " + " ++ decimal_text n) (rw back at c.magnitude-n.ensures) ∙ from_zero z (rw back at c.if-z-lt0.false) in
    then _ _ _ c.put_text-next-else-z-lt0.ensures c.put_decimal-else-z-lt0.ensures ∙ ap (λ (t : List ℕ). typed t (c.args.out.now, c.args.at)) e
