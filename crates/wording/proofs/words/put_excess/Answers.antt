-- A negative sum is too low, another too high.
use Rattle.std.proofs.Common.{◌≡◌, ℕ, suc, ◌-◌, List, ◌++◌, ℤ, pos, negsuc, nat_abs, true, false, refl, ap, subst, arith, ltb-true, to_z-of_z, w32, ◌∙◌}
use lib.Dec.{T}
use lib.Signed.{lt_z}
use Rattle.listing.specs.Text.{ascii, decimal_text}
use Rattle.listing.specs.Inner.Typing.{typed}
use Rattle.wording.specs.Wording.{excess_text}
use Rattle.listing.proofs.Typing.{then}
use Rattle.wording.proofs.words.put_excess.Goals as goal

too-low : (z : ℤ) → lt_z z (pos 0) ≡ true → ascii "higher by " ++ decimal_text (nat_abs z - 32768) ≡ excess_text z
too-low (pos n) t = absurd (omega (arith, ltb-true n 0 t))
too-low (negsuc n) t = ap (λ (k : ℕ). ascii "higher by " ++ decimal_text k) (let e : suc n - 32768 ≡ n - 32767 = omega arith in e)

too-high : (z : ℤ) → lt_z z (pos 0) ≡ false → ascii "lower by " ++ decimal_text (nat_abs z - 32767) ≡ excess_text z
too-high (pos n) t = refl
too-high (negsuc n) t = absurd (subst T t tt)

pub returns-then-z-lt0 : goal.returns-then-z-lt0
returns-then-z-lt0 c =
    let z = c.args.z in
    let back = to_z-of_z {w = w32} c.ranges.z in
    let size : c.above.result ≡ nat_abs z - 32768 = c.above.ensures ∙ ap (λ (n : ℕ). n - 32768) (rw back at c.magnitude-n.ensures) in
    let e : ascii "higher by " ++ decimal_text c.above.result ≡ excess_text z = ap (λ (n : ℕ). ascii "higher by " ++ decimal_text n) size ∙ too-low z (rw back at c.if-z-lt0.true) in
    then _ _ _ c.put_text-next.ensures c.put_decimal.ensures ∙ ap (λ (t : List ℕ). typed t (c.args.out.now, c.args.at)) e

pub returns-else-z-lt0 : goal.returns-else-z-lt0
returns-else-z-lt0 c =
    let z = c.args.z in
    let back = to_z-of_z {w = w32} c.ranges.z in
    let size : c.above-else-z-lt0.result ≡ nat_abs z - 32767 = c.above-else-z-lt0.ensures ∙ ap (λ (n : ℕ). n - 32767) (rw back at c.magnitude-n.ensures) in
    let e : ascii "lower by " ++ decimal_text c.above-else-z-lt0.result ≡ excess_text z = ap (λ (n : ℕ). ascii "lower by " ++ decimal_text n) size ∙ too-high z (rw back at c.if-z-lt0.false) in
    then _ _ _ c.put_text-next-else-z-lt0.ensures c.put_decimal-else-z-lt0.ensures ∙ ap (λ (t : List ℕ). typed t (c.args.out.now, c.args.at)) e
