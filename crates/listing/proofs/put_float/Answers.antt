-- Eight digits, the highest first.
use Rattle.std.proofs.Common.{◌≡◌, ℕ, List, [], ◌∷◌, ◌++◌, ◌+◌, ◌-◌, ◌*◌, ◌/◌, ◌%◌, ◌^◌, ◌<◌, take, refl, ap, arith, ◌∙◌}
use Prim.Native.Nat.{zero, suc}
use Rattle.listing.specs.Text.{digit, hexadecimal}
use Rattle.listing.specs.Inner.Typing.{typed}
use Rattle.listing.proofs.Typing.{then, done}
use Rattle.listing.proofs.put_float.Goals as goal

one-more : (n k : ℕ) → k < 8 → take k (hexadecimal n) ++ (digit (n / 2 ^ (28 - 4 * k) % 16) ∷ []) ≡ take (k + 1) (hexadecimal n)
one-more n zero h = refl
one-more n (suc zero) h = refl
one-more n (suc (suc zero)) h = refl
one-more n (suc (suc (suc zero))) h = refl
one-more n (suc (suc (suc (suc zero)))) h = refl
one-more n (suc (suc (suc (suc (suc zero))))) h = refl
one-more n (suc (suc (suc (suc (suc (suc zero)))))) h = refl
one-more n (suc (suc (suc (suc (suc (suc (suc zero))))))) h = refl
one-more n (suc (suc (suc (suc (suc (suc (suc (suc k)))))))) h = absurd (omega arith)

pub loop-k-init : goal.loop-k-init
loop-k-init c = done _

pub loop-k-preserved : goal.loop-k-preserved
loop-k-preserved c =
    let n = c.bits-n.result in
    let k = c.loop-k.k in
    then _ _ _ c.loop-k.invariant c.put_digit-next.ensures
    ∙ ap (λ (t : List ℕ). typed t (c.args.out.now, c.args.at)) (one-more n k c.loop-k-test.true)
