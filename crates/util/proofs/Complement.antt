-- Two's complement: the bits that the machine holds of a whole number are those of the definition, and turned over twice they are the same. Once over the width.
-- Assumes nothing.
use native.Mathlib.Omega.{arith}
use borrow.Author.Tests.{ltb-true}
use mathlib.Core.Path.{◌≡◌, refl, ap, subst, ◌∙◌}
use mathlib.Core.Bool.{true}
use Prim.Native.Nat.{ℕ, suc, ◌-◌, ◌*◌, ◌^◌, ◌<◌}
use lib.IntN.{ℤ, pos, negsuc}
use lib.Signed.{lt_z}
use mir.Syntax.{Width}
use mir.Val.{SFits, to_z, of_z, bits, hbits}
use mir.Facts.{to_z_pos}
use Rattle.util.specs.Bytes.{complement, i16_bits}

-- a width that holds count numbers
pub complement-of : (w : Width) (count : ℕ) → 2 ^ bits w ≡ count → (z : ℤ) → of_z w z ≡ complement count z
unfolding complement
complement-of w count e (pos n) = refl
complement-of w count e (negsuc n) = ap (λ (m : ℕ). m - suc n) e

-- of a negative number the bits turned over are one less than its size, and turned over again they are its bits; half of the count numbers are negative
module _ (w : Width) (count half : ℕ) (whole : count ≡ 2 * half) (top : 2 ^ hbits w ≡ half) (bits_of : (n : ℕ) → of_z w (negsuc n) ≡ count - suc n) where
  pub turned-over : (z : ℤ) → SFits w z → lt_z z (pos 0) ≡ true → (k : ℕ) × (to_z w (count - 1 - of_z w z) ≡ pos k) × (k < half) × (count - 1 - k ≡ complement count z)
  unfolding complement
  turned-over (pos n) f t = absurd (omega (arith, ltb-true n 0 t))
  turned-over (negsuc n) f t =
      let l : n < 2 ^ hbits w = f.sfits in
      let h : n < half = subst (λ (m : ℕ). n < m) top l in
      let e : count - 1 - (count - suc n) ≡ n = omega (arith, whole, h) in
      (n, ap (λ (m : ℕ). to_z w (count - 1 - m)) (bits_of n) ∙ ap (to_z w) e ∙ to_z_pos w l, h, omega (arith, whole, h))

-- the 16 bits are those of a width that holds 2^16 numbers
pub complement-16 : (z : ℤ) → complement 0x1_0000 z ≡ i16_bits z
unfolding complement i16_bits
complement-16 (pos n) = refl
complement-16 (negsuc n) = refl
