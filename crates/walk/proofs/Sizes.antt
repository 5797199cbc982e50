-- The sizes of terms and sums: how large each can be, and that a number below 2 ^ 15 in size is inside 16 bits.
-- Assumes nothing.
use mathlib.Core.Path.{◌≡◌, refl, sym, subst}
use mathlib.Core.Bool.{Bool, true, false, cond}
use Prim.Native.Nat.{ℕ, zero, suc, ◌+◌, ◌-◌, ◌*◌, ◌/◌, ◌%◌, ◌^◌, ◌≤◌, ◌<◌}
use native.Mathlib.Nat.{mul-le-mul_left, mul-le-mul_right, le_trans}
use native.Mathlib.Omega.{arith}
use borrow.Author.Tests.{ltb-true}
use lib.Dec.{T, leb, ltb, lit<}
use lib.IntN.{ℤ, pos, negsuc, neg_ℤ, nat_abs, ◌+ℤ◌, ◌*ℤ◌}
use lib.Pow.{pow_mono}
use lib.Signed.{mag, nat_abs-le}
use Rattle.util.specs.Words.{field, by_weight, signed_field}
use Rattle.util.specs.Sums.{in16, term_of}
use Rattle.util.proofs.Width.{field_below, signed_below}
use Rattle.util.proofs.Whole.{is-inside}
use Rattle.util.proofs.Kept.{Is, called}
use mir.Syntax.{Width}
use mir.Val.{to_z, of_z, hbits}
use Rattle.util.specs.Pixels.{chessboard}
use Rattle.walk.specs.Parts.{nibble, average, row_term, remainder_term, row_sum, kta_average, kta_term}

less-or : (t : Bool) (a b : ℕ) → ltb a (suc b) ≡ t → nat_abs (cond t (negsuc (suc b - suc a)) (pos (a - suc b))) ≤ a + suc b
less-or true a b e = let h : a < suc b = ltb-true a (suc b) e in omega arith
less-or false a b e = omega arith

pub size-sum : (a b : ℤ) → nat_abs (a +ℤ b) ≤ nat_abs a + nat_abs b
size-sum (pos a) (pos b) = omega arith
size-sum (pos a) (negsuc b) = less-or (ltb a (suc b)) a b refl
size-sum (negsuc a) (pos b) = let h = less-or (ltb b (suc a)) b a refl in omega arith
size-sum (negsuc a) (negsuc b) = omega arith

size-neg : (m : ℕ) → nat_abs (neg_ℤ (pos m)) ≡ m
size-neg zero = refl
size-neg (suc m) = refl

pub size-times : (f : ℤ) (n : ℕ) → nat_abs (f *ℤ pos n) ≡ nat_abs f * n
size-times (pos a) n = refl
size-times (negsuc a) n = size-neg (suc a * n)

pub small : (z : ℤ) → nat_abs z < 32768 → in16 z ≡ true
small (pos n) h = is-inside (pos n) h
small (negsuc n) h = is-inside (negsuc n) (omega arith)

-- a signed field of so many bits
pub field-size : (x low width : ℕ) → 0 < width → nat_abs (by_weight (2 ^ (width - 1)) (field x low width)) ≤ 2 ^ (width - 1)
field-size x low width h = nat_abs-le (by_weight (2 ^ (width - 1)) (field x low width)) (signed_below (2 ^ (width - 1)) (field x low width) (field_below x low width h))

-- a power of two that four bits give
pub power_size : (x low : ℕ) → 2 ^ field x low 4 ≤ 32768
power_size x low = pow_mono {j = 15} (omega (arith, field_below x low 4 (lit< tt)))

-- the term of a signed field of so many bits; of a nibble; the average; and the average with a row's term
pub term-size : (x low width y bit : ℕ) → 0 < width → nat_abs (term_of (signed_field x low width) (field y bit 4)) ≤ 2 ^ (width - 1) * 2 ^ field y bit 4
term-size x low width y bit h =
    rw (size-times (signed_field x low width) (2 ^ field y bit 4)) (mul-le-mul_right (2 ^ field y bit 4) (field-size x low width h))

pub nibble-size : (w : ℕ → ℕ) (first k : ℕ) → nat_abs (nibble w first k) ≤ 32768
nibble-size w first k = omega (arith, field-size (w (first + k / 4)) (4 * (k % 4)) 4 (lit< tt))

pub nibble-term : (w : ℕ → ℕ) (first k x low : ℕ) → nat_abs (term_of (nibble w first k) (field x low 4)) ≤ 0x40000
nibble-term w first k x low = le_trans (term-size (w (first + k / 4)) (4 * (k % 4)) 4 x low (lit< tt)) (mul-le-mul_left 8 (power_size x low))

pub average-size : (w : ℕ → ℕ) (base : ℕ) → nat_abs (average w base) ≤ 0x8000
average-size w base = field-size (w (base + 1)) 0 16 (lit< tt)

pub row-sum-size : (w : ℕ → ℕ) (base r : ℕ) → nat_abs (row_sum w base r) ≤ 0x48000
unfolding row_sum
row-sum-size w base r = omega (arith, size-sum (average w base) (row_term w base r), average-size w base, nibble-term w (base + 2) r (w base) 8)

pub kta-average-size : (w : ℕ → ℕ) (p : ℕ) → nat_abs (kta_average w p) ≤ 128
kta-average-size w p = let k = chessboard p in field-size (w (0x36 + k / 2)) (8 * (1 - k % 2)) 8 (lit< tt)

-- a remainder of six bits, and one of three
pub remainder-size : (w : ℕ → ℕ) (base low p : ℕ) → nat_abs (remainder_term w base low p) ≤ 32 * 2 ^ field (w base) 0 4
remainder-size w base low p = term-size (w (0x40 + p)) low 6 (w base) 0 (lit< tt)

pub kta-term-size : (w : ℕ → ℕ) (p : ℕ) → nat_abs (kta_term w p) ≤ 4 * 2 ^ field (w 0x38) 0 4
kta-term-size w p = term-size (w (0x40 + p)) 1 3 (w 0x38) 0 (lit< tt)

-- ---- in the machine
pub mag-size : (z : ℤ) → mag z ≤ nat_abs z
mag-size (pos n) = omega arith
mag-size (negsuc n) = omega arith

-- a call's result whose size is known
pub sized : (w : Width) {z v : ℤ} {n : ℕ} → z ≡ v → nat_abs v ≤ n → T (leb (n + 1) (2 ^ hbits w)) → Is (to_z w (of_z w z)) v (n + 1)
sized w {z} {v} {n} e h t = called w e (subst (λ (x : ℤ). mag x < n + 1) (sym e) (omega (arith, mag-size v, h))) t
