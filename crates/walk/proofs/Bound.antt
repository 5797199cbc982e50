-- Where the sizes of all the numbers that can be added up stay below 2 ^ 15 together, none of them and no sum of them leaves 16 bits, so the walk finds nothing in that table;
-- for alpha, which has no sum to test, it is enough that each term by itself stays below 2 ^ 15.
-- Assumes nothing.
use mathlib.Core.Path.{◌≡◌}
use mathlib.Core.Bool.{true}
use Prim.Native.Nat.{ℕ, ◌+◌, ◌*◌, ◌/◌, ◌%◌, ◌^◌, ◌≤◌, ◌<◌}
use native.Mathlib.Nat.{mul-le-mul_left, mul-le-mul_right, le_trans}
use native.Mathlib.Omega.{arith}
use lib.IntN.{nat_abs, ◌+ℤ◌}
use Rattle.refusal.specs.Code.{accepted}
use Rattle.refusal.specs.declared.Table.TheVariants.{Offset, Alpha, Kta}
use Rattle.util.specs.Words.{field}
use Rattle.util.specs.Sums.{in16, term_of}
use Rattle.walk.specs.Parts.{nibble, average, row_term, column_term, remainder_term, row_sum, column_sum, whole_sum, kta_average, kta_term, kta_sum}
use Rattle.steps.specs.Steps.{AllInside, first_outside}
use Rattle.steps.proofs.Meaning.{inside-accepted}
use Rattle.walk.specs.Walk.{term_steps, pixel_steps, table_steps}
use Rattle.walk.specs.Inner.Calm.{Reaches, CalmOffset, CalmAlpha, CalmKta}
use Rattle.walk.proofs.Walked.{calm-table}
use Rattle.walk.proofs.Sizes.{size-sum, size-times, small, remainder-size, kta-average-size, kta-term-size}

-- ---- offset
module _ (w : ℕ → ℕ) (calm : CalmOffset w) (p : ℕ) (h : p < 768) where
  bound : nat_abs (average w 0x10) + nat_abs (row_term w 0x10 (p / 32)) + nat_abs (column_term w 0x10 (p % 32)) + 32 * 2 ^ field (w 0x10) 0 4 < 32768
  bound = calm (p / 32) (p % 32) (omega arith) (omega arith)

  whole-inside : in16 (whole_sum w 0x10 10 p) ≡ true
  unfolding whole_sum column_sum row_sum
  whole-inside =
      let a = average w 0x10 in
      let r = row_term w 0x10 (p / 32) in
      let c = column_term w 0x10 (p % 32) in
      let z = remainder_term w 0x10 10 p in
      small (a +ℤ r +ℤ c +ℤ z) (omega (arith, bound, size-sum a r, size-sum (a +ℤ r) c, size-sum (a +ℤ r +ℤ c) z, remainder-size w 0x10 10 p))

  offset-inside : AllInside (pixel_steps w Offset p)
  unfolding AllInside pixel_steps term_steps
  offset-inside = (
    small (row_term w 0x10 (p / 32)) (omega (arith, bound)),
    (
      small (column_term w 0x10 (p % 32)) (omega (arith, bound)),
      (small (remainder_term w 0x10 10 p) (omega (arith, bound, remainder-size w 0x10 10 p)), (whole-inside, tt)),
    ),
  )

pub calm-offset : (w : ℕ → ℕ) → CalmOffset w → first_outside (table_steps w Offset) ≡ accepted
calm-offset w calm = calm-table w Offset (λ p h. inside-accepted (pixel_steps w Offset p) (offset-inside w calm p h))

-- ---- alpha
pub calm-alpha : (w : ℕ → ℕ) → CalmAlpha w → first_outside (table_steps w Alpha) ≡ accepted
unfolding AllInside pixel_steps term_steps
calm-alpha w calm = calm-table w Alpha (λ p h. inside-accepted (pixel_steps w Alpha p) (all p h))
  where
    all : (p : ℕ) → p < 768 → AllInside (pixel_steps w Alpha p)
    all p h =
        let b = calm (p / 32) (p % 32) (omega arith) (omega arith) in (
          small (row_term w 0x20 (p / 32)) b.0,
          (
            small (column_term w 0x20 (p % 32)) b.1,
            (small (remainder_term w 0x20 4 p) (omega (arith, b.2, remainder-size w 0x20 4 p)), tt),
          ),
        )

-- ---- Kta
pub calm-kta : (w : ℕ → ℕ) → CalmKta w → first_outside (table_steps w Kta) ≡ accepted
unfolding AllInside pixel_steps kta_sum
calm-kta w calm = calm-table w Kta (λ p h. inside-accepted (pixel_steps w Kta p) (all p))
  where
    size : (p : ℕ) → nat_abs (kta_sum w p) ≤ nat_abs (kta_average w p) + nat_abs (kta_term w p)
    size p = size-sum (kta_average w p) (kta_term w p)

    all : (p : ℕ) → AllInside (pixel_steps w Kta p)
    all p = (small (kta_term w p) (omega (arith, calm, kta-term-size w p)), (small (kta_sum w p) (omega (arith, calm, kta-average-size w p, kta-term-size w p, size p)), tt))

-- ---- what the code tests
pub product_small : {m n : ℕ} → m ≤ 32768 → n ≤ 32768 → m * n ≤ 0x40000000
product_small {m} {n} h k = le_trans (mul-le-mul_right n h) (mul-le-mul_left 32768 k)

pub products : (w : ℕ → ℕ) (first low base count m n k : ℕ) → Reaches w first count m → n ≡ 2 ^ field (w base) low 4 → k < count → nat_abs (term_of (nibble w first k) (field (w base) low 4)) ≤ m * n
products w first low base count m n k q e h =
    rw (size-times (nibble w first k) (2 ^ field (w base) low 4), e) (mul-le-mul_right (2 ^ field (w base) low 4) (q.each k h))
