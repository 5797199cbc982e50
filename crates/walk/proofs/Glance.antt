-- What a glance at a row shows: the sums that are made row by row are those of the pixels, and where they and the terms are inside, the pixels have no fault.
-- Assumes nothing.
use mathlib.Core.Path.{◌≡◌, refl, ap, ◌∙◌}
use mathlib.Core.List.{List}
use Prim.Native.Nat.{ℕ, zero, suc, ◌+◌, ◌-◌, ◌*◌, ◌/◌, ◌%◌, ◌^◌, ◌<◌, ◌≤◌}
use native.Mathlib.Nat.{lt_of_lt_of_le}
use native.Mathlib.Omega.{arith}
use lib.ListN.{get_or, replicate}
use lib.IntN.{ℤ, pos, +ℤ_idl}
use Rattle.refusal.specs.declared.Table.TheVariants.{Offset, Alpha, Kta}
use Rattle.util.specs.Words.{field, signed_field}
use Rattle.util.specs.Pixels.{chessboard}
use Rattle.util.proofs.Pixels.{row_of, column-of}
use Rattle.walk.specs.Parts.{column_term, row_sum, column_sum, whole_sum, kta_average, kta_sum}
use Rattle.steps.specs.Steps.{AllInside}
use Rattle.walk.specs.Walk.{term_steps, pixel_steps}
use Rattle.walk.specs.Inner.Rows.{column_part, row_entry, Small, SharedFit, Vouches}
use Rattle.steps.proofs.Meaning.{inside-accepted}
use Rattle.walk.proofs.Sizes.{nibble-term, row-sum-size, kta-average-size}

pub zeros-at : (n r : ℕ) → get_or (replicate n (pos 0)) r (pos 0) ≡ pos 0
zeros-at zero r = refl
zeros-at (suc n) zero = refl
zeros-at (suc n) (suc r) = zeros-at n r

pub zeros-small : (n m : ℕ) → Small n (replicate m (pos 0))
zeros-small n m k h = rw (zeros-at m k) (omega arith)

-- ---- offset and alpha
module _ (w : ℕ → ℕ) (base low : ℕ) (rows columns : List ℤ) (power : ℕ)
    (er : (r : ℕ) → r < 24 → get_or rows r (pos 0) ≡ row_sum w base r) (ec : (i : ℕ) → i < 64 → get_or columns i (pos 0) ≡ column_term w base (i % 32))
    (ep : power ≡ 2 ^ field (w base) 0 4) where
  part-is : (r c : ℕ) → r < 24 → c < 32 → column_part rows columns r c ≡ column_sum w base (32 * r + c)
  unfolding column_sum
  part-is r c hr hc =
      let m : (32 * (r % 2) + c) % 32 ≡ c = omega arith in
      rw (er r hr, ec (32 * (r % 2) + c) (omega arith), m, row_of r c hc, column-of r c hc)

  pub entry-is : (r c : ℕ) → r < 24 → c < 32 → row_entry w rows columns low 6 power r c ≡ whole_sum w base low (32 * r + c)
  unfolding whole_sum
  entry-is r c hr hc = rw (part-is r c hr hc, ep)

pub rows-small : (w : ℕ → ℕ) (base : ℕ) (rows : List ℤ) → ((r : ℕ) → r < 24 → get_or rows r (pos 0) ≡ row_sum w base r) → Small 24 rows
rows-small w base rows er r h = rw (er r h) (omega (arith, row-sum-size w base r))

pub columns-small : (w : ℕ → ℕ) (base : ℕ) (columns : List ℤ) → ((i : ℕ) → i < 64 → get_or columns i (pos 0) ≡ column_term w base (i % 32)) → Small 64 columns
columns-small w base columns ec i h = rw (ec i h) (omega (arith, nibble-term w (base + 8) (i % 32) (w base) 4))

pub offset-vouches : (w : ℕ → ℕ) (rows columns : List ℤ) (power n : ℕ)
    → ((r : ℕ) → r < 24 → get_or rows r (pos 0) ≡ row_sum w 0x10 r) → ((i : ℕ) → i < 64 → get_or columns i (pos 0) ≡ column_term w 0x10 (i % 32)) → power ≡ 2 ^ field (w 0x10) 0 4
    → n ≤ 24 → SharedFit w 0x10 n → Vouches w Offset rows columns 10 6 power n
unfolding AllInside pixel_steps term_steps
offset-vouches w rows columns power n er ec ep hn fit r c hr hc own entry =
    let shared = fit r c hr hc in
    inside-accepted (pixel_steps w Offset (32 * r + c)) (
      rw (row_of r c hc) shared.0,
      (
        rw (column-of r c hc) shared.1,
        (rw ep at own, (rw (entry-is w 0x10 10 rows columns power er ec ep r c (lt_of_lt_of_le hr hn) hc) at entry, tt)),
      ),
    )

pub alpha-vouches : (w : ℕ → ℕ) (rows columns : List ℤ) (power n : ℕ) → power ≡ 2 ^ field (w 0x20) 0 4 → SharedFit w 0x20 n → Vouches w Alpha rows columns 4 6 power n
unfolding AllInside pixel_steps term_steps
alpha-vouches w rows columns power n ep fit r c hr hc own entry =
    let shared = fit r c hr hc in
    inside-accepted (pixel_steps w Alpha (32 * r + c)) (rw (row_of r c hc) shared.0, (rw (column-of r c hc) shared.1, (rw ep at own, tt)))

-- ---- Kta: its rows share nothing
module _ (w : ℕ → ℕ) (columns : List ℤ) (power : ℕ)
    (ec : (i : ℕ) → i < 64 → get_or columns i (pos 0) ≡ kta_average w i) (ep : power ≡ 2 ^ field (w 0x38) 0 4) where
  same_place : (r c : ℕ) → c < 32 → chessboard (32 * (r % 2) + c) ≡ chessboard (32 * r + c)
  same_place r c hc =
      let a : (32 * (r % 2) + c) / 32 ≡ r % 2 = omega arith in
      let b : (32 * (r % 2) + c) % 32 ≡ c = omega arith in
      rw (a, b, row_of r c hc, column-of r c hc) (omega arith)

  kta-part : (r c : ℕ) → c < 32 → column_part (replicate 24 (pos 0)) columns r c ≡ kta_average w (32 * r + c)
  kta-part r c hc =
      rw (zeros-at 24 r, ec (32 * (r % 2) + c) (omega arith))
      (+ℤ_idl (kta_average w (32 * (r % 2) + c)) ∙ ap (λ (k : ℕ). signed_field (w (0x36 + k / 2)) (8 * (1 - k % 2)) 8) (same_place r c hc))

  pub kta-entry : (r c : ℕ) → c < 32 → row_entry w (replicate 24 (pos 0)) columns 1 3 power r c ≡ kta_sum w (32 * r + c)
  unfolding kta_sum
  kta-entry r c hc = rw (kta-part r c hc, ep)

  pub kta-small : Small 64 columns
  kta-small i h = rw (ec i h) (omega (arith, kta-average-size w i))

  pub kta-vouches : (n : ℕ) → Vouches w Kta (replicate 24 (pos 0)) columns 1 3 power n
  unfolding AllInside pixel_steps
  kta-vouches n r c hr hc own entry = inside-accepted (pixel_steps w Kta (32 * r + c)) (rw ep at own, (rw (kta-entry r c hc) at entry, tt))
