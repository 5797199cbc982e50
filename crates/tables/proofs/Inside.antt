-- Where the walk finds nothing, what the code adds up row by row is what the walk has tested: the terms fit, and so do the final offsets.
-- Assumes nothing.
use mathlib.Core.Path.{◌≡◌, ap, ◌∙◌}
use mathlib.Core.Bool.{true}
use mathlib.Core.List.{List}
use Prim.Native.Nat.{ℕ, ◌+◌, ◌*◌, ◌/◌, ◌%◌, ◌^◌, ◌<◌}
use native.Mathlib.Omega.{arith}
use lib.ListN.{get_or, replicate}
use lib.IntN.{ℤ, pos}
use Rattle.refusal.specs.Code.{accepted}
use Rattle.util.specs.Words.{field}
use Rattle.util.specs.Sums.{in16}
use Rattle.walk.specs.Parts.{column_term, row_sum, whole_sum, kta_average, kta_sum}
use Rattle.steps.specs.Steps.{first_outside}
use Rattle.walk.specs.Walk.{walk}
use Rattle.walk.specs.Inner.Rows.{row_entry}
use Rattle.walk.proofs.Meaning.{TermsInside, PixelInside, walk-accepts}
use Rattle.walk.proofs.Glance.{entry-is, kta-entry}
use Rattle.walk.proofs.Sizes.{small, kta-average-size}
use Rattle.tables.specs.Inner.Rows.{TermsFit}

-- ---- offset and alpha: where the terms are inside, so is what the code makes of them
module _ (w : ℕ → ℕ) (base low : ℕ) (all : (p : ℕ) → p < 768 → TermsInside w base low p) where
  pub columns-fit : (columns : List ℤ) → ((i : ℕ) → i < 64 → get_or columns i (pos 0) ≡ column_term w base (i % 32)) → (i : ℕ) → i < 64 → in16 (get_or columns i (pos 0)) ≡ true
  columns-fit columns ec i h =
      let e : i % 32 % 32 ≡ i % 32 = omega arith in
      rw (ec i h) (rw e at (all (i % 32) (omega arith)).column)

  pub terms-fit : (power : ℕ) → power ≡ 2 ^ field (w base) 0 4 → TermsFit w low 6 power
  terms-fit power ep r c hr hc = rw ep (all (32 * r + c) (omega arith)).remainder

-- ---- Kta
pub kta-columns-fit : (w : ℕ → ℕ) (columns : List ℤ) → ((i : ℕ) → i < 64 → get_or columns i (pos 0) ≡ kta_average w i) → (i : ℕ) → i < 64 → in16 (get_or columns i (pos 0)) ≡ true
kta-columns-fit w columns ec i h = rw (ec i h) (small (kta_average w i) (omega (arith, kta-average-size w i)))

-- ---- what the walk has tested
module _ (w : ℕ → ℕ) (e : first_outside (walk w) ≡ accepted) where
  inside : (p : ℕ) → p < 768 → PixelInside w p
  inside = (walk-accepts w).0 e

  pub offset_terms : (p : ℕ) → p < 768 → TermsInside w 0x10 10 p
  offset_terms p h = (inside p h).offset_terms

  pub offset-fits : (p : ℕ) → p < 768 → in16 (whole_sum w 0x10 10 p) ≡ true
  offset-fits p h = (inside p h).offset

  pub alpha_terms : (p : ℕ) → p < 768 → TermsInside w 0x20 4 p
  alpha_terms p h = (inside p h).alpha_terms

  pub kta-terms-fit : (power : ℕ) → power ≡ 2 ^ field (w 0x38) 0 4 → TermsFit w 1 3 power
  kta-terms-fit power ep r c hr hc = rw ep (inside (32 * r + c) (omega arith)).kta_term_fits

-- ---- a pixel's entry
pub entry_at : (w : ℕ → ℕ) (base low : ℕ) (rows columns : List ℤ) (power : ℕ)
    → ((r : ℕ) → r < 24 → get_or rows r (pos 0) ≡ row_sum w base r) → ((i : ℕ) → i < 64 → get_or columns i (pos 0) ≡ column_term w base (i % 32)) → power ≡ 2 ^ field (w base) 0 4
    → (p : ℕ) → p < 768 → row_entry w rows columns low 6 power (p / 32) (p % 32) ≡ whole_sum w base low p
entry_at w base low rows columns power er ec ep p h =
    let e : 32 * (p / 32) + p % 32 ≡ p = omega arith in
    entry-is w base low rows columns power er ec ep (p / 32) (p % 32) (omega arith) (omega arith) ∙ ap (whole_sum w base low) e

pub kta-at : (w : ℕ → ℕ) (columns : List ℤ) (power : ℕ) → ((i : ℕ) → i < 64 → get_or columns i (pos 0) ≡ kta_average w i) → power ≡ 2 ^ field (w 0x38) 0 4
    → (p : ℕ) → p < 768 → row_entry w (replicate 24 (pos 0)) columns 1 3 power (p / 32) (p % 32) ≡ kta_sum w p
kta-at w columns power ec ep p h =
    let e : 32 * (p / 32) + p % 32 ≡ p = omega arith in
    kta-entry w columns power ec ep (p / 32) (p % 32) (omega arith) ∙ ap (kta_sum w) e
