-- The parts hold the terms and the sums of the definition that the decoder is held to: both read the same bits of the same words.
-- Assumes nothing.
use Prim.Native.Nat.{ℕ, suc, ◌-◌, ◌/◌, ◌%◌}
use mathlib.Core.Path.{◌≡◌, refl, sym, ap, ◌∙◌}
use mathlib.Core.List.{map}
use native.Mathlib.Nat.{mul-one, add-zero}
use native.Mathlib.Omega.{arith}
use borrow.Author.Tests.{lt-ltb}
use lib.IntN.{ℤ, pos, negsuc, neg_ℤ, ◌+ℤ◌}
use Rattle.std.specs.Prelude.{Some}
use Rattle.exact.specs.Dyadic.{dyadic}
use Rattle.refusal.specs.declared.Table.{Table}
use Rattle.refusal.specs.declared.Table.TheVariants.{Offset, Alpha, Kta}
use Rattle.util.specs.Sums.{term_of}
use Rattle.steps.specs.Steps.{value_in}
use Rattle.walk.specs.Parts.{average, row_term, column_term, remainder_term, row_sum, column_sum, whole_sum, kta_average, kta_term, kta_sum}
use Rattle.walk.specs.Walk.{term_steps, pixel_steps}
use Rattle.explanation.specs.Explanation.{shared_parts, kta_parts, parts_in, exponent_in, entry_in, step_names, number_of}
use Rattle.explanation.specs.declared.Entry.TheVariants.{Whole, Fraction}
use Rattle.explanation.specs.declared.Failure.{Failure}

-- an average has no scale
pub unscaled : (z : ℤ) → term_of z 0 ≡ z
unscaled (pos n) = ap pos (mul-one n)
unscaled (negsuc n) = ap (λ (m : ℕ). neg_ℤ (pos m)) (mul-one (suc n))

add_none : (z : ℤ) → z +ℤ pos 0 ≡ z
add_none (pos n) = ap pos (add-zero n)
add_none (negsuc n) = rw (lt-ltb 0 (suc n) (omega arith)) (ap negsuc (let e : suc n - 1 ≡ n = omega arith in e))

-- ---- offset and alpha
module _ (w : ℕ → ℕ) (base low p : ℕ) where
  pub record Shared : Type 0 where
    pub average_is : (shared_parts w base low p).average.term ≡ average w base
    pub row_is : (shared_parts w base low p).row.term ≡ row_term w base (p / 32)
    pub after_row_is : (shared_parts w base low p).after_row ≡ row_sum w base (p / 32)
    pub column_is : (shared_parts w base low p).column.term ≡ column_term w base (p % 32)
    pub after_column_is : (shared_parts w base low p).after_column ≡ column_sum w base p
    pub remainder_is : (shared_parts w base low p).remainder.term ≡ remainder_term w base low p
    pub numerator_is : (shared_parts w base low p).numerator ≡ whole_sum w base low p

  pub shared-terms : Shared
  unfolding shared_parts row_sum column_sum whole_sum
  shared-terms =
      let a = unscaled (average w base) in
      record {
        average_is = a;
        row_is = refl;
        after_row_is = ap (λ (z : ℤ). z +ℤ row_term w base (p / 32)) a;
        column_is = refl;
        after_column_is = ap (λ (z : ℤ). z +ℤ row_term w base (p / 32) +ℤ column_term w base (p % 32)) a;
        remainder_is = refl;
        numerator_is = ap (λ (z : ℤ). z +ℤ row_term w base (p / 32) +ℤ column_term w base (p % 32) +ℤ remainder_term w base low p) a;
      }

-- ---- Kta: its one term
module _ (w : ℕ → ℕ) (p : ℕ) where
  pub record Single : Type 0 where
    pub average_is : (kta_parts w p).average.term ≡ kta_average w p
    pub remainder_is : (kta_parts w p).remainder.term ≡ kta_term w p
    pub numerator_is : (kta_parts w p).numerator ≡ kta_sum w p

  pub kta-terms : Single
  unfolding kta_parts kta_sum
  kta-terms =
      let a = unscaled (kta_average w p) in
      record {
        average_is = a;
        remainder_is = refl;
        numerator_is = ap (λ (z : ℤ). z +ℤ kta_term w p) (add_none _ ∙ (add_none _ ∙ a));
      }

  -- ---- they add up to the entry: offset's is the sum, alpha's and Kta's that sum over a power of two
  pub offset-adds-up : entry_in w Offset p ≡ Whole (parts_in w Offset p).numerator
  offset-adds-up = sym (λ i. Whole ((shared-terms w 0x10 10 p).numerator_is i))

  pub alpha-adds-up : entry_in w Alpha p ≡ Fraction (dyadic (parts_in w Alpha p).numerator (exponent_in w Alpha))
  alpha-adds-up = sym (λ i. Fraction (dyadic ((shared-terms w 0x20 4 p).numerator_is i) (exponent_in w Alpha)))

  pub kta-adds-up : entry_in w Kta p ≡ Fraction (dyadic (parts_in w Kta p).numerator (exponent_in w Kta))
  kta-adds-up = sym (λ i. Fraction (dyadic (kta-terms.numerator_is i) (exponent_in w Kta)))

  -- ---- the walk's steps of a pixel are its named numbers, one for one
  pub steps-named : (t : Table) → map value_in (pixel_steps w t p) ≡ map (λ (f : Failure). number_of (Some f) (parts_in w t p)) (step_names t)
  unfolding pixel_steps term_steps shared_parts kta_parts
  steps-named Offset = rw (shared-terms w 0x10 10 p).numerator_is
  steps-named Alpha = refl
  steps-named Kta = rw kta-terms.numerator_is
