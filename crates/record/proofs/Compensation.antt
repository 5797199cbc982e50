-- The compensation pixel's answers are the datasheet's of the same subpage: the record keeps its two numbers in the datasheet's order, and C1 goes to subpage 1 when
-- interleaved and to no other.
-- Assumes nothing.
use mathlib.Core.Path.{◌≡◌, refl, sym, ap}
use mathlib.Core.Bool.{Bool, true, false}
use mathlib.Core.Logic.{◌↔◌}
use Prim.Native.Nat.{ℕ, ◌^◌, ◌<◌}
use native.Mathlib.Omega.{arith}
use lib.IntN.{ℤ, pos}
use lib.Ieee.{Float, nan}
use lib.ListN.{get_or}
use mathlib.Core.List.{List}
use Rattle.std.specs.Prelude.{Option, Some, None}
use Rattle.exact.specs.Dyadic.{plus_zero}
use Rattle.exact.proofs.Values.{zero_is}
use Rattle.camera.specs.declared.AccessPattern.{AccessPattern}
use Rattle.camera.specs.declared.AccessPattern.TheVariants.{Interleave, Chess}
use Rattle.camera.specs.declared.Subpage.{Subpage}
use Rattle.camera.specs.declared.Subpage.TheVariants.{Zero, One}
use Rattle.exact.specs.Fraction.{float}
use Rattle.record.specs.Fields.{record_of}
use Rattle.record.specs.Questions.{correction_cp, alpha_cp_of, offset_reference_cp_of}
use Rattle.datasheet.specs.Formulas as D
use Rattle.record.proofs.Agreement.{agrees}

-- the datasheet numbers subpages 0 and 1, and reads interleaved or not
abbrev numbered : Subpage → ℕ
numbered Zero = 0
numbered One = 1

abbrev interleaved : AccessPattern → Bool
interleaved Interleave = true
interleaved Chess = false

module _ (w : ℕ → ℕ) (words : (n : ℕ) → w n < 2 ^ 16) where
  abbrev EE : ℕ → ℕ
  EE = D.addressed w

  pub alpha-zero : alpha_cp_of (record_of w) Zero ≡ float (D.alpha_cp_0 EE)
  unfolding alpha_cp_of
  alpha-zero = ap (λ (l : List Float). get_or l 0 nan) (agrees w words).alpha_cp

  pub alpha-one : alpha_cp_of (record_of w) One ≡ float (D.alpha_cp_1 EE)
  unfolding alpha_cp_of
  alpha-one = ap (λ (l : List Float). get_or l 1 nan) (agrees w words).alpha_cp

  pub offset-zero : offset_reference_cp_of (record_of w) Zero ≡ D.off_cp_0 EE
  unfolding offset_reference_cp_of
  offset-zero = ap (λ (l : List ℤ). get_or l 0 (pos 0)) (agrees w words).offset_reference_cp

  pub offset-one : offset_reference_cp_of (record_of w) One ≡ D.off_cp_1 EE
  unfolding offset_reference_cp_of
  offset-one = ap (λ (l : List ℤ). get_or l 1 (pos 0)) (agrees w words).offset_reference_cp

  -- what is added to the compensation pixel's offset
  abbrev added : Option Float → Float
  added None = plus_zero
  added (Some x) = x

  pub cp-corrected : (pattern : AccessPattern) (subpage : Subpage) → added (correction_cp (record_of w) pattern subpage) ≡ float (D.cp_correction EE (interleaved pattern) (numbered subpage))
  unfolding correction_cp D.cp_correction
  cp-corrected Interleave Zero = sym (zero_is 4)
  cp-corrected Interleave One = (agrees w words).interleave_correction_cp
  cp-corrected Chess Zero = sym (zero_is 4)
  cp-corrected Chess One = sym (zero_is 4)

  -- and it is given exactly there, whatever C1 is
  pub cp-given : (pattern : AccessPattern) (subpage : Subpage)
      → (correction_cp (record_of w) pattern subpage ≡ Some (float (D.il_chess_c1 EE))) ↔ ((interleaved pattern ≡ true) × (numbered subpage ≡ 1))
  unfolding correction_cp
  cp-given Interleave Zero = (λ e. let z : ◌≡◌ {A = ℕ} 0 1 = cc in absurd (omega arith), λ k. absurd (omega (arith, k.1)))
  cp-given Interleave One = (λ e. (refl, refl), λ k. ap Some (agrees w words).interleave_correction_cp)
  cp-given Chess Zero = (λ e. let z : ◌≡◌ {A = ℕ} 0 1 = cc in absurd (omega arith), λ k. absurd (omega (arith, k.1)))
  cp-given Chess One = (λ e. let z : ◌≡◌ {A = ℕ} 0 1 = cc in absurd (omega arith), λ k. let z : ◌≡◌ {A = ℕ} 0 1 = cc in absurd (omega arith))
