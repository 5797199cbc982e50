-- The steps of a pixel are made of its terms, and so are its sums: table by table they are the same.
-- Assumes nothing.
use Prim.Native.Nat.{ℕ}
use mathlib.Core.Path.{◌≡◌, refl}
use Rattle.refusal.specs.declared.Table.{Table}
use Rattle.refusal.specs.declared.Table.TheVariants.{Offset, Alpha, Kta}
use Rattle.walk.specs.Parts.{row_sum, column_sum, whole_sum, kta_sum}
use Rattle.walk.specs.Walk.{term_steps, pixel_steps}
use Rattle.walk.specs.Inner.Single.{shared_terms, kta_terms, terms_in, steps_for}

pub shared-sum : (w : ℕ → ℕ) (base low p : ℕ) → (shared_terms w base low p).sum ≡ whole_sum w base low p
unfolding row_sum column_sum whole_sum
shared-sum w base low p = refl

pub kta-sum : (w : ℕ → ℕ) (p : ℕ) → (kta_terms w p).sum ≡ kta_sum w p
unfolding kta_sum
kta-sum w p = refl

pub steps-are : (w : ℕ → ℕ) (t : Table) (p : ℕ) → steps_for t p (terms_in w t p) ≡ pixel_steps w t p
unfolding pixel_steps term_steps row_sum column_sum whole_sum kta_sum
steps-are w Offset p = refl
steps-are w Alpha p = refl
steps-are w Kta p = refl
