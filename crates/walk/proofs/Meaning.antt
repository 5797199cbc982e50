-- What the walk tests, pixel by pixel: it accepts exactly where every term and every final sum is inside, and a refused sum is the final one of its pixel and never alpha's,
-- since the walk lists no other sum.
-- Assumes nothing.
use mathlib.Core.Path.{◌≡◌, refl, subst}
use mathlib.Core.Logic.{◌↔◌}
use mathlib.Core.Bool.{true}
use mathlib.Core.List.{List, [], ◌∷◌, ◌++◌}
use Prim.Native.Nat.{ℕ, zero, suc, ◌+◌, ◌/◌, ◌%◌, ◌<◌}
use native.Mathlib.Omega.{arith}
use Rattle.std.specs.Prelude.{Err}
use Rattle.refusal.specs.Code.{accepted}
use Rattle.refusal.specs.declared.Table.{Table}
use Rattle.refusal.specs.declared.Table.TheVariants.{Offset, Alpha, Kta}
use Rattle.refusal.specs.declared.Refusal.TheVariants.{SumOutside}
use Rattle.util.specs.Sums.{in16}
use Rattle.steps.specs.Steps.{Step, term, sum, refusal_in, first_outside, steps_from, AllInside, FirstIs}
use Rattle.steps.proofs.Meaning.{accepted-inside, inside-accepted}
use Rattle.walk.specs.Parts.{row_term, column_term, remainder_term, whole_sum, kta_term, kta_sum}
use Rattle.walk.specs.Walk.{term_steps, pixel_steps, table_steps, walk}
use Rattle.walk.proofs.Walked.{calm_walk, walk-calm}

-- ---- accepted
pub record TermsInside (w : ℕ → ℕ) (base low p : ℕ) : Type 0 where
  pub row : in16 (row_term w base (p / 32)) ≡ true
  pub column : in16 (column_term w base (p % 32)) ≡ true
  pub remainder : in16 (remainder_term w base low p) ≡ true

pub record PixelInside (w : ℕ → ℕ) (p : ℕ) : Type 0 where
  pub offset_terms : TermsInside w 0x10 10 p
  pub offset : in16 (whole_sum w 0x10 10 p) ≡ true
  pub alpha_terms : TermsInside w 0x20 4 p
  pub kta_term_fits : in16 (kta_term w p) ≡ true
  pub kta : in16 (kta_sum w p) ≡ true

pub walk-accepts : (w : ℕ → ℕ) → (first_outside (walk w) ≡ accepted) ↔ ((p : ℕ) → p < 768 → PixelInside w p)
unfolding AllInside pixel_steps term_steps
walk-accepts w = (to, from)
  where
    to : first_outside (walk w) ≡ accepted → (p : ℕ) → p < 768 → PixelInside w p
    to e p h =
        let o = accepted-inside (pixel_steps w Offset p) (walk-calm w e Offset p h) in
        let a = accepted-inside (pixel_steps w Alpha p) (walk-calm w e Alpha p h) in
        let k = accepted-inside (pixel_steps w Kta p) (walk-calm w e Kta p h) in
        record {
          offset_terms = record { row = o.0; column = o.1.0; remainder = o.1.1.0 };
          offset = o.1.1.1.0;
          alpha_terms = record { row = a.0; column = a.1.0; remainder = a.1.1.0 };
          kta_term_fits = k.0;
          kta = k.1.0;
        }

    inside : (t : Table) (p : ℕ) → PixelInside w p → AllInside (pixel_steps w t p)
    inside Offset p i = let t = i.offset_terms in (t.row, (t.column, (t.remainder, (i.offset, tt))))
    inside Alpha p i = let t = i.alpha_terms in (t.row, (t.column, (t.remainder, tt)))
    inside Kta p i = (i.kta_term_fits, (i.kta, tt))

    from : ((p : ℕ) → p < 768 → PixelInside w p) → first_outside (walk w) ≡ accepted
    from i = calm_walk w (λ t p h. inside-accepted (pixel_steps w t p) (inside t p (i p h)))

-- ---- refused for a sum
module _ (w : ℕ → ℕ) where
  -- s is the final sum of pixel p; alpha's is never tested
  unfoldable pub Final : Table → ℕ → Step → Type 0
  Final Offset p s = s ≡ sum Offset p (whole_sum w 0x10 10 p)
  Final Alpha p s = ⊥
  Final Kta p s = s ≡ sum Kta p (kta_sum w p)

  -- a step is a term, or the final sum of the pixel that it names
  unfoldable Named : Step → Type 0
  Named (term t p z) = Unit {0}
  Named (sum t p z) = Final t p (sum t p z)

  unfoldable AllNamed : List Step → Type 0
  AllNamed [] = Unit {0}
  AllNamed (s ∷ rest) = Named s × AllNamed rest

  named-joined : (xs ys : List Step) → AllNamed xs → AllNamed ys → AllNamed (xs ++ ys)
  unfolding AllNamed
  named-joined [] ys a b = b
  named-joined (s ∷ xs) ys a b = (a.0, named-joined xs ys a.1 b)

  named_in : (before : List Step) (s : Step) (after : List Step) → AllNamed (before ++ (s ∷ after)) → Named s
  unfolding AllNamed
  named_in [] s after a = a.0
  named_in (x ∷ before) s after a = named_in before s after a.1

  named-pixel : (t : Table) (p : ℕ) → AllNamed (pixel_steps w t p)
  unfolding AllNamed Named Final pixel_steps term_steps
  named-pixel Offset p = (tt, (tt, (tt, (refl, tt))))
  named-pixel Alpha p = (tt, (tt, (tt, tt)))
  named-pixel Kta p = (tt, (refl, tt))

  named-from : (t : Table) (n p : ℕ) → AllNamed (steps_from (pixel_steps w t) n p)
  unfolding AllNamed steps_from
  named-from t zero p = tt
  named-from t (suc n) p = named-joined (pixel_steps w t p) (steps_from (pixel_steps w t) n (p + 1)) (named-pixel t p) (named-from t n (p + 1))

  named-walk : AllNamed (walk w)
  unfolding walk table_steps
  named-walk =
      named-joined (table_steps w Offset) (table_steps w Alpha ++ table_steps w Kta) (named-from Offset 768 0)
      (named-joined (table_steps w Alpha) (table_steps w Kta) (named-from Alpha 768 0) (named-from Kta 768 0))

  pub final-sum : (t : Table) (p : ℕ) (f : FirstIs (walk w) (Err (SumOutside t p))) → Final t p f.step
  unfolding Named
  final-sum t p f = go f.step f.refuses (named_in f.before f.step f.after (subst AllNamed f.split named-walk))
    where
      go : (s : Step) → refusal_in s ≡ Err (SumOutside t p) → Named s → Final t p s
      go (term u q z) e n = let z : ◌≡◌ {A = ℕ} 0 1 = cc in absurd (omega arith)
      go (sum u q z) e n =
          let table : u ≡ t = cc in
          let pixel : q ≡ p = cc in
          subst (λ (x : Table). Final x p (sum u q z)) table (subst (λ (y : ℕ). Final u y (sum u q z)) pixel n)
