-- What fails is what the decoder refuses: the names of a pixel's steps go with the steps one for one, so the first name outside is that of the first step outside; and the
-- decoder's refusal names the table and the pixel of one of them.
-- Assumes nothing.
use Prim.Native.Nat.{ℕ, ◌<◌}
use mathlib.Core.Path.{◌≡◌, refl, sym, ap, subst, ◌∙◌}
use mathlib.Core.Bool.{Bool, true, false, cond}
use mathlib.Core.List.{List, [], ◌∷◌, map}
use native.Mathlib.Nat.{zero-add}
use native.Mathlib.Omega.{arith}
use Rattle.std.specs.Prelude.{Option, None, Some}
use Rattle.refusal.specs.Code.{accepted_by, or_else, Verdict, accepted}
use Rattle.refusal.specs.declared.Table.{Table}
use Rattle.refusal.specs.declared.Table.TheVariants.{Offset, Alpha, Kta}
use Rattle.refusal.proofs.Apart.{accepted-none}
use Rattle.refusal.proofs.Order.{or-passed, or-refused}
use Rattle.util.specs.Sums.{in16}
use Rattle.steps.specs.Steps.{Step, value_in, refusal_in, first_outside}
use Rattle.steps.proofs.Meaning.{found-pixel}
use Rattle.walk.specs.Walk.{term_steps, pixel_steps, table_steps, walk}
use Rattle.walk.proofs.Walked.{walk-order, walk-calm}
use Rattle.explanation.specs.Explanation.{step_names, first_named, failure_in, refusal_for, table_in, pixel_in}
use Rattle.explanation.specs.declared.Failure.{Failure}
use Rattle.explanation.specs.declared.Failure.TheVariants.{Row, Column, Remainder, Sum}

-- ---- names and steps that go together
module _ (t : Table) (p : ℕ) where
  unfoldable Paired : List Failure → List Step → Type 0
  Paired [] [] = Unit {0}
  Paired [] (s ∷ steps) = ⊥
  Paired (f ∷ names) [] = ⊥
  Paired (f ∷ names) (s ∷ steps) = (refusal_for (Some f) t p ≡ refusal_in s) × Paired names steps

  first-of-both : (names : List Failure) (steps : List Step) → Paired names steps → first_outside steps ≡ refusal_for (first_named names (map value_in steps)) t p
  unfolding Paired first_outside first_named
  first-of-both [] [] h = refl
  first-of-both [] (s ∷ steps) h = absurd h
  first-of-both (f ∷ names) [] h = absurd h
  first-of-both (f ∷ names) (s ∷ steps) h = go (in16 (value_in s)) (first-of-both names steps h.1)
    where
      go : (b : Bool) → first_outside steps ≡ refusal_for (first_named names (map value_in steps)) t p
          → cond b (first_outside steps) (refusal_in s) ≡ refusal_for (cond b (first_named names (map value_in steps)) (Some f)) t p
      go true e = e
      go false e = sym h.0

paired : (w : ℕ → ℕ) (t : Table) (p : ℕ) → Paired t p (step_names t) (pixel_steps w t p)
unfolding Paired pixel_steps term_steps
paired w Offset p = (refl, (refl, (refl, (refl, tt))))
paired w Alpha p = (refl, (refl, (refl, tt)))
paired w Kta p = (refl, (refl, tt))

pub failure-refusal : (w : ℕ → ℕ) (t : Table) (p : ℕ) → first_outside (pixel_steps w t p) ≡ refusal_for (failure_in w t p) t p
failure-refusal w t p = first-of-both t p (step_names t) (pixel_steps w t p) (paired w t p)

-- ---- a refusal names the table and the pixel that it is of
named-own : (f : Option Failure) (t u : Table) (p q : ℕ) (r : Verdict) → refusal_for f t p ≡ r → (r ≡ accepted → ⊥) → (table_in r u ≡ t) × (pixel_in r q ≡ p)
named-own None t u p q r e some = absurd (some (sym e))
named-own (Some Row) t u p q r e some = rw (← e) (refl, refl)
named-own (Some Column) t u p q r e some = rw (← e) (refl, refl)
named-own (Some Remainder) t u p q r e some = rw (← e) (refl, refl)
named-own (Some Sum) t u p q r e some = rw (← e) (refl, refl)

-- the first refusal of two
first-or : {X : Type 0} (a b r : Verdict) → or_else a b ≡ r → (a ≡ r → X) → (b ≡ r → X) → X
first-or {X} a b r e f g = go (accepted_by a) refl
  where
    go : (k : Bool) → accepted_by a ≡ k → X
    go true h = g (sym (or-passed a b h) ∙ e)
    go false h = f (sym (or-refused a b h) ∙ e)

-- ---- what the walk finds, where table u and pixel q are asked for
module _ (w : ℕ → ℕ) (u : Table) (q : ℕ) (in-range : q < 768) where
  abbrev At : Verdict → Type 0
  At r = (pixel_in r q < 768) × (first_outside (pixel_steps w (table_in r u) (pixel_in r q)) ≡ r)

  at_table : (t : Table) (r : Verdict) → (r ≡ accepted → ⊥) → first_outside (table_steps w t) ≡ r → At r
  unfolding table_steps
  at_table t r some e =
      let f = found-pixel (pixel_steps w t) 768 0 r e some in
      let at : first_outside (pixel_steps w t f.0) ≡ r = rw (zero-add f.0) at f.2 in
      let own = named-own (failure_in w t f.0) t u f.0 q r (sym (failure-refusal w t f.0) ∙ at) some in
      (rw own.1 f.1, rw (own.0, own.1) at)

  pub found_at : (r : Verdict) → first_outside (walk w) ≡ r → At r
  found_at r e = go (accepted_by r) refl
    where
      o : Verdict
      o = first_outside (table_steps w Offset)

      a : Verdict
      a = first_outside (table_steps w Alpha)

      k : Verdict
      k = first_outside (table_steps w Kta)

      go : (b : Bool) → accepted_by r ≡ b → At r
      go true h =
          let none : r ≡ accepted = accepted-none r h in
          subst At (sym none) (in-range, walk-calm w (e ∙ none) u q in-range)
      go false h =
          let some : r ≡ accepted → ⊥ = λ n. let y : ◌≡◌ {A = Bool} true false = sym (ap accepted_by n) ∙ h in let z : ◌≡◌ {A = ℕ} 0 1 = cc in omega arith in
          first-or o (or_else a k) r (sym (walk-order w) ∙ e) (at_table Offset r some) (λ d. first-or a k r d (at_table Alpha r some) (at_table Kta r some))

  -- the pixel that is explained, and that its failure is what the decoder refuses
  pub explained-pixel : pixel_in (first_outside (walk w)) q < 768
  explained-pixel = (found_at (first_outside (walk w)) refl).0

  pub explained-failure : let r = first_outside (walk w) in refusal_for (failure_in w (table_in r u) (pixel_in r q)) (table_in r u) (pixel_in r q) ≡ r
  explained-failure = let r = first_outside (walk w) in sym (failure-refusal w (table_in r u) (pixel_in r q)) ∙ (found_at r refl).1
