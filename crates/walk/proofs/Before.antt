-- What the rule that tests only final sums changed: it accepts every image that the running sums let pass, and more, and what it accepts more was refused for a sum.
-- The tables' entries are the same sums under both.
-- Assumes nothing.
use mathlib.Core.Path.{◌≡◌, refl}
use mathlib.Core.Bool.{Bool, true, false, cond}
use mathlib.Core.List.{List, [], ◌∷◌, ◌++◌}
use Prim.Native.Nat.{ℕ, zero, suc, ◌+◌, ◌/◌, ◌%◌, ◌<◌, suc-le-suc}
use native.Mathlib.Nat.{add-zero, zero-add}
use native.Mathlib.Omega.{arith}
use lib.Dec.{eqb, leb, ltb}
use Rattle.std.specs.Prelude.{Err}
use Rattle.refusal.specs.declared.Table.{Table}
use Rattle.refusal.specs.declared.Table.TheVariants.{Offset, Alpha, Kta}
use Rattle.refusal.specs.declared.Refusal.TheVariants.{SumOutside}
use Rattle.refusal.specs.Code.{code_of, accepted_by, or_else, Verdict, accepted}
use Rattle.util.specs.Sums.{in16}
use Rattle.steps.specs.Steps.{Step, term, sum, first_outside, AllInside, steps_from}
use Rattle.refusal.proofs.Order.{or-refused, or-passed}
use Rattle.steps.proofs.Order.{first-append}
use Rattle.steps.proofs.Meaning.{accepted-inside, inside-accepted}
use Rattle.walk.specs.Parts.{row_term, row_sum, column_term, column_sum, remainder_term, whole_sum, kta_term, kta_sum}
use Rattle.walk.specs.Walk.{term_steps, pixel_steps, table_steps, walk}
use Rattle.walk.proofs.Walked.{calm_walk, walk-calm, pixels-calm}

-- ---- the rule as it was: every running sum was a step. Nothing decodes by it.
unfoldable pub running_bulk : (ℕ → ℕ) → Table → ℕ → ℕ → ℕ → List Step
running_bulk w t base low p =
    term t p (row_term w base (p / 32))
    ∷ sum t p (row_sum w base (p / 32))
    ∷ term t p (column_term w base (p % 32))
    ∷ sum t p (column_sum w base p)
    ∷ term t p (remainder_term w base low p)
    ∷ []

unfoldable pub running_steps : (ℕ → ℕ) → Table → ℕ → List Step
running_steps w Offset p = running_bulk w Offset 0x10 10 p ++ (sum Offset p (whole_sum w 0x10 10 p) ∷ [])
running_steps w Alpha p = running_bulk w Alpha 0x20 4 p
running_steps w Kta p = term Kta p (kta_term w p) ∷ sum Kta p (kta_sum w p) ∷ []

unfoldable pub running_walk : (ℕ → ℕ) → List Step
running_walk w = steps_from (running_steps w Offset) 768 0 ++ (steps_from (running_steps w Alpha) 768 0 ++ steps_from (running_steps w Kta) 768 0)

-- ---- what it accepted is accepted
still-inside : (w : ℕ → ℕ) (t : Table) (p : ℕ) → AllInside (running_steps w t p) → AllInside (pixel_steps w t p)
unfolding AllInside running_steps running_bulk pixel_steps term_steps
still-inside w Offset p a = (a.0, (a.1.1.0, (a.1.1.1.1.0, (a.1.1.1.1.1.0, tt))))
still-inside w Alpha p a = (a.0, (a.1.1.0, (a.1.1.1.1.0, tt)))
still-inside w Kta p a = a

pub still-accepted : (w : ℕ → ℕ) → first_outside (running_walk w) ≡ accepted → first_outside (walk w) ≡ accepted
unfolding running_walk
still-accepted w e =
    calm_walk w (λ t p h. inside-accepted (pixel_steps w t p) (still-inside w t p (accepted-inside (running_steps w t p) (pixels-calm (running_steps w) e t p h))))

-- ---- what is accepted now was refused, if at all, with 4
abbrev pub OnlyFor4 : Verdict → Type 0
OnlyFor4 r = accepted_by r ≡ false → (code_of r).number ≡ 4

only-either : (a b : Verdict) → OnlyFor4 a → OnlyFor4 b → OnlyFor4 (or_else a b)
only-either a b f g = go (accepted_by a) refl
  where
    go : (d : Bool) → accepted_by a ≡ d → OnlyFor4 (or_else a b)
    go true h = rw (or-passed a b h) g
    go false h = rw (or-refused a b h) f

only-steps : (f : ℕ → List Step) (n p : ℕ) → ((k : ℕ) → k < n → OnlyFor4 (first_outside (f (p + k)))) → OnlyFor4 (first_outside (steps_from f n p))
unfolding steps_from first_outside
only-steps f zero p h = λ e. cc
only-steps f (suc n) p h =
    let e : p + 0 ≡ p = add-zero p in
    rw (first-append (f p) (steps_from f n (p + 1)))
    (only-either (first_outside (f p)) (first_outside (steps_from f n (p + 1))) (rw e at (h 0 (omega arith)))
    (only-steps f n (p + 1) (λ k l. let d : p + 1 + k ≡ p + suc k = omega arith in rw d (h (suc k) (suc-le-suc l)))))

one-sum : (t : Table) (p : ℕ) (b : Bool) (r : Verdict) → OnlyFor4 r → OnlyFor4 (cond b r (Err (SumOutside t p)))
one-sum t p true r f = f
one-sum t p false r f = λ e. refl

only-pixel : (w : ℕ → ℕ) (t : Table) (p : ℕ) → AllInside (pixel_steps w t p) → OnlyFor4 (first_outside (running_steps w t p))
unfolding AllInside running_steps running_bulk pixel_steps term_steps first_outside
only-pixel w Offset p a =
    rw (a.0, a.1.0, a.1.1.0)
    (one-sum Offset p (in16 (row_sum w 0x10 (p / 32))) _
    (one-sum Offset p (in16 (column_sum w 0x10 p)) _ (one-sum Offset p (in16 (whole_sum w 0x10 10 p)) accepted (λ e. cc))))
only-pixel w Alpha p a =
    rw (a.0, a.1.0, a.1.1.0)
    (one-sum Alpha p (in16 (row_sum w 0x20 (p / 32))) _ (one-sum Alpha p (in16 (column_sum w 0x20 p)) accepted (λ e. cc)))
only-pixel w Kta p a = rw a.0 (one-sum Kta p (in16 (kta_sum w p)) accepted (λ e. cc))

abbrev before : (ℕ → ℕ) → Table → List Step
before w t = steps_from (running_steps w t) 768 0

pub refused-with-4 : (w : ℕ → ℕ) → first_outside (walk w) ≡ accepted → OnlyFor4 (first_outside (running_walk w))
unfolding running_walk
refused-with-4 w e =
    rw (first-append (before w Offset) (before w Alpha ++ before w Kta), first-append (before w Alpha) (before w Kta))
    (only-either (first_outside (before w Offset)) _ (own Offset) (only-either (first_outside (before w Alpha)) (first_outside (before w Kta)) (own Alpha) (own Kta)))
  where
    own : (t : Table) → OnlyFor4 (first_outside (before w t))
    own t = only-steps (running_steps w t) 768 0 (λ p h. rw (zero-add p) (only-pixel w t p (accepted-inside (pixel_steps w t p) (walk-calm w e t p h))))

-- ---- one image: every row adds 1 to an average of 32767, and every column takes it back
abbrev pub returning : ℕ → ℕ
returning n = cond (eqb n 0x11) 0x7FFF (cond (leb 0x12 n) (cond (ltb n 0x18) 0x1111 (cond (ltb n 0x20) 0xFFFF 0)) 0)

pub once-refused : first_outside (running_walk returning) ≡ Err (SumOutside Offset 0)
unfolding running_walk steps_from running_steps running_bulk first_outside in16 row_sum column_sum whole_sum kta_sum
once-refused = refl

pub now-accepted : first_outside (walk returning) ≡ accepted
unfolding walk table_steps steps_from pixel_steps term_steps first_outside in16 row_sum column_sum whole_sum kta_sum
now-accepted = refl
