-- The order of steps: what an earlier part refuses, the whole refuses; where it refuses nothing, the rest decides.
-- Assumes nothing.
use mathlib.Core.Path.{◌≡◌, refl, sym, ap, ◌∙◌}
use mathlib.Core.Bool.{Bool, true, false, cond}
use mathlib.Core.List.{List, [], ◌∷◌, ◌++◌}
use Prim.Native.Nat.{ℕ, zero, suc, ◌+◌, ◌-◌, ◌<◌, ◌≤◌}
use native.Mathlib.Nat.{not-suc-le-zero, le_of_suc-le-suc}
use native.Mathlib.Omega.{arith}
use Rattle.refusal.specs.Code.{or_else, Verdict, accepted}
use Rattle.util.specs.Sums.{in16}
use Rattle.refusal.proofs.Order.{or_assoc}
use Rattle.steps.specs.Steps.{Step, term, sum, value_in, refusal_in, first_outside, steps_from}

or_step : (s : Step) (b : Bool) (r rest : Verdict) → cond b (or_else r rest) (refusal_in s) ≡ or_else (cond b r (refusal_in s)) rest
or_step s true r rest = refl
or_step (term t p z) false r rest = refl
or_step (sum t p z) false r rest = refl

pub first-append : (xs ys : List Step) → first_outside (xs ++ ys) ≡ or_else (first_outside xs) (first_outside ys)
unfolding first_outside
first-append [] ys = refl
first-append (s ∷ xs) ys =
    ap (λ (r : Verdict). cond (in16 (value_in s)) r (refusal_in s)) (first-append xs ys)
    ∙ or_step s (in16 (value_in s)) (first_outside xs) (first_outside ys)

-- a loop over pixels: past the last there is nothing, and each turn takes one pixel off, or k of them
pub steps-end : (f : ℕ → List Step) (n p : ℕ) → n ≡ 0 → first_outside (steps_from f n p) ≡ accepted
unfolding steps_from first_outside
steps-end f n p e = rw e

pub steps-part : (f : ℕ → List Step) (k n p : ℕ) → k ≤ n → first_outside (steps_from f n p) ≡ or_else (first_outside (steps_from f k p)) (first_outside (steps_from f (n - k) (p + k)))
unfolding steps_from first_outside
steps-part f zero n p h =
    let e : n - 0 ≡ n = omega arith in
    let d : p + 0 ≡ p = omega arith in
    rw (e, d)
steps-part f (suc k) zero p h = absurd (not-suc-le-zero h)
steps-part f (suc k) (suc n) p h =
    let a = first_outside (f p) in
    let b = first_outside (steps_from f k (p + 1)) in
    let e : p + 1 + k ≡ p + suc k = omega arith in
    let d : suc n - suc k ≡ n - k = omega arith in
    first-append (f p) (steps_from f n (p + 1))
    ∙ (ap (or_else a) (steps-part f k n (p + 1) (le_of_suc-le-suc h))
    ∙ (or_assoc a b (first_outside (steps_from f (n - k) (p + 1 + k)))
    ∙ (ap (λ (r : Verdict). or_else r (first_outside (steps_from f (n - k) (p + 1 + k)))) (sym (first-append (f p) (steps_from f k (p + 1))))
    ∙ rw (e, d))))

pub steps-turn : (f : ℕ → List Step) (n p : ℕ) → 0 < n → first_outside (steps_from f n p) ≡ or_else (first_outside (f p)) (first_outside (steps_from f (n - 1) (p + 1)))
unfolding steps_from
steps-turn f zero p h = absurd (not-suc-le-zero h)
steps-turn f (suc n) p h = let e : suc n - 1 ≡ n = omega arith in first-append (f p) (steps_from f n (p + 1)) ∙ rw e
