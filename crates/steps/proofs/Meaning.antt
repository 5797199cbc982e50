-- What a list of steps means, both ways: nothing is refused exactly where every step is inside 16 bits, and a step's refusal is given exactly where that step is the first
-- outside. Whatever the steps are.
-- Assumes nothing.
use mathlib.Core.Path.{◌≡◌, refl, sym, ap, ◌∙◌}
use mathlib.Core.Bool.{Bool, true, false, cond}
use mathlib.Core.List.{List, [], ◌∷◌, ◌++◌}
use Prim.Native.Nat.{ℕ, zero, suc, ◌+◌, ◌<◌, suc-le-suc}
use native.Mathlib.Nat.{not-suc-le-zero, le_of_suc-le-suc, add-zero}
use native.Mathlib.Omega.{arith}
use Rattle.refusal.specs.Code.{accepted_by, or_else, Verdict, accepted}
use Rattle.refusal.proofs.Order.{both-none, or-passed, or-refused}
use Rattle.util.specs.Sums.{in16}
use Rattle.steps.specs.Steps.{Step, term, sum, value_in, refusal_in, first_outside, AllInside, FirstIs, steps_from}
use Rattle.steps.proofs.Order.{first-append}

pub not_none : (s : Step) → refusal_in s ≡ accepted → ⊥
not_none (term t p z) e = let z : ◌≡◌ {A = ℕ} 0 1 = cc in omega arith
not_none (sum t p z) e = let z : ◌≡◌ {A = ℕ} 0 1 = cc in omega arith

-- ---- accepted exactly where every step is inside
inside-first : (s : Step) (rest : List Step) → first_outside (s ∷ rest) ≡ accepted → (in16 (value_in s) ≡ true) × (first_outside rest ≡ accepted)
unfolding first_outside
inside-first s rest e = go (in16 (value_in s)) refl
  where
    go : (b : Bool) → in16 (value_in s) ≡ b → (in16 (value_in s) ≡ true) × (first_outside rest ≡ accepted)
    go true h = (h, sym (ap (λ (b : Bool). cond b (first_outside rest) (refusal_in s)) h) ∙ e)
    go false h = absurd (not_none s (sym (ap (λ (b : Bool). cond b (first_outside rest) (refusal_in s)) h) ∙ e))

pub accepted-inside : (xs : List Step) → first_outside xs ≡ accepted → AllInside xs
unfolding AllInside
accepted-inside [] e = tt
accepted-inside (s ∷ xs) e = let h = inside-first s xs e in (h.0, accepted-inside xs h.1)

pub inside-accepted : (xs : List Step) → AllInside xs → first_outside xs ≡ accepted
unfolding first_outside AllInside
inside-accepted [] a = refl
inside-accepted (s ∷ xs) a = rw a.0 (inside-accepted xs a.1)

-- ---- refused exactly for the first step outside
pub first-refused : (xs : List Step) (r : Verdict) → FirstIs xs r → first_outside xs ≡ r
unfolding first_outside AllInside
first-refused xs r f = ap first_outside f.split ∙ go f.before f.earlier
  where
    go : (before : List Step) → AllInside before → first_outside (before ++ (f.step ∷ f.after)) ≡ r
    go [] a = rw f.outside f.refuses
    go (s ∷ before) a = rw a.0 (go before a.1)

one_more : (s : Step) {xs : List Step} {r : Verdict} → in16 (value_in s) ≡ true → FirstIs xs r → FirstIs (s ∷ xs) r
unfolding AllInside
one_more s h f =
    record {
      before = s ∷ f.before;
      step = f.step;
      after = f.after;
      split = ap (λ (l : List Step). s ∷ l) f.split;
      earlier = (h, f.earlier);
      outside = f.outside;
      refuses = f.refuses;
    }

this-one : (s : Step) (xs : List Step) {r : Verdict} → in16 (value_in s) ≡ false → refusal_in s ≡ r → FirstIs (s ∷ xs) r
unfolding AllInside
this-one s xs h e = record { before = []; step = s; after = xs; split = refl; earlier = tt; outside = h; refuses = e }

pub refused-first : (xs : List Step) (r : Verdict) → first_outside xs ≡ r → (r ≡ accepted → ⊥) → FirstIs xs r
unfolding first_outside
refused-first [] r e n = absurd (n (sym e))
refused-first (s ∷ xs) r e n = go (in16 (value_in s)) refl (λ h. refused-first xs r h n)
  where
    taken : (b : Bool) → in16 (value_in s) ≡ b → cond b (first_outside xs) (refusal_in s) ≡ r
    taken b h = sym (ap (λ (b : Bool). cond b (first_outside xs) (refusal_in s)) h) ∙ e

    go : (b : Bool) → in16 (value_in s) ≡ b → (first_outside xs ≡ r → FirstIs xs r) → FirstIs (s ∷ xs) r
    go true h later = one_more s h (later (taken true h))
    go false h later = this-one s xs h (taken false h)

-- ---- by pixels: nothing is found exactly where no pixel has a fault
pub none-append : (xs ys : List Step) → first_outside (xs ++ ys) ≡ accepted → (first_outside xs ≡ accepted) × (first_outside ys ≡ accepted)
none-append xs ys e = both-none (first_outside xs) (first_outside ys) (sym (first-append xs ys) ∙ e)

pub none-joined : (xs ys : List Step) → first_outside xs ≡ accepted → first_outside ys ≡ accepted → first_outside (xs ++ ys) ≡ accepted
none-joined xs ys e h = first-append xs ys ∙ rw (e, h)

pub pixel-none : (f : ℕ → List Step) (n p k : ℕ) → first_outside (steps_from f n p) ≡ accepted → k < n → first_outside (f (p + k)) ≡ accepted
unfolding steps_from
pixel-none f zero p k e h = absurd (not-suc-le-zero h)
pixel-none f (suc n) p zero e h = rw (add-zero p) (none-append (f p) (steps_from f n (p + 1)) e).0
pixel-none f (suc n) p (suc k) e h =
    let m : p + suc k ≡ p + 1 + k = omega arith in
    rw m (pixel-none f n (p + 1) k (none-append (f p) (steps_from f n (p + 1)) e).1 (le_of_suc-le-suc h))

pub pixels-none : (f : ℕ → List Step) (n p : ℕ) → ((k : ℕ) → k < n → first_outside (f (p + k)) ≡ accepted) → first_outside (steps_from f n p) ≡ accepted
unfolding steps_from first_outside
pixels-none f zero p h = refl
pixels-none f (suc n) p h =
    let e : p + 0 ≡ p = add-zero p in
    none-joined (f p) (steps_from f n (p + 1)) (rw e at (h 0 (omega arith)))
    (pixels-none f n (p + 1) (λ k l. let d : p + 1 + k ≡ p + suc k = omega arith in rw d (h (suc k) (suc-le-suc l))))

-- what is found first is the first fault of one of the pixels
pub found-pixel : (f : ℕ → List Step) (n p : ℕ) (r : Verdict) → first_outside (steps_from f n p) ≡ r → (r ≡ accepted → ⊥) → (k : ℕ) × (k < n) × (first_outside (f (p + k)) ≡ r)
unfolding steps_from first_outside
found-pixel f zero p r e some = absurd (some (sym e))
found-pixel f (suc n) p r e some = go (accepted_by (first_outside (f p))) refl (λ d. found-pixel f n (p + 1) r d some)
  where
    later : Verdict
    later = first_outside (steps_from f n (p + 1))

    ordered : or_else (first_outside (f p)) later ≡ r
    ordered = sym (first-append (f p) (steps_from f n (p + 1))) ∙ e

    go : (b : Bool) → accepted_by (first_outside (f p)) ≡ b → (later ≡ r → (k : ℕ) × (k < n) × (first_outside (f (p + 1 + k)) ≡ r)) → (k : ℕ) × (k < suc n) × (first_outside (f (p + k)) ≡ r)
    go true h rest =
        let m = rest (sym (or-passed (first_outside (f p)) later h) ∙ ordered) in
        let q : p + suc m.0 ≡ p + 1 + m.0 = omega arith in
        (suc m.0, suc-le-suc m.1, rw q m.2)
    go false h rest = (0, omega arith, rw (add-zero p) (sym (or-refused (first_outside (f p)) later h) ∙ ordered))
