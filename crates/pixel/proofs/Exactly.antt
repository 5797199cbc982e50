-- Refusals of a single pixel exactly when: the tests come in the request's order, and past them the pixel's own steps alone decide, each of which names this pixel.
-- Assumes nothing.
use mathlib.Core.Path.{◌≡◌, refl, sym, ap, ◌∙◌}
use mathlib.Core.Logic.Iff
use mathlib.Core.Logic.{◌↔◌}
use mathlib.Core.Bool.{Bool, true, false, cond}
use mathlib.Core.List.{List, [], ◌∷◌, ◌++◌}
use Prim.Native.Nat.{ℕ, ◌≤◌, ◌<◌}
use native.Mathlib.Omega.{arith}
use borrow.Author.Tests.{eq-eqb, ne_eqb, lt-ltb, le-ltb, ltb-true, ltb-false, eqb-true, eqb-false}
use lib.Dec.{eqb, ltb}
use lib.ListN.{length}
use Rattle.std.specs.Prelude.{Err}
use Rattle.refusal.specs.Code.{code_of, accepted_by, or_else, Verdict, accepted, verdict_of}
use Rattle.refusal.specs.declared.Table.{Table}
use Rattle.refusal.specs.declared.Table.TheVariants.{Offset, Alpha, Kta}
use Rattle.refusal.specs.declared.Refusal.TheVariants.{ImageLength, PastTheEnd}
use Rattle.refusal.proofs.Order.{granted-verdict}
use Rattle.steps.specs.Steps.{Step, term, sum, refusal_in, first_outside, AllInside, FirstIs}
use Rattle.steps.proofs.Meaning.{not_none, first-refused, refused-first}
use Rattle.steps.proofs.Behind.{none-behind, step-behind, test-behind}
use Rattle.walk.specs.Walk.{term_steps, pixel_steps}
use Rattle.eeprom.specs.Image.{image_words}
use Rattle.pixel.specs.Answer.{pixel_walk, pixel_fault, past_refusal, tests_of, pixel_refusal, answered}

-- ---- every step of a pixel names it
unfoldable Placed : ℕ → List Step → Type 0
Placed p [] = Unit {0}
Placed p (s ∷ rest) = ((code_of (refusal_in s)).place ≡ p) × Placed p rest

placed-joined : (p : ℕ) (xs ys : List Step) → Placed p xs → Placed p ys → Placed p (xs ++ ys)
unfolding Placed
placed-joined p [] ys a b = b
placed-joined p (s ∷ xs) ys a b = (a.0, placed-joined p xs ys a.1 b)

placed-in : (p : ℕ) (before : List Step) (s : Step) (after : List Step) → Placed p (before ++ (s ∷ after)) → (code_of (refusal_in s)).place ≡ p
unfolding Placed
placed-in p [] s after a = a.0
placed-in p (x ∷ before) s after a = placed-in p before s after a.1

placed-table : (w : ℕ → ℕ) (t : Table) (p : ℕ) → Placed p (pixel_steps w t p)
unfolding Placed pixel_steps term_steps
placed-table w Offset p = (refl, (refl, (refl, (refl, tt))))
placed-table w Alpha p = (refl, (refl, (refl, tt)))
placed-table w Kta p = (refl, (refl, tt))

place_in : (p : ℕ) (xs : List Step) (r : Verdict) → Placed p xs → first_outside xs ≡ r → (r ≡ accepted → ⊥) → (code_of r).place ≡ p
place_in p xs r a e n = let f = refused-first xs r e n in sym (ap (λ (q : Verdict). (code_of q).place) f.refuses) ∙ placed-in p f.before f.step f.after (rw (← f.split) a)

pub table-place : (w : ℕ → ℕ) (t : Table) (p : ℕ) (r : Verdict) → first_outside (pixel_steps w t p) ≡ r → (r ≡ accepted → ⊥) → (code_of r).place ≡ p
table-place w t p r = place_in p (pixel_steps w t p) r (placed-table w t p)

pub own-place : (w : ℕ → ℕ) (p : ℕ) (r : Verdict) → pixel_fault w p ≡ r → (r ≡ accepted → ⊥) → (code_of r).place ≡ p
unfolding pixel_walk
own-place w p r =
    place_in p (pixel_walk w p) r
    (placed-joined p (pixel_steps w Offset p) (pixel_steps w Alpha p ++ pixel_steps w Kta p) (placed-table w Offset p)
    (placed-joined p (pixel_steps w Alpha p) (pixel_steps w Kta p) (placed-table w Alpha p) (placed-table w Kta p)))

-- ---- the order of the tests
length-first : (n p : ℕ) → (tests_of n p ≡ Err ImageLength) ↔ (n ≡ 1664 → ⊥)
length-first n p = (λ e. to (eqb n 1664) (ltb p 768) refl e, λ h. rw (ne_eqb n 1664 h))
  where
    to : (a b : Bool) → eqb n 1664 ≡ a → or_else (cond a accepted (Err ImageLength)) (cond b accepted (Err PastTheEnd)) ≡ Err ImageLength → n ≡ 1664 → ⊥
    to false b t e = eqb-false n 1664 t
    to true true t e = absurd (let z : ◌≡◌ {A = ℕ} 0 1 = cc in omega arith)
    to true false t e = absurd (let z : ◌≡◌ {A = ℕ} 0 1 = cc in omega arith)

pixel-second : (n p : ℕ) → (tests_of n p ≡ Err PastTheEnd) ↔ ((n ≡ 1664) × (768 ≤ p))
pixel-second n p = (λ e. to (eqb n 1664) (ltb p 768) refl refl e, λ h. rw (eq-eqb n 1664 h.0, le-ltb p 768 h.1))
  where
    to : (a b : Bool) → eqb n 1664 ≡ a → ltb p 768 ≡ b → or_else (cond a accepted (Err ImageLength)) (cond b accepted (Err PastTheEnd)) ≡ Err PastTheEnd → (n ≡ 1664) × (768 ≤ p)
    to false b t u e = absurd (let z : ◌≡◌ {A = ℕ} 0 1 = cc in omega arith)
    to true true t u e = absurd (let z : ◌≡◌ {A = ℕ} 0 1 = cc in omega arith)
    to true false t u e = (eqb-true n 1664 t, ltb-false p 768 u)

-- the image has its 1,664 bytes, and p is one of the 768 pixels
pub record Asked (image : List ℕ) (p : ℕ) : Type 0 where
  pub whole : length image ≡ 1664
  pub pixel : p < 768

pub none_first : (image : List ℕ) (p : ℕ) → (tests_of (length image) p ≡ accepted) ↔ Asked image p
none_first image p = (λ e. to (eqb (length image) 1664) (ltb p 768) refl refl e, λ h. rw (eq-eqb (length image) 1664 h.whole, lt-ltb p 768 h.pixel))
  where
    to : (a b : Bool) → eqb (length image) 1664 ≡ a → ltb p 768 ≡ b → or_else (cond a accepted (Err ImageLength)) (cond b accepted (Err PastTheEnd)) ≡ accepted → Asked image p
    to false b t u e = absurd (let z : ◌≡◌ {A = ℕ} 0 1 = cc in omega arith)
    to true false t u e = absurd (let z : ◌≡◌ {A = ℕ} 0 1 = cc in omega arith)
    to true true t u e = record { whole = eqb-true (length image) 1664 t; pixel = ltb-true p 768 u }

pub within : (p : ℕ) → accepted_by (past_refusal p) ≡ true → p < 768
within p e = go (ltb p 768) refl e
  where
    go : (b : Bool) → ltb p 768 ≡ b → accepted_by (cond b accepted (Err PastTheEnd)) ≡ true → p < 768
    go true t e = ltb-true p 768 t
    go false t e = absurd (let z : ◌≡◌ {A = ℕ} 0 1 = cc in omega arith)

-- past the tests the steps decide
pub past-tests : (image : List ℕ) (p : ℕ) → length image ≡ 1664 → p < 768 → pixel_refusal image p ≡ pixel_fault (image_words image) p
past-tests image p n h = rw (eq-eqb (length image) 1664 n, lt-ltb p 768 h)

pub answered-refusal : (r : Verdict) (w : ℕ → ℕ) (p : ℕ) → (verdict_of (answered r w p)) ≡ r
unfolding answered
answered-refusal r w p = granted-verdict r _

-- neither test refuses as a step does
tests-apart : (n p : ℕ) (s : Step) → tests_of n p ≡ refusal_in s → ⊥
tests-apart n p s e = go (eqb n 1664) (ltb p 768) s e
  where
    go : (a b : Bool) (s : Step) → or_else (cond a accepted (Err ImageLength)) (cond b accepted (Err PastTheEnd)) ≡ refusal_in s → ⊥
    go false b (term t q z) e = let z : ◌≡◌ {A = ℕ} 0 1 = cc in omega arith
    go false b (sum t q z) e = let z : ◌≡◌ {A = ℕ} 0 1 = cc in omega arith
    go true false (term t q z) e = let z : ◌≡◌ {A = ℕ} 0 1 = cc in omega arith
    go true false (sum t q z) e = let z : ◌≡◌ {A = ℕ} 0 1 = cc in omega arith
    go true true (term t q z) e = let z : ◌≡◌ {A = ℕ} 0 1 = cc in omega arith
    go true true (sum t q z) e = let z : ◌≡◌ {A = ℕ} 0 1 = cc in omega arith

no_length : (s : Step) → refusal_in s ≡ Err ImageLength → ⊥
no_length (term t q z) e = let z : ◌≡◌ {A = ℕ} 0 1 = cc in omega arith
no_length (sum t q z) e = let z : ◌≡◌ {A = ℕ} 0 1 = cc in omega arith

no-past : (s : Step) → refusal_in s ≡ Err PastTheEnd → ⊥
no-past (term t q z) e = let z : ◌≡◌ {A = ℕ} 0 1 = cc in omega arith
no-past (sum t q z) e = let z : ◌≡◌ {A = ℕ} 0 1 = cc in omega arith

module _ (image : List ℕ) (p : ℕ) where
  abbrev tests : Verdict
  tests = tests_of (length image) p

  abbrev steps : List Step
  steps = pixel_walk (image_words image) p

  pub pixel-1 : (pixel_refusal image p ≡ Err ImageLength) ↔ (length image ≡ 1664 → ⊥)
  pixel-1 = Iff.trans (test-behind tests steps (Err ImageLength) (λ e. let z : ◌≡◌ {A = ℕ} 0 1 = cc in omega arith) no_length) (length-first (length image) p)

  pub pixel-11 : (pixel_refusal image p ≡ Err PastTheEnd) ↔ ((length image ≡ 1664) × (768 ≤ p))
  pixel-11 = Iff.trans (test-behind tests steps (Err PastTheEnd) (λ e. let z : ◌≡◌ {A = ℕ} 0 1 = cc in omega arith) no-past) (pixel-second (length image) p)

  -- answered exactly where every step of this pixel is inside 16 bits, whatever another pixel's are
  pub pixel-answered : (pixel_refusal image p ≡ accepted) ↔ (Asked image p × AllInside steps)
  pixel-answered = Iff.trans (none-behind tests steps) (Iff.and (none_first image p) Iff.rfl)

  -- refused as a step is, with 3 or 4, a table and a place, exactly where the first of this pixel's steps that is outside refuses so
  pub pixel-refused : (s : Step) → (pixel_refusal image p ≡ refusal_in s) ↔ (Asked image p × FirstIs steps (refusal_in s))
  pixel-refused s = Iff.trans (step-behind tests steps (refusal_in s) (not_none s) (tests-apart (length image) p s)) (Iff.and (none_first image p) Iff.rfl)

  -- and the place is this pixel
  pub pixel-place : (s : Step) → pixel_refusal image p ≡ refusal_in s → (code_of (refusal_in s)).place ≡ p
  pixel-place s e = own-place (image_words image) p (refusal_in s) (first-refused steps (refusal_in s) ((pixel-refused s).0 e).1) (not_none s)
