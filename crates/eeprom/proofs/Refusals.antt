-- Refusals exactly when: the tests come in the scope's order, so a call goes one of three ways, and past the tests the walk alone decides.
-- Assumes nothing.
use mathlib.Core.Path.{◌≡◌, refl, sym, ◌∙◌}
use mathlib.Core.Logic.{◌↔◌, ◌⊎◌, inl, inr, ⊎_elim}
use mathlib.Core.Bool.{Bool, true, false, cond}
use mathlib.Core.List.{List}
use Prim.Native.Nat.{ℕ, ◌≤◌, ◌<◌}
use native.Mathlib.Omega.{arith}
use borrow.Author.Tests.{ltb-true, ltb-false, eqb-true, eqb-false, ne_eqb}
use lib.Dec.{eqb, ltb}
use lib.ListN.{length}
use Rattle.std.specs.Prelude.{Err}
use Rattle.refusal.specs.Code.{Verdict, accepted}
use Rattle.refusal.specs.declared.Table.{Table}
use Rattle.refusal.specs.declared.Refusal.TheVariants.{ImageLength, ShortSlice, TermOutside, SumOutside}
use Rattle.steps.specs.Steps.{first_outside, AllInside, FirstIs, Step, refusal_in, term, sum}
use Rattle.walk.specs.Walk.{walk}
use Rattle.steps.proofs.Meaning.{accepted-inside, inside-accepted, first-refused, refused-first}
use Rattle.eeprom.specs.Image.{image_words}
use Rattle.eeprom.specs.Decoding.{decoder_refusal, tables_short, refusal_of}

-- the image has its 1,664 bytes, and the tables are long enough
pub record Room (image : List ℕ) (l m n : ℕ) : Type 0 where
  pub whole : length image ≡ 1664
  pub offset : 768 ≤ l
  pub alpha : 768 ≤ m
  pub kta : 768 ≤ n

-- some table is short
abbrev Narrow : ℕ → ℕ → ℕ → Type 0
Narrow l m n = (l < 768) ⊎ ((m < 768) ⊎ (n < 768))

-- the walk refuses by 3 or 4 and by nothing else
pub no_length : (xs : List Step) → first_outside xs ≡ Err ImageLength → ⊥
no_length xs e = go (refused-first xs (Err ImageLength) e (λ d. let z : ◌≡◌ {A = ℕ} 0 1 = cc in omega arith))
  where
    never : (s : Step) → refusal_in s ≡ Err ImageLength → ⊥
    never (term t p z) e = let z : ◌≡◌ {A = ℕ} 0 1 = cc in omega arith
    never (sum t p z) e = let z : ◌≡◌ {A = ℕ} 0 1 = cc in omega arith

    go : FirstIs xs (Err ImageLength) → ⊥
    go f = never f.step f.refuses

no_narrow : (xs : List Step) → first_outside xs ≡ Err ShortSlice → ⊥
no_narrow xs e = go (refused-first xs (Err ShortSlice) e (λ d. let z : ◌≡◌ {A = ℕ} 0 1 = cc in omega arith))
  where
    never : (s : Step) → refusal_in s ≡ Err ShortSlice → ⊥
    never (term t p z) e = let z : ◌≡◌ {A = ℕ} 0 1 = cc in omega arith
    never (sum t p z) e = let z : ◌≡◌ {A = ℕ} 0 1 = cc in omega arith

    go : FirstIs xs (Err ShortSlice) → ⊥
    go f = never f.step f.refuses

-- refusal 1 for every length but 1,664, whatever is lent
pub length-refused : (image : List ℕ) (short : Bool) → (decoder_refusal image short ≡ Err ImageLength) ↔ (length image ≡ 1664 → ⊥)
length-refused image short = (λ e. to (eqb (length image) 1664) short refl e, λ n. rw (ne_eqb (length image) 1664 n))
  where
    to : (a b : Bool) → eqb (length image) 1664 ≡ a → cond a (cond b (Err ShortSlice) (first_outside (walk (image_words image)))) (Err ImageLength) ≡ Err ImageLength → length image ≡ 1664 → ⊥
    to false b t e = eqb-false (length image) 1664 t
    to true true t e = absurd (let z : ◌≡◌ {A = ℕ} 0 1 = cc in omega arith)
    to true false t e = absurd (no_length (walk (image_words image)) e)

module _ (image : List ℕ) (l m n : ℕ) where
  abbrev steps : List Step
  steps = walk (image_words image)

  -- the three ways that a call goes
  data Way : Type 0 where
    misfit : (length image ≡ 1664 → ⊥) → refusal_of image l m n ≡ Err ImageLength → Way
    narrow : length image ≡ 1664 → Narrow l m n → refusal_of image l m n ≡ Err ShortSlice → Way
    walked : Room image l m n → refusal_of image l m n ≡ first_outside steps → Way

  way : Way
  unfolding refusal_of
  way = go (eqb (length image) 1664) (ltb l 768) (ltb m 768) (ltb n 768) refl refl refl refl
    where
      go : (a b c d : Bool) → eqb (length image) 1664 ≡ a → ltb l 768 ≡ b → ltb m 768 ≡ c → ltb n 768 ≡ d → Way
      go false b c d ea eb ec ed = misfit (eqb-false (length image) 1664 ea) (rw ea)
      go true true c d ea eb ec ed = narrow (eqb-true (length image) 1664 ea) (inl (ltb-true l 768 eb)) (rw (ea, eb))
      go true false true d ea eb ec ed = narrow (eqb-true (length image) 1664 ea) (inr (inl (ltb-true m 768 ec))) (rw (ea, eb, ec))
      go true false false true ea eb ec ed = narrow (eqb-true (length image) 1664 ea) (inr (inr (ltb-true n 768 ed))) (rw (ea, eb, ec, ed))
      go true false false false ea eb ec ed =
          walked (record { whole = eqb-true (length image) 1664 ea; offset = ltb-false l 768 eb; alpha = ltb-false m 768 ec; kta = ltb-false n 768 ed }) (rw (ea, eb, ec, ed))

  pub refusal-1 : (refusal_of image l m n ≡ Err ImageLength) ↔ (length image ≡ 1664 → ⊥)
  unfolding refusal_of
  refusal-1 = length-refused image (tables_short l m n)

  pub refusal-2 : (refusal_of image l m n ≡ Err ShortSlice) ↔ ((length image ≡ 1664) × Narrow l m n)
  refusal-2 = (λ e. to way e, from way)
    where
      to : Way → refusal_of image l m n ≡ Err ShortSlice → (length image ≡ 1664) × Narrow l m n
      to (misfit h d) e = absurd (let z : ◌≡◌ {A = ℕ} 0 1 = cc in omega arith)
      to (narrow h t d) e = (h, t)
      to (walked r d) e = absurd (no_narrow steps (sym d ∙ e))

      roomy : Room image l m n → Narrow l m n → ⊥
      roomy r t = ⊎_elim (λ (k : l < 768). omega (arith, r.offset)) (⊎_elim (λ (k : m < 768). omega (arith, r.alpha)) (λ (k : n < 768). omega (arith, r.kta))) t

      from : Way → (length image ≡ 1664) × Narrow l m n → refusal_of image l m n ≡ Err ShortSlice
      from (misfit h d) k = absurd (h k.0)
      from (narrow h t d) k = d
      from (walked r d) k = absurd (roomy r k.1)

  -- any other answer is the walk's, and the other way round
  pub walk-decides : (r : Verdict) → (r ≡ Err ImageLength → ⊥) → (r ≡ Err ShortSlice → ⊥) → (refusal_of image l m n ≡ r) ↔ (Room image l m n × (first_outside steps ≡ r))
  walk-decides r a b = (λ e. to way e, λ k. from way k)
    where
      to : Way → refusal_of image l m n ≡ r → Room image l m n × (first_outside steps ≡ r)
      to (misfit h d) e = absurd (a (sym e ∙ d))
      to (narrow h t d) e = absurd (b (sym e ∙ d))
      to (walked q d) e = (q, sym d ∙ e)

      from : Way → Room image l m n × (first_outside steps ≡ r) → refusal_of image l m n ≡ r
      from (misfit h d) k = absurd (h k.0.whole)
      from (narrow h t d) k = absurd (⊎_elim (λ (x : l < 768). omega (arith, k.0.offset)) (⊎_elim (λ (x : m < 768). omega (arith, k.0.alpha)) (λ (x : n < 768). omega (arith, k.0.kta))) t)
      from (walked q d) k = d ∙ k.1

  -- accepted exactly where there is room and every step of the walk is inside 16 bits
  pub accepted-exactly : (refusal_of image l m n ≡ accepted) ↔ (Room image l m n × AllInside steps)
  accepted-exactly =
      let w = walk-decides accepted (λ e. let z : ◌≡◌ {A = ℕ} 0 1 = cc in omega arith) (λ e. let z : ◌≡◌ {A = ℕ} 0 1 = cc in omega arith) in
      (λ e. let k = w.0 e in (k.0, accepted-inside steps k.1), λ k. w.1 (k.0, inside-accepted steps k.1))

  -- 3 or 4 with table t and pixel p exactly where that step is the first outside
  pub refusal-3 : (t : Table) (p : ℕ) → (refusal_of image l m n ≡ Err (TermOutside t p)) ↔ (Room image l m n × FirstIs steps (Err (TermOutside t p)))
  refusal-3 t p =
      let w = walk-decides (Err (TermOutside t p)) (λ e. let z : ◌≡◌ {A = ℕ} 0 1 = cc in omega arith) (λ e. let z : ◌≡◌ {A = ℕ} 0 1 = cc in omega arith) in (
        λ e. let k = w.0 e in (k.0, refused-first steps (Err (TermOutside t p)) k.1 (λ d. let z : ◌≡◌ {A = ℕ} 0 1 = cc in omega arith)),
        λ k. w.1 (k.0, first-refused steps (Err (TermOutside t p)) k.1),
      )

  pub refusal-4 : (t : Table) (p : ℕ) → (refusal_of image l m n ≡ Err (SumOutside t p)) ↔ (Room image l m n × FirstIs steps (Err (SumOutside t p)))
  refusal-4 t p =
      let w = walk-decides (Err (SumOutside t p)) (λ e. let z : ◌≡◌ {A = ℕ} 0 1 = cc in omega arith) (λ e. let z : ◌≡◌ {A = ℕ} 0 1 = cc in omega arith) in (
        λ e. let k = w.0 e in (k.0, refused-first steps (Err (SumOutside t p)) k.1 (λ d. let z : ◌≡◌ {A = ℕ} 0 1 = cc in omega arith)),
        λ k. w.1 (k.0, first-refused steps (Err (SumOutside t p)) k.1),
      )
