-- What support relies on: an explanation is of the number asked for, or of what the decoder refuses; its failure is the decoder's refusal; and with the field of a refused term
-- set to zero that step of the walk is inside. Each follows from the steps, which the decoder walks over too.
-- Assumes nothing.
use Prim.Native.Nat.{ℕ, zero, suc, ◌+◌, ◌*◌, ◌/◌, ◌%◌, ◌≤◌, ◌<◌}
use mathlib.Core.Path.{◌≡◌, refl, sym, ap, subst, ◌∙◌}
use mathlib.Core.Logic.{◌↔◌}
use mathlib.Core.Bool.{Bool, true, false}
use mathlib.Core.List.{List}
use native.Mathlib.Omega.{arith}
use borrow.Author.Tests.{eq-eqb, lt-ltb, le-ltb, eqb-true, eqb-false, ltb-true, ltb-false}
use lib.Dec.{eqb, ltb}
use lib.IntN.{pos}
use lib.ListN.{length}
use Rattle.std.specs.Prelude.{Option, None, Some, Result, Ok, Err, IsOkAnd}
use Rattle.std.specs.Result.{result_and, result_unwrap_or}
use Rattle.refusal.specs.Code.{table_from, or_else, Verdict, accepted, verdict_of}
use Rattle.refusal.specs.declared.Refusal.{Refusal}
use Rattle.refusal.specs.declared.Table.{Table}
use Rattle.refusal.specs.declared.Table.TheVariants.{Offset, Alpha, Kta}
use Rattle.refusal.specs.declared.Refusal.TheVariants.{ImageLength, ShortSlice, PastTheEnd, TableNumber, TermOutside, SumOutside}
use Rattle.util.specs.Words.{field}
use Rattle.util.specs.Pixels.{row, column}
use Rattle.util.specs.Sums.{in16}
use Rattle.steps.specs.Steps.{first_outside}
use Rattle.walk.specs.Walk.{walk}
use Rattle.eeprom.specs.Image.{image_words}
use Rattle.pixel.specs.Answer.{tests_of}
use Rattle.eeprom.specs.Decoding.{refusal_of}
use Rattle.eeprom.proofs.Refusals.{Room, walk-decides}
use Rattle.explanation.specs.Explanation.{shared_parts, kta_parts, parts_in, failure_in, refusal_for, part_of, number_of, cut_parts, table_in, pixel_in}
use Rattle.explanation.specs.Explanation.{explained, explain_refusal, explained_in, explanation_of}
use Rattle.explanation.specs.Cleared.{cleared}
use Rattle.explanation.specs.declared.Parts.{Parts}
use Rattle.explanation.specs.declared.Explanation.{Explanation}
use Rattle.explanation.specs.declared.Failure.{Failure}
use Rattle.explanation.specs.declared.Failure.TheVariants.{Row, Column, Remainder, Sum}
use Rattle.explanation.proofs.Failures.{explained-pixel, explained-failure}
use Rattle.explanation.proofs.Bits.{part-zero}

-- ---- which numbers are a table's
module _ (n : ℕ) where
  data Numbered : Type 0 where
    of_table : n ≤ 2 → (t : Table) → table_from n ≡ Ok t → Numbered
    of_none : 2 < n → table_from n ≡ Err TableNumber → Numbered

numbered : (n : ℕ) → Numbered n
numbered zero = of_table (omega arith) Offset refl
numbered (suc zero) = of_table (omega arith) Alpha refl
numbered (suc (suc zero)) = of_table (omega arith) Kta refl
numbered (suc (suc (suc n))) = of_none (omega arith) refl

-- ---- refused exactly when, in the order 1, 11, 15
module _ (image : List ℕ) (n p : ℕ) where
  abbrev refusal : Verdict
  refusal = verdict_of (explanation_of image n p)

  pub own : refusal ≡ explain_refusal image n p
  unfolding explanation_of
  own = go (tests_of (length image) p) (table_from n)
    where
      go : (r : Verdict) (t : Result Table Refusal) → verdict_of (result_and r (explained_in (image_words image) t p)) ≡ or_else r (verdict_of t)
      go (Ok done) (Ok t) = refl
      go (Ok done) (Err e) = refl
      go (Err e) t = refl

  -- what is asked for is there: an image, a pixel and a table
  pub record There : Type 0 where
    pub whole : length image ≡ 1664
    pub pixel : p < 768
    pub table : n ≤ 2

  -- the four ways that a call goes
  data Way : Type 0 where
    misfit : (length image ≡ 1664 → ⊥) → refusal ≡ Err ImageLength → Way
    past : length image ≡ 1664 → 768 ≤ p → refusal ≡ Err PastTheEnd → Way
    other : length image ≡ 1664 → p < 768 → 2 < n → refusal ≡ Err TableNumber → Way
    there : There → refusal ≡ accepted → Way

  way : Way
  way = go (eqb (length image) 1664) (ltb p 768) (numbered n) refl refl
    where
      go : (a b : Bool) → Numbered n → eqb (length image) 1664 ≡ a → ltb p 768 ≡ b → Way
      go false b c x y = misfit (eqb-false (length image) 1664 x) (own ∙ rw x)
      go true false c x y = past (eqb-true (length image) 1664 x) (ltb-false p 768 y) (own ∙ rw (x, y))
      go true true (of_none h z) x y = other (eqb-true (length image) 1664 x) (ltb-true p 768 y) h (own ∙ rw (x, y, z))
      go true true (of_table h t z) x y = there (record { whole = eqb-true (length image) 1664 x; pixel = ltb-true p 768 y; table = h }) (own ∙ rw (x, y, z))

  pub explain-1 : (refusal ≡ Err ImageLength) ↔ (length image ≡ 1664 → ⊥)
  explain-1 = (λ e. to way e, λ h. from way h)
    where
      to : Way → refusal ≡ Err ImageLength → length image ≡ 1664 → ⊥
      to (misfit h d) e = h
      to (past h i d) e = absurd (let z : ◌≡◌ {A = ℕ} 0 1 = cc in omega arith)
      to (other h i j d) e = absurd (let z : ◌≡◌ {A = ℕ} 0 1 = cc in omega arith)
      to (there h d) e = absurd (let z : ◌≡◌ {A = ℕ} 0 1 = cc in omega arith)

      from : Way → (length image ≡ 1664 → ⊥) → refusal ≡ Err ImageLength
      from (misfit h d) k = d
      from (past h i d) k = absurd (k h)
      from (other h i j d) k = absurd (k h)
      from (there h d) k = absurd (k h.whole)

  pub explain-11 : (refusal ≡ Err PastTheEnd) ↔ ((length image ≡ 1664) × (768 ≤ p))
  explain-11 = (λ e. to way e, λ h. from way h)
    where
      to : Way → refusal ≡ Err PastTheEnd → (length image ≡ 1664) × (768 ≤ p)
      to (misfit h d) e = absurd (let z : ◌≡◌ {A = ℕ} 0 1 = cc in omega arith)
      to (past h i d) e = (h, i)
      to (other h i j d) e = absurd (let z : ◌≡◌ {A = ℕ} 0 1 = cc in omega arith)
      to (there h d) e = absurd (let z : ◌≡◌ {A = ℕ} 0 1 = cc in omega arith)

      from : Way → (length image ≡ 1664) × (768 ≤ p) → refusal ≡ Err PastTheEnd
      from (misfit h d) k = absurd (h k.0)
      from (past h i d) k = d
      from (other h i j d) k = absurd (omega (arith, i, k.1))
      from (there h d) k = absurd (omega (arith, h.pixel, k.1))

  pub explain-15 : (refusal ≡ Err TableNumber) ↔ ((length image ≡ 1664) × (p < 768) × (2 < n))
  explain-15 = (λ e. to way e, λ h. from way h)
    where
      to : Way → refusal ≡ Err TableNumber → (length image ≡ 1664) × (p < 768) × (2 < n)
      to (misfit h d) e = absurd (let z : ◌≡◌ {A = ℕ} 0 1 = cc in omega arith)
      to (past h i d) e = absurd (let z : ◌≡◌ {A = ℕ} 0 1 = cc in omega arith)
      to (other h i j d) e = (h, i, j)
      to (there h d) e = absurd (let z : ◌≡◌ {A = ℕ} 0 1 = cc in omega arith)

      from : Way → (length image ≡ 1664) × (p < 768) × (2 < n) → refusal ≡ Err TableNumber
      from (misfit h d) k = absurd (h k.0)
      from (past h i d) k = absurd (omega (arith, i, k.1))
      from (other h i j d) k = d
      from (there h d) k = absurd (omega (arith, h.table, k.2))

  -- and answered everywhere else: 3 and 4 are no refusals here
  pub explain-answered : (refusal ≡ accepted) ↔ There
  explain-answered = (λ e. to way e, λ h. from way h)
    where
      to : Way → refusal ≡ accepted → There
      to (misfit h d) e = absurd (let z : ◌≡◌ {A = ℕ} 0 1 = cc in omega arith)
      to (past h i d) e = absurd (let z : ◌≡◌ {A = ℕ} 0 1 = cc in omega arith)
      to (other h i j d) e = absurd (let z : ◌≡◌ {A = ℕ} 0 1 = cc in omega arith)
      to (there h d) e = h

      from : Way → There → refusal ≡ accepted
      from (misfit h d) k = absurd (h k.whole)
      from (past h i d) k = absurd (omega (arith, i, k.pixel))
      from (other h i j d) k = absurd (omega (arith, j, k.table))
      from (there h d) k = d

-- ---- a field set to zero: the step that it belongs to
shared-zero : (image : List ℕ) (base low p : ℕ) (f : Option Failure) → 16 ≤ base → base ≤ 32 → length image ≡ 1664 → p < 768 → (f ≡ Some Sum → ⊥)
    → number_of f (shared_parts (image_words (cleared image (part_of f (shared_parts (image_words image) base low p)))) base low p) ≡ pos 0
unfolding shared_parts
shared-zero image base low p f a b whole h term = by f term
  where
    w : ℕ → ℕ
    w = image_words image

    -- the words after a field of it was set to zero
    after : Option Failure → ℕ → ℕ
    after g = image_words (cleared image (part_of g (shared_parts w base low p)))

    by : (g : Option Failure) → (g ≡ Some Sum → ⊥) → number_of g (shared_parts (after g) base low p) ≡ pos 0
    by None k = refl
    by (Some Row) k = part-zero image (base + 2 + row p / 4) (4 * (row p % 4)) 4 (field (w base) 8 4) (field (after (Some Row) base) 8 4) whole (omega arith) (omega arith) (omega arith)
    by (Some Column) k = part-zero image (base + 8 + column p / 4) (4 * (column p % 4)) 4 (field (w base) 4 4) (field (after (Some Column) base) 4 4) whole (omega arith) (omega arith) (omega arith)
    by (Some Remainder) k = part-zero image (0x40 + p) low 6 (field (w base) 0 4) (field (after (Some Remainder) base) 0 4) whole (omega arith) (omega arith) (omega arith)
    by (Some Sum) k = absurd (k refl)

kta-zero : (image : List ℕ) (p : ℕ) (f : Option Failure) → length image ≡ 1664 → p < 768 → (f ≡ Some Sum → ⊥)
    → number_of f (kta_parts (image_words (cleared image (part_of f (kta_parts (image_words image) p)))) p) ≡ pos 0
unfolding kta_parts
kta-zero image p None whole h term = refl
kta-zero image p (Some Row) whole h term = refl
kta-zero image p (Some Column) whole h term = refl
kta-zero image p (Some Remainder) whole h term =
    let w = image_words image in
    let after = image_words (cleared image (part_of (Some Remainder) (kta_parts w p))) in
    part-zero image (0x40 + p) 1 3 (field (w 0x38) 0 4) (field (after 0x38) 0 4) whole (omega arith) (omega arith) (omega arith)
kta-zero image p (Some Sum) whole h term = absurd (term refl)

zero_number : (image : List ℕ) (t : Table) (p : ℕ) (f : Option Failure) → length image ≡ 1664 → p < 768 → (f ≡ Some Sum → ⊥)
    → number_of f (parts_in (image_words (cleared image (part_of f (parts_in (image_words image) t p)))) t p) ≡ pos 0
zero_number image Offset p f whole h term = shared-zero image 0x10 10 p f (omega arith) (omega arith) whole h term
zero_number image Alpha p f whole h term = shared-zero image 0x20 4 p f (omega arith) (omega arith) whole h term
zero_number image Kta p f whole h term = kta-zero image p f whole h term

-- what a failure is about isn't cut
kept : (f : Option Failure) (x : Parts) → part_of f (cut_parts f x) ≡ part_of f x
unfolding cut_parts
kept None x = refl
kept (Some Row) x = refl
kept (Some Column) x = refl
kept (Some Remainder) x = refl
kept (Some Sum) x = refl

-- ---- where all is there the answer is an explanation, of the table with that number
pub answered : (image : List ℕ) (n p : ℕ) → There image n p → (t : Table) × (table_from n ≡ Ok t) × (explanation_of image n p ≡ Ok (explained (image_words image) t p))
unfolding explanation_of
answered image n p asked = go (numbered n)
  where
    go : Numbered n → (t : Table) × (table_from n ≡ Ok t) × (explanation_of image n p ≡ Ok (explained (image_words image) t p))
    go (of_table h t e) = (t, e, rw (eq-eqb (length image) 1664 asked.whole, lt-ltb p 768 asked.pixel, e))
    go (of_none h e) = absurd (omega (arith, h, asked.table))

-- ---- an answered call
module _ (image : List ℕ) (n p : ℕ) (e : Explanation) (given : explanation_of image n p ≡ Ok e) where
  abbrev w : ℕ → ℕ
  w = image_words image

  pub asked : There image n p
  asked = (explain-answered image n p).0 (ap verdict_of given)

  -- the table that is asked for
  abbrev pub asked_table : Table
  asked_table = (answered image n p asked).0

  pub is-explained : e ≡ explained w asked_table p
  is-explained = ap (λ (a : Result Explanation Refusal). result_unwrap_or a e) (sym given ∙ (answered image n p asked).2)

  -- its answer for the image is the decoder's, with tables of any lengths that have room
  pub as-decoder : (l m k : ℕ) → Room image l m k → e.found ≡ refusal_of image l m k
  unfolding refusal_of
  as-decoder l m k room =
      ap (λ (x : Explanation). x.found) is-explained
      ∙ rw (eq-eqb (length image) 1664 room.whole, le-ltb l 768 room.offset, le-ltb m 768 room.alpha, le-ltb k 768 room.kta)

  -- the failure that it names is that answer: number, table and place
  pub named-failure : refusal_for e.failure e.table e.pixel ≡ e.found
  named-failure = subst (λ (x : Explanation). refusal_for x.failure x.table x.pixel ≡ x.found) (sym is-explained) (explained-failure w asked_table p asked.pixel)

  -- where the decoder accepts, it is the number that was asked for
  pub as-asked : e.found ≡ accepted → (table_from n ≡ Ok e.table) × (e.pixel ≡ p)
  as-asked none =
      let r : first_outside (walk w) ≡ accepted = sym (ap (λ (x : Explanation). x.found) is-explained) ∙ none in
      let table : e.table ≡ asked_table = ap (λ (x : Explanation). x.table) is-explained ∙ ap (λ (x : Verdict). table_in x asked_table) r in
      ((answered image n p asked).1 ∙ sym (ap Ok table), ap (λ (x : Explanation). x.pixel) is-explained ∙ ap (λ (x : Verdict). pixel_in x p) r)

  -- for a term, the image with that one field set to zero has that step of the walk inside
  pub zero-inside : (t : Table) (q : ℕ) → e.found ≡ Err (TermOutside t q)
      → in16 (number_of e.failure (parts_in (image_words (cleared image (part_of e.failure e.parts))) e.table e.pixel)) ≡ true
  unfolding in16
  zero-inside t q found = subst (λ (x : Explanation). Inside x) (sym is-explained) (rw (kept f x) (ap in16 (zero_number image t' p' f asked.whole small not-sum)))
    where
      Inside : Explanation → Type 0
      Inside x = in16 (number_of x.failure (parts_in (image_words (cleared image (part_of x.failure x.parts))) x.table x.pixel)) ≡ true

      r : Verdict
      r = first_outside (walk w)

      t' : Table
      t' = table_in r asked_table

      p' : ℕ
      p' = pixel_in r p

      f : Option Failure
      f = failure_in w t' p'

      x : Parts
      x = parts_in w t' p'

      small : p' < 768
      small = explained-pixel w asked_table p asked.pixel

      not-sum : f ≡ Some Sum → ⊥
      not-sum is =
          let here : r ≡ Err (TermOutside t q) = sym (ap (λ (x : Explanation). x.found) is-explained) ∙ found in
          let sum : Err (SumOutside t' p') ≡ Err (TermOutside t q) = sym (ap (λ (g : Option Failure). refusal_for g t' p') is) ∙ (explained-failure w asked_table p asked.pixel ∙ here) in
          let z : ◌≡◌ {A = ℕ} 0 1 = cc in omega arith

-- ---- every 3 and 4 of the decoder is explained, whichever table and pixel are asked for
pub every-refusal : (image : List ℕ) (l m k : ℕ) (r : Verdict) → (r ≡ Err ImageLength → ⊥) → (r ≡ Err ShortSlice → ⊥) → refusal_of image l m k ≡ r
    → (n p : ℕ) → p < 768 → n ≤ 2 → IsOkAnd (explanation_of image n p) (λ e. (e.found ≡ r) × (refusal_for e.failure e.table e.pixel ≡ r))
every-refusal image l m k r a b e n p h i =
    let room = ((walk-decides image l m k r a b).0 e).0 in
    let given = (answered image n p (record { whole = room.whole; pixel = h; table = i })).2 in
    let found = as-decoder image n p _ given l m k room ∙ e in
    rw given (found, named-failure image n p _ given ∙ found)
