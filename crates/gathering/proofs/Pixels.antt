-- One pixel of a gathering. Refusals 9 and 10 look at the words that it needs and at no others, and where those are held they are an image's, so that it is answered as of the
-- image, whatever has still to come.
-- Assumes nothing.
use Prim.Native.Nat.{ℕ, ◌<◌}
use mathlib.Core.Path.{◌≡◌, refl, sym, ap, ap₂, subst, ◌∙◌}
use mathlib.Core.Logic.Iff
use mathlib.Core.Logic.{◌↔◌}
use mathlib.Core.Bool.{Bool, true, false, false≢true, ◌&&◌}
use mathlib.Core.List.{List, map}
use native.Mathlib.Omega.{arith}
use borrow.Author.Tests.{lt-ltb}
use lib.ListN.{length, get_or}
use Rattle.std.specs.Prelude.{Err}
use Rattle.refusal.specs.Code.{or_else, Verdict, accepted}
use Rattle.refusal.specs.declared.Refusal.TheVariants.{WordInConflict, WordMissing}
use Rattle.util.specs.Words.{word_at, listed}
use Rattle.util.proofs.Lists.{lowest-none}
use Rattle.steps.specs.Steps.{Step, term, sum, refusal_in}
use Rattle.steps.proofs.Behind.{test-behind}
use Rattle.eeprom.specs.Image.{image_words}
use Rattle.pixel.specs.Needed.{needed_by, needs}
use Rattle.pixel.specs.Answer.{pixel_walk, pixel_fault, answered, pixel_of}
use Rattle.pixel.proofs.Sameness.{needed-inside, needed-words, map_same, same-single}
use Rattle.pixel.proofs.Exactly.{past-tests}
use Rattle.gathering.specs.Cells.{Cell, missing, held, conflict, is_missing, is_in_conflict}
use Rattle.gathering.specs.State.{cell_at, fault_from}
use Rattle.gathering.specs.Decoding.{gathered_words}
use Rattle.gathering.specs.History.{History, Carried, Rule, StateOf, From, Lowest, NoWord, Faults}
use Rattle.gathering.specs.Pixels.{fault_among, gathered_pixel_refusal, gathered_pixel, Needs}
use Rattle.gathering.specs.declared.Gathering.{Gathering}
use Rattle.gathering.proofs.Counts.{is-missing, is-conflict}
use Rattle.gathering.proofs.Faults.{faults}
use Rattle.gathering.proofs.Rule.{rule-only}
use Rattle.gathering.proofs.Chosen.{stored-words}
use Rattle.gathering.proofs.Promises.{image-cell, held-value}

-- ---- refusals 9 and 10 exactly when
-- a test of a needed word
tested : (p : ℕ) (P : ℕ → Type 0) (t : ℕ → Bool) (w : ℕ) → ((t w ≡ true) ↔ P w) → ((needs p w && t w) ≡ true) ↔ Needs p P w
tested p P t w x = (λ e. to (needs p w) refl e, λ n. rw n.needed (x.1 n.has))
  where
    to : (b : Bool) → needs p w ≡ b → (b && t w) ≡ true → Needs p P w
    to true h e = record { needed = h; has = x.0 e }
    to false h e = absurd (false≢true e)

-- of a stored state, and over a history
pub needed-at : (g : Gathering) (p : ℕ) → Faults (Needs p (λ w. cell_at g w ≡ conflict)) (Needs p (λ w. cell_at g w ≡ missing)) (fault_among g (needed_by p))
needed-at g p =
    faults (Needs p (λ w. cell_at g w ≡ conflict)) (Needs p (λ w. cell_at g w ≡ missing)) (λ w. needs p w && is_in_conflict (cell_at g w)) (λ w. needs p w && is_missing (cell_at g w))
    (λ w l. tested p (λ w. cell_at g w ≡ conflict) (λ w. is_in_conflict (cell_at g w)) w (is-conflict (cell_at g w), ap is_in_conflict))
    (λ w l. tested p (λ w. cell_at g w ≡ missing) (λ w. is_missing (cell_at g w)) w (is-missing (cell_at g w), ap is_missing))

pub needed-in : (h : History) (g : Gathering) → StateOf h g → (p : ℕ) → Faults (Needs p (λ w. Rule h w conflict)) (Needs p (λ w. Rule h w missing)) (fault_among g (needed_by p))
needed-in h g s p =
    faults (Needs p (λ w. Rule h w conflict)) (Needs p (λ w. Rule h w missing)) (λ w. needs p w && is_in_conflict (cell_at g w)) (λ w. needs p w && is_missing (cell_at g w))
    (λ w l.
    tested p (λ w. Rule h w conflict) (λ w. is_in_conflict (cell_at g w)) w
    (λ e. subst (Rule h w) (is-conflict (cell_at g w) e) (s.rule w l), λ r. ap is_in_conflict (rule-only h w (cell_at g w) conflict (s.rule w l) r)))
    (λ w l.
    tested p (λ w. Rule h w missing) (λ w. is_missing (cell_at g w)) w
    (λ e. subst (Rule h w) (is-missing (cell_at g w) e) (s.rule w l), λ r. ap is_missing (rule-only h w (cell_at g w) missing (s.rule w l) r)))

-- ---- what `pixel` answers: past the last pixel aside, that fault, and then the pixel's own steps
past-fault : (g : Gathering) (p : ℕ) → p < 768 → gathered_pixel_refusal g p ≡ or_else (fault_among g (needed_by p)) (pixel_fault (gathered_words g) p)
past-fault g p h = rw (lt-ltb p 768 h)

no-conflict : (w : ℕ) (s : Step) → refusal_in s ≡ Err (WordInConflict w) → ⊥
no-conflict w (term t q z) e = let z : ◌≡◌ {A = ℕ} 0 1 = cc in omega arith
no-conflict w (sum t q z) e = let z : ◌≡◌ {A = ℕ} 0 1 = cc in omega arith

no-missing : (w : ℕ) (s : Step) → refusal_in s ≡ Err (WordMissing w) → ⊥
no-missing w (term t q z) e = let z : ◌≡◌ {A = ℕ} 0 1 = cc in omega arith
no-missing w (sum t q z) e = let z : ◌≡◌ {A = ℕ} 0 1 = cc in omega arith

module _ (g : Gathering) (p : ℕ) (h : p < 768) where
  answers : (r : Verdict) → (r ≡ accepted → ⊥) → ((s : Step) → refusal_in s ≡ r → ⊥) → (gathered_pixel_refusal g p ≡ r) ↔ (fault_among g (needed_by p) ≡ r)
  answers r some never = rw (past-fault g p h) (test-behind (fault_among g (needed_by p)) (pixel_walk (gathered_words g) p) r some never)

  pub pixel-9 : (w : ℕ) → (gathered_pixel_refusal g p ≡ Err (WordInConflict w)) ↔ Lowest (Needs p (λ w. cell_at g w ≡ conflict)) w
  pixel-9 w = Iff.trans (answers (Err (WordInConflict w)) (λ e. let z : ◌≡◌ {A = ℕ} 0 1 = cc in omega arith) (no-conflict w)) ((needed-at g p).nine w)

  pub pixel-10 : (w : ℕ) → (gathered_pixel_refusal g p ≡ Err (WordMissing w)) ↔ (NoWord (Needs p (λ w. cell_at g w ≡ conflict)) × Lowest (Needs p (λ w. cell_at g w ≡ missing)) w)
  pixel-10 w = Iff.trans (answers (Err (WordMissing w)) (λ e. let z : ◌≡◌ {A = ℕ} 0 1 = cc in omega arith) (no-missing w)) ((needed-at g p).ten w)

-- ---- once blocks of one image have brought the words that it needs, a pixel is answered as of that image
module _ (image : List ℕ) (h : History) (g : Gathering) (s : StateOf h g) (from : From image h) (p : ℕ) (pixel : p < 768)
    (came : (n : ℕ) → needs p n ≡ true → (v : ℕ) × Carried h n v) where
  rule : (n : ℕ) → needs p n ≡ true → Rule h n (cell_at g n)
  rule n e = s.rule n (needed-inside p n pixel e).1

  came_held : (n : ℕ) → needs p n ≡ true → cell_at g n ≡ held (word_at image n)
  came_held n e = image-cell image h n (cell_at g n) from (not-missing (cell_at g n) (rule n e)) (rule n e)
    where
      not-missing : (c : Cell) → Rule h n c → is_missing c ≡ false
      not-missing missing r = let c = came n e in absurd (r c.0 c.1)
      not-missing (held v) r = refl
      not-missing conflict r = refl

  untouched : (t : Cell → Bool) → ((v : ℕ) → t (held v) ≡ false) → (n : ℕ) → (needs p n && t (cell_at g n)) ≡ false
  untouched t never n = go (needs p n) refl
    where
      go : (b : Bool) → needs p n ≡ b → (b && t (cell_at g n)) ≡ false
      go true e = ap t (came_held n e) ∙ never (word_at image n)
      go false e = refl

  pub faultless : fault_among g (needed_by p) ≡ accepted
  faultless =
      ap₂ fault_from
      (lowest-none 832 (λ w. needs p w && is_in_conflict (cell_at g w)) (λ w _. untouched is_in_conflict (λ v. refl) w))
      (lowest-none 832 (λ w. needs p w && is_missing (cell_at g w)) (λ w _. untouched is_missing (λ v. refl) w))

  pub words : map (gathered_words g) (needed_by p) ≡ map (image_words image) (needed_by p)
  words =
      stored-words g p pixel
      ∙ (map_same (needed_by p) (listed g.values) (word_at image) (λ n e. held-value (get_or g.values n 0) (get_or g.marks n 0) (word_at image n) (came_held n e))
      ∙ sym (needed-words image p pixel))

  pub one-image-pixel : length image ≡ 1664 → gathered_pixel g p ≡ pixel_of image p
  one-image-pixel whole =
      let v = gathered_words g in
      let w = image_words image in
      let refuses : gathered_pixel_refusal g p ≡ pixel_fault v p = past-fault g p pixel ∙ rw faultless in
      ap (λ (r : Verdict). answered r v p) refuses ∙ (same-single v w p words ∙ ap (λ (r : Verdict). answered r w p) (sym (past-tests image p whole pixel)))
