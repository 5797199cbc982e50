-- One pixel in a lent slice: the test for its room comes after the earlier tests, which the library's own answer has in front, too; and what is laid out counts where the
-- call was accepted alone.
-- Assumes nothing.
use Prim.Native.Nat.{ℕ, ◌≤◌, ◌<◌}
use mathlib.Core.Path.{◌≡◌, refl, sym, ap, subst, ◌∙◌}
use mathlib.Core.Logic.{◌↔◌}
use mathlib.Core.Bool.{Bool, true, false, cond, false≢true}
use mathlib.Core.List.{List}
use native.Mathlib.Omega.{arith}
use borrow.Author.Tests.{ltb-false, le-ltb, eqb-false, ne_eqb}
use lib.Dec.{eqb, ltb}
use lib.ListN.{length}
use Rattle.std.specs.Prelude.{Result, Ok, Err, MatchResult}
use Rattle.refusal.specs.Code.{accepted_by, or_else, Verdict, accepted, verdict_of}
use Rattle.refusal.specs.declared.Refusal.{Refusal}
use Rattle.refusal.specs.declared.Refusal.TheVariants.{ImageLength, ShortSlice, PastTheEnd}
use Rattle.eeprom.specs.Image.{image_words}
use Rattle.eeprom.proofs.Refusals.{no_length}
use Rattle.pixel.specs.Answer.{pixel_walk, pixel_fault, answered}
use Rattle.pixel.specs.declared.PixelEntries.{PixelEntries}
use Rattle.util.specs.Words.{word_at, listed}
use Rattle.util.specs.Lists.{tab}
use Rattle.util.proofs.Filled.{tab-at, tab-same}
use Rattle.pixel.specs.Needed.{needed_by}
use Rattle.pixel.proofs.Sameness.{needed-below}
use Rattle.gathering.specs.Decoding.{gathered_words}
use Rattle.gathering.specs.Pixels.{fault_among}
use Rattle.gathering.specs.Inner.Chosen.{cells_answer}
use Rattle.gathering.specs.declared.Gathering.{Gathering}
use Rattle.gathering.proofs.Chosen.{at_places, stored-cells}
use Rattle.layout.specs.GatheringBytes.{mark_at, gathering_in}
use Rattle.layout.specs.Sizes.{gathering_size, pixel_size}
use Rattle.mofuleka.specs.Answers.{short_for}
use Rattle.mofuleka.specs.Images.{lent_after}
use Rattle.mofuleka.specs.Gatherings.{stored_gathering}
use Rattle.mofuleka.specs.Pixels.{numbers, bytes_at, slice_pixel_refusal}

-- where 2 was not given, there is room; so an accepted call's slice has it
pub long-enough : (size n : ℕ) → accepted_by (short_for size n) ≡ true → size ≤ n
long-enough size n e = go (ltb n size) refl e
  where
    go : (t : Bool) → ltb n size ≡ t → accepted_by (cond t (Err ShortSlice) accepted) ≡ true → size ≤ n
    go true h e = absurd (false≢true e)
    go false h e = ltb-false n size h

-- refusal 1 exactly for every length but 1,664
pub slice-1 : (image : List ℕ) (p n : ℕ) → (slice_pixel_refusal image p n ≡ Err ImageLength) ↔ (length image ≡ 1664 → ⊥)
slice-1 image p n = (λ e. to (eqb (length image) 1664) (ltb p 768) (ltb n pixel_size) refl e, λ h. rw (ne_eqb (length image) 1664 h))
  where
    to : (a b c : Bool) → eqb (length image) 1664 ≡ a
        → or_else (or_else (cond a accepted (Err ImageLength)) (cond b accepted (Err PastTheEnd))) (or_else (cond c (Err ShortSlice) accepted) (pixel_fault (image_words image) p)) ≡ Err ImageLength → length image ≡ 1664 → ⊥
    to false b c t e = eqb-false (length image) 1664 t
    to true false c t e = absurd (let z : ◌≡◌ {A = ℕ} 0 1 = cc in omega arith)
    to true true true t e = absurd (let z : ◌≡◌ {A = ℕ} 0 1 = cc in omega arith)
    to true true false t e = absurd (no_length (pixel_walk (image_words image) p) e)

-- ---- an answer laid out: what `lay_pixel` ensures of the entries over the words w, past other tests
pub laid : (q : Verdict) (w : ℕ → ℕ) (p n : ℕ) (before : List ℕ) {found : Result PixelEntries Refusal} {t : Verdict} {x : List ℕ} → found ≡ answered q w p
    → t ≡ or_else (short_for pixel_size n) (verdict_of found)
    → MatchResult found (λ e. x ≡ lent_after (accepted_by t) (numbers e) before) (λ r. x ≡ before)
    → (t ≡ or_else (short_for pixel_size n) q) × (x ≡ lent_after (accepted_by t) (bytes_at w p) before)
unfolding answered
laid (Ok done) w p n before {found} {t} {x} is et ex =
    (et ∙ rw is, subst (λ (f : Result PixelEntries Refusal). MatchResult f (λ e. x ≡ lent_after (accepted_by t) (numbers e) before) (λ r. x ≡ before)) is ex)
laid (Err e) w p n before {found} {t} {x} is et ex =
    let word : t ≡ or_else (short_for pixel_size n) (Err e) = et ∙ rw is in
    (word, subst (λ (f : Result PixelEntries Refusal). MatchResult f (λ e. x ≡ lent_after (accepted_by t) (numbers e) before) (λ r. x ≡ before)) is ex ∙ rw (word, refused (short_for pixel_size n)))
  where
    refused : (s : Verdict) → accepted_by (or_else s (Err e)) ≡ false
    refused (Ok done) = refl
    refused (Err r) = refl

-- ---- the cells of a gathering's bytes
pub standing : (s : List ℕ) → gathering_size ≤ length s → stored_gathering s ≡ gathering_in s
standing s long = rw (le-ltb (length s) gathering_size long)

-- read in their places, and out of the whole gathering
picked : (f : ℕ → ℕ) (p : ℕ) → p < 768 → tab (λ k. f (listed (needed_by p) k)) 11 ≡ at_places (tab f 832) (needed_by p)
unfolding needed_by
picked f p h = tab-same _ _ 11 (λ k l. sym (tab-at f 832 (listed (needed_by p) k) 0 (needed-below p h k l)))

pub read-cells : (s : List ℕ) (p : ℕ) → gathering_size ≤ length s → p < 768
    → let g = stored_gathering s in
    cells_answer (tab (λ k. word_at s (listed (needed_by p) k)) 11) (tab (λ k. mark_at s (listed (needed_by p) k)) 11) p
    ≡ answered (or_else (fault_among g (needed_by p)) (pixel_fault (gathered_words g) p)) (gathered_words g) p
unfolding gathering_in
read-cells s p long h =
    (λ i. cells_answer (picked (word_at s) p h i) (picked (mark_at s) p h i) p)
    ∙ (stored-cells (gathering_in s) p h
    ∙ ap (λ (g : Gathering). answered (or_else (fault_among g (needed_by p)) (pixel_fault (gathered_words g) p)) (gathered_words g) p) (sym (standing s long)))
