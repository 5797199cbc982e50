-- What a viewer relies on: a single pixel is answered as the decoder answers it. Each follows from the steps, which are the walk's, or from the words that are needed.
-- Assumes nothing.
use Prim.Native.Nat.{ℕ, ◌<◌}
use mathlib.Core.Path.{◌≡◌, refl, sym, ap, ◌∙◌}
use mathlib.Core.Logic.{◌↔◌}
use mathlib.Core.Bool.{true}
use mathlib.Core.List.{List}
use native.Mathlib.Omega.{arith}
use lib.ListN.{length}
use Rattle.std.specs.Prelude.{Result, Ok, Err}
use Rattle.std.specs.Result.{result_and}
use Rattle.refusal.specs.Code.{code_of, accepted_by, Verdict, accepted}
use Rattle.refusal.specs.declared.Refusal.TheVariants.{ImageLength, ShortSlice}
use Rattle.refusal.specs.declared.Refusal.{Refusal}
use Rattle.refusal.proofs.Order.{later-accepted, granted-behind}
use Rattle.util.specs.Words.{word_at}
use Rattle.steps.specs.Steps.{first_outside}
use Rattle.walk.specs.Walk.{walk}
use Rattle.tables.specs.Entries.{offset_at, alpha_at, kta_at}
use Rattle.eeprom.specs.Image.{image_words}
use Rattle.eeprom.specs.Decoding.{refusal_of}
use Rattle.eeprom.proofs.Refusals.{Room, walk-decides}
use Rattle.pixel.specs.Needed.{needs}
use Rattle.pixel.specs.Answer.{pixel_fault, length_refusal, past_refusal, tests_of, pixel_refusal, answer_with, answered, pixel_of}
use Rattle.pixel.specs.declared.PixelEntries.{PixelEntries}
use Rattle.pixel.proofs.Exactly.{within, past-tests}
use Rattle.pixel.proofs.Decoder.{all-answered, decoder-names}
use Rattle.pixel.proofs.Sameness.{same-single, same-needed}

-- ---- against the decoder, with tables of l, m and n entries
module _ (image : List ℕ) (l m n : ℕ) where
  abbrev w : ℕ → ℕ
  w = image_words image

  -- what the walk finds, where there is room
  walked : (r : Verdict) → (r ≡ Err ImageLength → ⊥) → (r ≡ Err ShortSlice → ⊥) → refusal_of image l m n ≡ r → Room image l m n × (first_outside (walk w) ≡ r)
  walked r a b = (walk-decides image l m n r a b).0

  accepting : refusal_of image l m n ≡ accepted → Room image l m n × (first_outside (walk w) ≡ accepted)
  accepting = walked accepted (λ e. let z : ◌≡◌ {A = ℕ} 0 1 = cc in omega arith) (λ e. let z : ◌≡◌ {A = ℕ} 0 1 = cc in omega arith)

  -- it accepts exactly where every pixel is answered
  pub every-pixel : Room image l m n → (refusal_of image l m n ≡ accepted) ↔ ((p : ℕ) → p < 768 → pixel_refusal image p ≡ accepted)
  every-pixel room = (
    λ e p h. past-tests image p room.whole h ∙ (all-answered w).0 (accepting e).1 p h,
    λ each.
        (walk-decides image l m n accepted (λ e. let z : ◌≡◌ {A = ℕ} 0 1 = cc in omega arith) (λ e. let z : ◌≡◌ {A = ℕ} 0 1 = cc in omega arith)).1
        (room, (all-answered w).1 (λ p h. sym (past-tests image p room.whole h) ∙ each p h)),
  )

  -- then the three numbers are its entries
  pub as-decoded : (p : ℕ) → refusal_of image l m n ≡ accepted → p < 768 → pixel_of image p ≡ answer_with accepted (offset_at w p) (alpha_at w p) (kta_at w p)
  unfolding answered
  as-decoded p e h = rw ((every-pixel (accepting e).0).0 e p h)

  -- and what it refuses with 3 or 4 is what the pixel that it names is refused with alone
  pub decoder-single : (r : Verdict) → (r ≡ accepted → ⊥) → (r ≡ Err ImageLength → ⊥) → (r ≡ Err ShortSlice → ⊥) → refusal_of image l m n ≡ r
      → ((code_of r).place < 768) × (pixel_refusal image (code_of r).place ≡ r)
  decoder-single r some a b e =
      let k = walked r a b e in
      let named = decoder-names w r k.1 some in
      (named.0, past-tests image (code_of r).place k.0.whole named.0 ∙ named.1)

-- ---- the words that are needed
-- an answer, whatever was asked: the tests', or that of the words
by_tests : (image : List ℕ) (p : ℕ) → pixel_of image p ≡ result_and (tests_of (length image) p) (answered (pixel_fault (image_words image) p) (image_words image) p)
unfolding answered
by_tests image p = granted-behind (tests_of (length image) p) (pixel_fault (image_words image) p) _

pub same_answer : (a b : List ℕ) (p : ℕ) → length a ≡ length b → ((n : ℕ) → needs p n ≡ true → word_at a n ≡ word_at b n) → pixel_of a p ≡ pixel_of b p
same_answer a b p long same = by_tests a p ∙ (rw long (go (tests_of (length b) p) refl) ∙ sym (by_tests b p))
  where
    of : List ℕ → Result PixelEntries Refusal
    of image = answered (pixel_fault (image_words image) p) (image_words image) p

    go : (t : Verdict) → tests_of (length b) p ≡ t → result_and t (of a) ≡ result_and t (of b)
    go (Ok done) e =
        let pixel = within p (later-accepted (length_refusal (length b)) (past_refusal p) (ap accepted_by e)) in
        same-single (image_words a) (image_words b) p (same-needed a b p pixel same)
    go (Err r) e = refl
