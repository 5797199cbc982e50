-- The public functions of `pixel` have no second answer, and its entry points ask for nothing: each contract is an equation for what is answered.
-- Assumes nothing.
use mathlib.Core.Path.{◌≡◌, refl, sym, ap, ◌∙◌}
use mathlib.Core.List.{[]}
use lib.ListN.{replicate}
use Rattle.std.specs.Prelude.{ℕ, List, ℤ, Float, length, Err}
use Rattle.refusal.specs.Code.{Verdict, accepted, or_else}
use Rattle.refusal.specs.declared.Refusal.{Refusal}
use Rattle.refusal.specs.declared.Refusal.TheVariants.{ImageLength, PastTheEnd}
use Rattle.eeprom.specs.Image.{image_words}
use Rattle.pixel.specs.Answer.{answer_with, answered, tests_of, pixel_fault}
use Rattle.acceptance.specs.Determined.{OneAnswer, EntryPoint, Only, slice}
use Rattle.pixel.proofs.needed.Kinds as NeededK
use Rattle.pixel.proofs.needed.Reads as Needed
use Rattle.pixel.proofs.pixel_from.Kinds as PixelFromK
use Rattle.pixel.proofs.pixel_from.Reads as PixelFrom
use Rattle.pixel.proofs.past_the_end.Kinds as PastK
use Rattle.pixel.proofs.past_the_end.Reads as Past
use Rattle.pixel.proofs.asked.Kinds as AskedK
use Rattle.pixel.proofs.asked.Reads as Asked
use Rattle.pixel.proofs.words_at.Kinds as WordsAtK
use Rattle.pixel.proofs.words_at.Reads as WordsAt
use Rattle.pixel.proofs.pixel.Kinds as PixelK
use Rattle.pixel.proofs.pixel.Reads as Pixel

pub one-needed : OneAnswer NeededK.ps NeededK.r Needed.Learnt
one-needed _ _ _ _ p q = λ i. record { result = (p.0 ∙ sym q.0) i; lent = (tt, tt) }

pub one-pixel-from : OneAnswer PixelFromK.ps PixelFromK.r PixelFrom.Learnt
one-pixel-from _ _ _ _ p q = λ i. record { result = (p ∙ sym q) i; lent = (tt, (tt, tt)) }

pub one-past-the-end : EntryPoint PastK.ps PastK.r Past.Asked Past.Learnt
one-past-the-end = (λ _ _. tt, λ _ _ _ _ p q i. record { result = (p ∙ sym q) i; lent = (tt, tt) })

pub asked-past-the-end : Only PastK.ps PastK.r Past.Learnt (λ _. (767, tt)) (λ _. accepted)
    × Only PastK.ps PastK.r Past.Learnt (λ _. (768, tt)) (λ _. Err PastTheEnd)
asked-past-the-end = (λ _ _ p. p, λ _ _ p. p)

pub one-asked : EntryPoint AskedK.ps AskedK.r Asked.Asked Asked.Learnt
one-asked = (λ _ _. tt, λ _ _ _ _ p q i. record { result = (p ∙ sym q) i; lent = (tt, (tt, tt)) })

pub asked-asked : Only AskedK.ps AskedK.r Asked.Learnt (λ _. (1665, (768, tt))) (λ _. Err ImageLength)
    × Only AskedK.ps AskedK.r Asked.Learnt (λ _. (1664, (768, tt))) (λ _. Err PastTheEnd)
asked-asked = (λ _ _ p. p, λ _ _ p. p)

pub one-words-at : EntryPoint WordsAtK.ps WordsAtK.r WordsAt.Asked WordsAt.Learnt
one-words-at = (λ _ _. tt, λ _ _ _ _ p q i. record { result = (p ∙ sym q) i; lent = (tt, (tt, tt)) })

pub one-pixel : EntryPoint PixelK.ps PixelK.r Pixel.Asked Pixel.Learnt
one-pixel = (λ _ _. tt, λ _ _ _ _ p q i. record { result = (p ∙ sym q) i; lent = (tt, (tt, tt)) })

-- 1 comes before 11
pub asked-pixel : Only PixelK.ps PixelK.r Pixel.Learnt (λ _. (slice [], (768, tt))) (λ _. Err ImageLength)
    × Only PixelK.ps PixelK.r Pixel.Learnt (λ _. (slice (replicate 1664 0), (768, tt))) (λ _. Err PastTheEnd)
unfolding answered
asked-pixel = (λ _ _ p. p, λ _ _ p. p)

-- and beside a refusal there is no number, whatever the three would have been: an image and a pixel that the tests refuse get that very refusal alone
pub asked-refused : ((image : List ℕ) (p : ℕ) (r : Refusal) → tests_of (length image) p ≡ Err r → Only PixelK.ps PixelK.r Pixel.Learnt (λ _. (slice image, (p, tt))) (λ _. Err r))
    × ((offset : ℤ) (alpha kta : Float) → answer_with (Err PastTheEnd) offset alpha kta ≡ Err PastTheEnd)
unfolding answered
asked-refused = (λ image p r e _ _ q. q ∙ ap (λ (t : Verdict). answered (or_else t (pixel_fault (image_words image) p)) (image_words image) p) e, λ _ _ _. refl)
