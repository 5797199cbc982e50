-- A pixel's answer hangs on the words that it needs and on no others: it can be worked out from those alone.
-- Assumes nothing.
use Prim.Native.Nat.{ℕ, ◌≤◌, ◌<◌}
use mathlib.Core.Path.{◌≡◌, refl, sym, ap, ◌∙◌}
use mathlib.Core.Bool.{Bool, true, false, false≢true, ◌||◌}
use mathlib.Core.List.{List, [], ◌∷◌, ◌++◌, map}
use native.Mathlib.Omega.{arith}
use borrow.Author.Tests.{eq-eqb, eqb-true, le-leb, lt-ltb}
use lib.Dec.{eqb}
use Rattle.refusal.specs.declared.Table.TheVariants.{Offset, Alpha, Kta}
use Rattle.util.specs.Words.{word_at}
use Rattle.steps.specs.Steps.{first_outside}
use Rattle.walk.specs.Inner.Single.{terms_in}
use Rattle.walk.proofs.Single.{shared-sum, kta-sum, steps-are}
use Rattle.eeprom.specs.Image.{image_words}
use Rattle.pixel.specs.Needed.{needed_by, among, needs}
use Rattle.pixel.specs.Answer.{pixel_walk, pixel_fault, answered}
use Rattle.pixel.specs.Inner.Places.{RisingFrom, Rising, Below}
use Rattle.pixel.proofs.Rising.{last, largest-last}
use Rattle.pixel.specs.Inner.From.{fault_with, told, answer_from}

-- the answer over all words, and from the needed ones alone
pub from-needed : (w : ℕ → ℕ) (p : ℕ) → answer_from (map w (needed_by p)) p ≡ answered (pixel_fault w p) w p
unfolding needed_by answered pixel_walk
from-needed w p =
    let offset = terms_in w Offset p in
    let alpha = terms_in w Alpha p in
    let kta = terms_in w Kta p in
    let fault : fault_with p offset alpha kta ≡ pixel_fault w p = λ i. first_outside (steps-are w Offset p i ++ (steps-are w Alpha p i ++ steps-are w Kta p i)) in
    λ i. told (fault i) (shared-sum w 0x10 10 p i) (shared-sum w 0x20 4 p i) (w 0x20) (kta-sum w p i) (w 0x38)

pub same-single : (v w : ℕ → ℕ) (p : ℕ) → map v (needed_by p) ≡ map w (needed_by p) → answered (pixel_fault v p) v p ≡ answered (pixel_fault w p) w p
same-single v w p e = sym (from-needed v p) ∙ (ap (λ (l : List ℕ). answer_from l p) e ∙ from-needed w p)

-- ---- images that agree in those words
pub map_same : (l : List ℕ) (v w : ℕ → ℕ) → ((n : ℕ) → among l n ≡ true → v n ≡ w n) → map v l ≡ map w l
unfolding among
map_same [] v w h = refl
map_same (m ∷ rest) v w h = rw (h m (rw (eq-eqb m m refl)), map_same rest v w (λ n e. h n (later (eqb m n) (among rest n) e)))
  where
    later : (a b : Bool) → b ≡ true → (a || b) ≡ true
    later true b e = refl
    later false b e = e

-- each needed word is one that counts
unfoldable Counting : List ℕ → Type 0
Counting [] = Unit {0}
Counting (m ∷ rest) = (16 ≤ m) × (m < 832) × Counting rest

counting-at : (l : List ℕ) → Counting l → (n : ℕ) → among l n ≡ true → (16 ≤ n) × (n < 832)
unfolding among Counting
counting-at [] c n e = absurd (false≢true e)
counting-at (m ∷ rest) c n e = go (eqb m n) refl e (counting-at rest c.2 n)
  where
    go : (b : Bool) → eqb m n ≡ b → (b || among rest n) ≡ true → (among rest n ≡ true → (16 ≤ n) × (n < 832)) → (16 ≤ n) × (n < 832)
    go true h e later = let same : m ≡ n = eqb-true m n h in (rw (← same) c.0, rw (← same) c.1)
    go false h e later = later e

all-counting : (p : ℕ) → p < 768 → Counting (needed_by p)
unfolding needed_by Counting
all-counting p h =
    (omega arith, omega arith, (omega arith, omega arith, (omega arith, omega arith, (omega arith, omega arith, (omega arith, omega arith, (omega arith, omega arith, (omega arith, omega arith, (omega arith, omega arith, (omega arith, omega arith, (omega arith, omega arith, (omega arith, omega arith, tt)))))))))))

pub needed-inside : (p n : ℕ) → p < 768 → needs p n ≡ true → (16 ≤ n) × (n < 832)
needed-inside p n h = counting-at (needed_by p) (all-counting p h) n

-- and they rise
pub needed-rise : (p : ℕ) → p < 768 → Rising (needed_by p)
unfolding needed_by RisingFrom
needed-rise p h =
    (omega arith, (omega arith, (omega arith, (omega arith, (omega arith, (omega arith, (omega arith, (omega arith, (omega arith, (omega arith, (omega arith, tt)))))))))))

pub needed-below : (p : ℕ) → p < 768 → Below 832 (needed_by p)
unfolding needed_by last
needed-below p h k l = omega (arith, largest-last (needed_by p) 0 (needed-rise p h) k l, h)

read_at : (image : List ℕ) (n : ℕ) → 16 ≤ n → n < 832 → image_words image n ≡ word_at image n
unfolding image_words
read_at image n h l = rw (le-leb 16 n h, lt-ltb n 832 l)

pub needed-words : (image : List ℕ) (p : ℕ) → p < 768 → map (image_words image) (needed_by p) ≡ map (word_at image) (needed_by p)
needed-words image p h = map_same (needed_by p) (image_words image) (word_at image) (λ n e. let b = needed-inside p n h e in read_at image n b.0 b.1)

pub same-needed : (a b : List ℕ) (p : ℕ) → p < 768 → ((n : ℕ) → needs p n ≡ true → word_at a n ≡ word_at b n) → map (image_words a) (needed_by p) ≡ map (image_words b) (needed_by p)
same-needed a b p h same = needed-words a p h ∙ (map_same (needed_by p) (word_at a) (word_at b) same ∙ sym (needed-words b p h))
