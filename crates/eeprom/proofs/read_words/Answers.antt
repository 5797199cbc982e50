-- Words 0..15 are zero from the start, each turn of the first loop reads the next as its bytes lie, and swapped these are the big-endian words.
use Rattle.std.proofs.Common.{◌≡◌, ◌<◌, ℕ, ◌+◌, ◌*◌, ◌/◌, ◌%◌, Fits, w8, List, Bool, true, false, get_or, replicate, ap, refl, sym, arith, ◌∙◌}
use Rattle.std.specs.Prelude.{leb}
use borrow.Author.Tests.{lt-ltb, le-leb}
use Rattle.util.specs.Lists.{tab}
use Rattle.util.proofs.Filled.{tab-none, tab-more, tab-at, tab-whole, tab-length, next-at}
use Rattle.eeprom.specs.Image.{image_words}
use Rattle.eeprom.proofs.read_words.Invariants.{lying_at}
use Rattle.eeprom.proofs.read_words.Goals as goal

-- a word that counts has its two bytes exchanged, and zero is zero
turned : (image : List ℕ) (k x r : ℕ) → k < 832 → Fits w8 (get_or image (2 * k) 0) → Fits w8 (get_or image (2 * k + 1) 0) → x ≡ lying_at image k
    → r ≡ x % 256 * 256 + x / 256 % 256 → (b : Bool) → leb 16 k ≡ b → r ≡ image_words image k
unfolding image_words
turned image k x r l low high e s true h =
    let is : x ≡ get_or image (2 * k) 0 + get_or image (2 * k + 1) 0 * 256 = rw h at e in
    rw (h, lt-ltb k 832 l) (omega (arith, s, is, low, high))
turned image k x r l low high e s false h =
    let is : x ≡ 0 = rw h at e in
    rw h (omega (arith, s, is))

pub loop-n-init : goal.loop-n-init
unfolding tab
loop-n-init c = refl

pub loop-n-preserved : goal.loop-n-preserved
loop-n-preserved c =
    let image = c.args.image.now in
    let n = c.loop-n.n in
    let is : lying_at image n ≡ get_or image (2 * n) 0 + get_or image (2 * n + 1) 0 * 256 = rw (le-leb 16 n (omega arith)) in
    let stored : c.from_le_bytes.result ≡ lying_at image n = c.from_le_bytes.ensures ∙ sym is in
    rw (stored, c.loop-n.invariant) (tab-more (lying_at image) n _ c.loop-n-test.true)

pub loop-word-init : goal.loop-word-init
loop-word-init c =
    let image = c.args.image.now in
    let end : c.loop-n.n ≡ 832 = omega arith in
    rw end at c.loop-n.invariant ∙ (tab-whole (lying_at image) 832 (replicate 832 0) refl ∙ tab-none (image_words image) (tab (lying_at image) 832))

pub loop-word-preserved : goal.loop-word-preserved
loop-word-preserved c =
    let image = c.args.image.now in
    let k = c.loop-word.word-index in
    let lying = tab (lying_at image) 832 in
    let there : get_or c.loop-word.word-items k 0 ≡ lying_at image k =
    ap (λ (l : List ℕ). get_or l k 0) c.loop-word.invariant ∙ (next-at (image_words image) k lying 0 ∙ tab-at (lying_at image) 832 k 0 c.loop-word-test.true) in
    let swapped : c.swap_bytes.result ≡ image_words image k =
    turned image k _ _ c.loop-word-test.true (c.type_inv.image (2 * k)) (c.type_inv.image (2 * k + 1)) there c.swap_bytes.ensures (leb 16 k) refl in
    let more = tab-more (image_words image) k lying (omega (arith, tab-length (lying_at image) 832)) in
    cc

pub returns : goal.returns
returns c =
    let image = c.args.image.now in
    let end : c.loop-word.word-index ≡ 832 = omega arith in
    rw end at c.loop-word.invariant ∙ tab-whole (image_words image) 832 (tab (lying_at image) 832) (tab-length (lying_at image) 832)
