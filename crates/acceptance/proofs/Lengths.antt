-- Whoever takes an image refuses it with 1 exactly where it does not have 1,664 bytes, and where the page rule comes before, nor is it a page; a joined pair of images is refused by
-- all: the decoder tests the length first, and the page rule cuts nothing but a page. What is said of a call is said of the function's own contract; of caldump, which is a program,
-- it is said of what its contract has for the text.
-- Assumes nothing.
use Prim.Native.Nat.{ℕ, ◌+◌, ◌*◌, ◌≤◌}
use mathlib.Core.Path.{◌≡◌, refl, sym, ap, ◌∙◌}
use mathlib.Core.Logic.{◌↔◌, inl, inr, ⊎_elim}
use mathlib.Core.List.{List, ◌++◌}
use native.Mathlib.Decide.{dec_le}
use native.Mathlib.Omega.{arith}
use borrow.Author.Tests.{ne_eqb}
use lib.ListN.{length, take, get_or, length-append}
use lib.Seq.{take_all, length-take-le}
use contract.Lifetimes.{Lfts}
use borrow.Fn.Kinds.{Dens}
use Rattle.std.specs.Prelude.{Result, Ok, Err}
use Rattle.refusal.specs.Code.{plain_code, code_of, Verdict, verdict_of}
use Rattle.refusal.specs.declared.Code.{Code}
use Rattle.refusal.specs.declared.Refusal.{Refusal}
use Rattle.refusal.specs.declared.Refusal.TheVariants.{ImageLength, ShortSlice, TermOutside, SumOutside}
use Rattle.refusal.specs.declared.Refusal.TheVariants.{BlockLength, BlockCount, BlockVersion, BlockRange, WordInConflict, WordMissing}
use Rattle.refusal.specs.declared.Refusal.TheVariants.{PastTheEnd, RangeNumber, Resolution, PatternOrSubpage, TableNumber}
use Rattle.refusal.proofs.Apart.{codes-apart}
use Rattle.refusal.proofs.Order.{granted-verdict}
use Rattle.page.specs.Page.{image_in}
use Rattle.page.proofs.Rule.{whole-image}
use Rattle.record.specs.declared.Record.{Record}
use Rattle.eeprom.specs.Decoding.{refusal_of, decoded_of}
use Rattle.eeprom.proofs.Refusals.{length-refused, refusal-1}
use Rattle.eeprom.specs.Image.{image_words}
use Rattle.pixel.specs.Answer.{pixel_refusal}
use Rattle.pixel.proofs.Exactly.{answered-refusal, pixel-1}
use Rattle.mofuleka.proofs.Single.{slice-1}
use Rattle.listing.specs.Text.{ascii, decimal_up_to}
use Rattle.listing.specs.Listing.{spaced, listing}
use Rattle.mofuleka.specs.Answers.{refusal_word}
use Rattle.mofuleka.specs.Images.{too_short, slices_refusal}
use Rattle.acceptance.specs.Determined.{Ending, Allows}
use Rattle.eeprom.proofs.from_data.Kinds as FromDataK
use Rattle.eeprom.proofs.from_data.Reads as FromData
use Rattle.listing.proofs.list_image.Kinds as ListImageK
use Rattle.listing.proofs.list_image.Reads as ListImage
use Rattle.pixel.proofs.pixel.Kinds as PixelK
use Rattle.pixel.proofs.pixel.Reads as Pixel
use Rattle.mofuleka.proofs.mofuleka_pixel.Kinds as MofulekaPixelK
use Rattle.mofuleka.proofs.mofuleka_pixel.Reads as MofulekaPixel
use Rattle.mofuleka.proofs.mofuleka_from_data.Kinds as MofulekaK
use Rattle.mofuleka.proofs.mofuleka_from_data.Reads as Mofuleka

-- an input that is neither an image nor a page
abbrev pub Neither : List ℕ → Type 0
Neither input = (length input ≡ 1664 → ⊥) × (length input ≡ 2048 → ⊥)

-- stands for no image of 1,664 bytes
no-image : (input : List ℕ) → (length (image_in input) ≡ 1664 → ⊥) ↔ Neither input
no-image input = (λ n. (λ e. n ((whole-image input).1 (inl e)), λ e. n ((whole-image input).1 (inr e))), λ h e. ⊎_elim h.0 h.1 ((whole-image input).0 e))

-- two images, one behind the other
joined-long : (i j : List ℕ) {s : List ℕ} → s ≡ i ++ j → length i ≡ 1664 → length j ≡ 1664 → length s ≡ 3328
joined-long i j e m n = ap length e ∙ (length-append i j ∙ omega arith)

joined-neither : (i j : List ℕ) {s : List ℕ} → s ≡ i ++ j → length i ≡ 1664 → length j ≡ 1664 → Neither s
joined-neither i j e m n = let long = joined-long i j e m n in (λ k. omega arith, λ k. omega arith)

-- ---- the decoder
module _ (κs : Lfts 4) (a : Dens κs FromDataK.ps) (x : Ending FromDataK.ps FromDataK.r κs a) (p : Allows FromDataK.ps FromDataK.r FromData.Learnt κs a x) where
  pub from-data-length : (verdict_of x.result ≡ Err ImageLength) ↔ (length a.0.now ≡ 1664 → ⊥)
  unfolding decoded_of
  from-data-length =
      let is = ap verdict_of p.0 ∙ granted-verdict (refusal_of a.0.now (length a.1.0.now) (length a.1.1.0.now) (length a.1.1.1.0.now)) _ in
      let one = refusal-1 a.0.now (length a.1.0.now) (length a.1.1.0.now) (length a.1.1.1.0.now) in
      (λ e. one.0 (sym is ∙ e), λ n. is ∙ one.1 n)

  pub joined-from-data : (i j : List ℕ) → a.0.now ≡ i ++ j → length i ≡ 1664 → length j ≡ 1664 → verdict_of x.result ≡ Err ImageLength
  joined-from-data i j e m n = from-data-length.1 (joined-neither i j e m n).0

-- ---- one pixel
module _ (κs : Lfts 1) (a : Dens κs PixelK.ps) (x : Ending PixelK.ps PixelK.r κs a) (p : Allows PixelK.ps PixelK.r Pixel.Learnt κs a x) where
  pub pixel-length : (verdict_of x.result ≡ Err ImageLength) ↔ (length a.0.now ≡ 1664 → ⊥)
  pixel-length =
      let image = a.0.now in
      let is = ap verdict_of p ∙ answered-refusal (pixel_refusal image a.1.0) (image_words image) a.1.0 in
      let one = pixel-1 image a.1.0 in
      (λ e. one.0 (sym is ∙ e), λ n. is ∙ one.1 n)

  pub joined-pixel : (i j : List ℕ) → a.0.now ≡ i ++ j → length i ≡ 1664 → length j ≡ 1664 → verdict_of x.result ≡ Err ImageLength
  joined-pixel i j e m n = pixel-length.1 (joined-neither i j e m n).0

-- ---- the listing: a text that says so
abbrev pub refused_1 : List ℕ
refused_1 = ascii "refused 1 0 0\n"

says-1 : (d : Result Record Refusal) → listing d ≡ refused_1 → d ≡ Err ImageLength
unfolding listing spaced decimal_up_to
says-1 d e = go d e
  where
    byte : (k : ℕ) {l : List ℕ} → l ≡ refused_1 → get_or l k 0 ≡ get_or refused_1 k 0
    byte k e = ap (λ (l : List ℕ). get_or l k 0) e

    go : (d : Result Record Refusal) → listing d ≡ refused_1 → d ≡ Err ImageLength
    go (Err ImageLength) e = refl
    go (Ok r) e = absurd (omega (arith, byte 0 e))
    go (Err ShortSlice) e = absurd (omega (arith, byte 8 e))
    go (Err (TermOutside t q)) e = absurd (omega (arith, byte 8 e))
    go (Err (SumOutside t q)) e = absurd (omega (arith, byte 8 e))
    go (Err BlockLength) e = absurd (omega (arith, byte 8 e))
    go (Err BlockCount) e = absurd (omega (arith, byte 8 e))
    go (Err BlockVersion) e = absurd (omega (arith, byte 8 e))
    go (Err BlockRange) e = absurd (omega (arith, byte 8 e))
    go (Err (WordInConflict w)) e = absurd (omega (arith, byte 8 e))
    go (Err (WordMissing w)) e = absurd (omega (arith, byte 9 e))
    go (Err PastTheEnd) e = absurd (omega (arith, byte 9 e))
    go (Err RangeNumber) e = absurd (omega (arith, byte 9 e))
    go (Err Resolution) e = absurd (omega (arith, byte 9 e))
    go (Err PatternOrSubpage) e = absurd (omega (arith, byte 9 e))
    go (Err TableNumber) e = absurd (omega (arith, byte 9 e))

other_length : (image : List ℕ) (l m n : ℕ) → (length image ≡ 1664 → ⊥) → decoded_of image l m n ≡ Err ImageLength
unfolding decoded_of refusal_of
other_length image l m n h = rw (ne_eqb (length image) 1664 h)

-- and what is answered so was refused so
decoded-1 : (image : List ℕ) (l m n : ℕ) → decoded_of image l m n ≡ Err ImageLength → refusal_of image l m n ≡ Err ImageLength
unfolding decoded_of
decoded-1 image l m n e = sym (granted-verdict (refusal_of image l m n) _) ∙ ap verdict_of e

listed-length : (image : List ℕ) → (listing (decoded_of image 768 768 768) ≡ refused_1) ↔ (length image ≡ 1664 → ⊥)
unfolding decoded_of listing spaced decimal_up_to
listed-length image = (λ e. (refusal-1 image 768 768 768).0 (decoded-1 image 768 768 768 (says-1 (decoded_of image 768 768 768) e)), λ n. ap listing (other_length image 768 768 768 n))

module _ (κs : Lfts 2) (a : Dens κs ListImageK.ps) (x : Ending ListImageK.ps ListImageK.r κs a) (p : Allows ListImageK.ps ListImageK.r ListImage.Learnt κs a x) where
  pub list-image-length : (take x.result x.lent.1.0 ≡ refused_1) ↔ (length a.0.now ≡ 1664 → ⊥)
  list-image-length = (λ e. (listed-length a.0.now).0 (sym p.1.0 ∙ e), λ n. p.1.0 ∙ (listed-length a.0.now).1 n)

  pub joined-list-image : (i j : List ℕ) → a.0.now ≡ i ++ j → length i ≡ 1664 → length j ≡ 1664 → take x.result x.lent.1.0 ≡ refused_1
  joined-list-image i j e m n = list-image-length.1 (joined-neither i j e m n).0

-- ---- caldump, whose contract has the listing of the image that its input stands for
pub input-length : (input : List ℕ) → (listing (decoded_of (image_in input) 768 768 768) ≡ refused_1) ↔ Neither input
input-length input = (λ e. (no-image input).0 ((listed-length (image_in input)).0 e), λ h. (listed-length (image_in input)).1 ((no-image input).1 h))

pub joined-input : (i j : List ℕ) → length i ≡ 1664 → length j ≡ 1664 → listing (decoded_of (image_in (i ++ j)) 768 768 768) ≡ refused_1
joined-input i j m n = (input-length (i ++ j)).1 (joined-neither i j refl m n)

-- 2,049 bytes tell all: of a longer input no more need be read
pub enough-read : (input : List ℕ) (l m n : ℕ) → decoded_of (image_in (take 2049 input)) l m n ≡ decoded_of (image_in input) l m n
enough-read input l m n = go (dec_le (length input) 2049)
  where
    go : Dec (length input ≤ 2049) → decoded_of (image_in (take 2049 input)) l m n ≡ decoded_of (image_in input) l m n
    go (yes h) = ap (λ (s : List ℕ). decoded_of (image_in s) l m n) (take_all 2049 input h)
    go (no h) =
        let long = length-take-le 2049 input (omega arith) in
        other_length (image_in (take 2049 input)) l m n ((no-image (take 2049 input)).1 (λ e. omega arith, λ e. omega arith))
        ∙ sym (other_length (image_in input) l m n ((no-image input).1 (λ e. omega arith, λ e. omega arith)))

-- ---- the C interface
word-1 : (r : Verdict) → (refusal_word r ≡ 1) ↔ (r ≡ Err ImageLength)
word-1 r = (λ e. codes-apart r (Err ImageLength) (one (code_of r) e), λ e. ap refusal_word e)
  where
    one : (c : Code) → c.number + 256 * c.table + 65536 * c.place ≡ 1 → c ≡ plain_code 1
    one c e =
        let number : c.number ≡ 1 = omega arith in
        let table : c.table ≡ 0 = omega arith in
        let place : c.place ≡ 0 = omega arith in
        λ i. record { number = number i; table = table i; place = place i }

module _ (κs : Lfts 5) (a : Dens κs MofulekaK.ps) (x : Ending MofulekaK.ps MofulekaK.r κs a) (p : Allows MofulekaK.ps MofulekaK.r Mofuleka.Learnt κs a x) where
  pub mofuleka-from-data-length : (x.result ≡ 1) ↔ Neither a.0.now
  unfolding slices_refusal
  mofuleka-from-data-length =
      let input = a.0.now in
      let short = too_short (length a.1.0.now) (length a.1.1.0.now) (length a.1.1.1.0.now) (length a.1.1.1.1.0.now) in
      let one = length-refused (image_in input) short in
      (λ e. (no-image input).0 (one.0 ((word-1 _).0 (sym p.0 ∙ e))), λ h. p.0 ∙ (word-1 _).1 (one.1 ((no-image input).1 h)))

  pub joined-mofuleka-from-data : (i j : List ℕ) → a.0.now ≡ i ++ j → length i ≡ 1664 → length j ≡ 1664 → x.result ≡ 1
  joined-mofuleka-from-data i j e m n = mofuleka-from-data-length.1 (joined-neither i j e m n)

module _ (κs : Lfts 2) (a : Dens κs MofulekaPixelK.ps) (x : Ending MofulekaPixelK.ps MofulekaPixelK.r κs a) (p : Allows MofulekaPixelK.ps MofulekaPixelK.r MofulekaPixel.Learnt κs a x) where
  pub mofuleka-pixel-length : (x.result ≡ 1) ↔ Neither a.0.now
  mofuleka-pixel-length =
      let input = a.0.now in
      let one = slice-1 (image_in input) a.1.0 (length a.1.1.0.now) in
      (λ e. (no-image input).0 (one.0 ((word-1 _).0 (sym p.0 ∙ e))), λ h. p.0 ∙ (word-1 _).1 (one.1 ((no-image input).1 h)))

  pub joined-mofuleka-pixel : (i j : List ℕ) → a.0.now ≡ i ++ j → length i ≡ 1664 → length j ≡ 1664 → x.result ≡ 1
  joined-mofuleka-pixel i j e m n = mofuleka-pixel-length.1 (joined-neither i j e m n)
