-- One pixel, said of the functions' own contracts. Where the decoder accepts, the pixel's three numbers are what it left in the tables; what it refuses with 3 or 4, the pixel that it
-- names is refused with. Over the C interface two calls end alike where they refuse alike and, accepted, lay out the same bytes: so do inputs that stand for images with the same
-- needed words, and so do a gathering that holds them and its image.
-- Assumes nothing.
use Prim.Native.Nat.{ℕ, ◌≤◌, ◌<◌}
use mathlib.Core.Path.{◌≡◌, refl, sym, ap, subst, ◌∙◌}
use mathlib.Core.Bool.{Bool, true, false, cond}
use mathlib.Core.List.{List, ◌++◌, map}
use native.Mathlib.Omega.{arith}
use borrow.Author.Tests.{eq-eqb, le-ltb, lt-ltb}
use lib.Dec.{eqb}
use lib.IntN.{pos}
use lib.ListN.{length, get_or, drop, get_or-append}
use contract.Lifetimes.{Lfts}
use borrow.Fn.Kinds.{Dens}
use Rattle.std.specs.Prelude.{Result, Ok, Err}
use Rattle.std.specs.Result.{result_unwrap_or}
use Rattle.exact.specs.Dyadic.{plus_zero}
use Rattle.refusal.specs.Code.{code_of, accepted_by, or_else, granted, Verdict, accepted, verdict_of}
use Rattle.refusal.specs.declared.Refusal.{Refusal}
use Rattle.refusal.specs.declared.Refusal.TheVariants.{ImageLength, ShortSlice}
use Rattle.refusal.proofs.Order.{or-refused, earlier-accepted, later-accepted, granted-verdict}
use Rattle.refusal.proofs.Apart.{accepted-none}
use Rattle.util.specs.Words.{word_at}
use Rattle.util.specs.Lists.{tab}
use Rattle.util.proofs.Filled.{tab-at, tab-length}
use Rattle.page.specs.Page.{image_in}
use Rattle.page.proofs.Rule.{others-uncut}
use Rattle.tables.specs.Entries.{offset_at, alpha_at, kta_at}
use Rattle.eeprom.specs.Image.{image_words}
use Rattle.eeprom.specs.Decoding.{refusal_of, decoded_of, table_after}
use Rattle.pixel.specs.Needed.{needed_by, needs}
use Rattle.pixel.specs.Answer.{length_refusal, past_refusal, tests_of, pixel_fault, pixel_refusal, answer_with, answered, pixel_of}
use Rattle.pixel.specs.declared.PixelEntries.{PixelEntries}
use Rattle.pixel.proofs.Exactly.{within, answered-refusal}
use Rattle.pixel.proofs.Sameness.{same-single, same-needed}
use Rattle.pixel.proofs.Promises.{as-decoded, decoder-single}
use Rattle.gathering.specs.History.{History, Carried, StateOf, From}
use Rattle.gathering.specs.State.{fresh_state}
use Rattle.gathering.specs.declared.Gathering.{Gathering}
use Rattle.gathering.specs.Decoding.{gathered_words}
use Rattle.gathering.specs.Pixels.{fault_among}
use Rattle.gathering.proofs.Pixels.{faultless, words}
use Rattle.layout.specs.Sizes.{gathering_size, pixel_size}
use Rattle.layout.specs.GatheringBytes.{gathering_in}
use Rattle.mofuleka.specs.Answers.{refusal_word, short_for}
use Rattle.mofuleka.specs.Images.{lent_after}
use Rattle.mofuleka.specs.Gatherings.{stored_words}
use Rattle.mofuleka.specs.Pixels.{numbers, bytes_at, slice_pixel_refusal, stored_pixel_refusal}
use Rattle.mofuleka.proofs.Words.{zero-accepted}
use Rattle.mofuleka.proofs.Lent.{lent_same}
use Rattle.mofuleka.proofs.Single.{standing}
use Rattle.acceptance.specs.Determined.{Ending, Allows}
use Rattle.eeprom.proofs.from_data.Kinds as FromDataK
use Rattle.eeprom.proofs.from_data.Reads as FromData
use Rattle.mofuleka.proofs.mofuleka_pixel.Kinds as ImageK
use Rattle.mofuleka.proofs.mofuleka_pixel.Reads as Image
use Rattle.mofuleka.proofs.mofuleka_gathering_pixel.Kinds as GatheredK
use Rattle.mofuleka.proofs.mofuleka_gathering_pixel.Reads as Gathered
use Rattle.pixel.proofs.pixel.Kinds as PixelK
use Rattle.pixel.proofs.pixel.Reads as Pixel

-- ---- the library: a call of the decoder and a call for one pixel, of the same image
entry : {A : Type 0} (r : Verdict) (f : ℕ → A) (before after : List A) (p : ℕ) (z : A) → r ≡ accepted → after ≡ table_after r f before → p < 768 → get_or after p z ≡ f p
entry {A} r f before after p z accepted left h =
    let whole : after ≡ tab f 768 ++ drop 768 before = left ∙ rw accepted in
    ap (λ (l : List A). get_or l p z) whole
    ∙ (get_or-append (tab f 768) (drop 768 before) z p (omega (arith, tab-length f 768)) ∙ tab-at f 768 p z h)

module _ (κs : Lfts 4) (a : Dens κs FromDataK.ps) (x : Ending FromDataK.ps FromDataK.r κs a) (p : Allows FromDataK.ps FromDataK.r FromData.Learnt κs a x)
    (λs : Lfts 1) (b : Dens λs PixelK.ps) (y : Ending PixelK.ps PixelK.r λs b) (q : Allows PixelK.ps PixelK.r Pixel.Learnt λs b y) (same : b.0.now ≡ a.0.now) where
  abbrev image : List ℕ
  image = a.0.now

  abbrev number : ℕ
  number = b.1.0

  decoder : verdict_of x.result ≡ refusal_of image (length a.1.0.now) (length a.1.1.0.now) (length a.1.1.1.0.now)
  unfolding decoded_of
  decoder = ap verdict_of p.0 ∙ granted-verdict (refusal_of image (length a.1.0.now) (length a.1.1.0.now) (length a.1.1.1.0.now)) _

  single : y.result ≡ pixel_of image number
  single = q ∙ ap (λ (i : List ℕ). pixel_of i number) same

  -- where the decoder accepts
  pub pixel-entries : verdict_of x.result ≡ accepted → number < 768
      → y.result ≡ answer_with accepted (get_or x.lent.1.0 number (pos 0)) (get_or x.lent.1.1.0 number plus_zero) (get_or x.lent.1.1.1.0 number plus_zero)
  pixel-entries e h =
      let w = image_words image in
      let o = entry (verdict_of x.result) (offset_at w) a.1.0.now x.lent.1.0 number (pos 0) e p.1.0 h in
      let l = entry (verdict_of x.result) (alpha_at w) a.1.1.0.now x.lent.1.1.0 number plus_zero e p.1.1.0 h in
      let k = entry (verdict_of x.result) (kta_at w) a.1.1.1.0.now x.lent.1.1.1.0 number plus_zero e p.1.1.1 h in
      single ∙ (as-decoded image _ _ _ number (sym decoder ∙ e) h ∙ (λ i. answer_with accepted (sym o i) (sym l i) (sym k i)))

  -- where it refuses for what is in the image, with the pixel that it names
  pub pixel-named : (verdict_of x.result ≡ accepted → ⊥) → (verdict_of x.result ≡ Err ImageLength → ⊥) → (verdict_of x.result ≡ Err ShortSlice → ⊥) → number ≡ (code_of (verdict_of x.result)).place
      → verdict_of y.result ≡ verdict_of x.result
  pixel-named some long room named =
      let s = decoder-single image _ _ _ (verdict_of x.result) some long room (sym decoder) in
      ap verdict_of single ∙ (answered-refusal (pixel_refusal image number) (image_words image) number ∙ (ap (pixel_refusal image) named ∙ s.1))

-- ---- the C interface: an answer word, and what is laid into the slice
pub record PixelLaid (f : Verdict) (w : ℕ → ℕ) (p : ℕ) (before : List ℕ) (r : ℕ) (after : List ℕ) : Type 0 where
  pub answers : r ≡ refusal_word f
  pub lays : after ≡ lent_after (eqb r 0) (bytes_at w p) before

alike : {f g : Verdict} {v w : ℕ → ℕ} {p : ℕ} {before : List ℕ} {r q : ℕ} {x y : List ℕ} → f ≡ g → (accepted_by f ≡ true → bytes_at v p ≡ bytes_at w p)
    → PixelLaid f v p before r x → PixelLaid g w p before q y → (r ≡ q) × (x ≡ y)
alike {f} {g} {v} {w} {p} {before} {r} same bytes a b =
    let word = a.answers ∙ (ap refusal_word same ∙ sym b.answers) in
    let accepted : eqb r 0 ≡ true → accepted_by f ≡ true = λ z. sym (zero-accepted f) ∙ ap (λ (n : ℕ). eqb n 0) (sym a.answers) ∙ z in
    (word, a.lays ∙ (lent_same (eqb r 0) (λ (l : List ℕ). l) before (λ z. bytes (accepted z)) ∙ (ap (λ (n : ℕ). lent_after (eqb n 0) (bytes_at w p) before) word ∙ sym b.lays)))

-- words that agree in what pixel p needs
same-fault : (v w : ℕ → ℕ) (p : ℕ) → map v (needed_by p) ≡ map w (needed_by p) → pixel_fault v p ≡ pixel_fault w p
same-fault v w p e = sym (answered-refusal (pixel_fault v p) v p) ∙ (ap verdict_of (same-single v w p e) ∙ answered-refusal (pixel_fault w p) w p)

-- the entries of pixel p over the words w
abbrev entries : (ℕ → ℕ) → ℕ → PixelEntries
entries w p = record { offset = offset_at w p; alpha = alpha_at w p; k_ta = kta_at w p }

same_bytes : (v w : ℕ → ℕ) (p : ℕ) → map v (needed_by p) ≡ map w (needed_by p) → accepted_by (pixel_fault v p) ≡ true → bytes_at v p ≡ bytes_at w p
unfolding answered
same_bytes v w p e ok =
    let given : (r : Verdict) (x : PixelEntries) → accepted_by r ≡ true → granted r x ≡ Ok x = λ r x h. ap (λ (s : Verdict). granted s x) (accepted-none r h) in
    let other = ap accepted_by (sym (same-fault v w p e)) ∙ ok in
    let both : ◌≡◌ {A = Result PixelEntries Refusal} (Ok (entries v p)) (Ok (entries w p)) =
    sym (given (pixel_fault v p) (entries v p) ok) ∙ (same-single v w p e ∙ given (pixel_fault w p) (entries w p) other) in
    ap (λ (r : Result PixelEntries Refusal). numbers (result_unwrap_or r (entries v p))) both

same-slice : (i j : List ℕ) (p n : ℕ) → length i ≡ length j → ((k : ℕ) → needs p k ≡ true → word_at i k ≡ word_at j k) → slice_pixel_refusal i p n ≡ slice_pixel_refusal j p n
same-slice i j p n long same = go (accepted_by (tests_of (length j) p)) refl
  where
    go : (t : Bool) → accepted_by (tests_of (length j) p) ≡ t → slice_pixel_refusal i p n ≡ slice_pixel_refusal j p n
    go true e =
        let pixel = within p (later-accepted (length_refusal (length j)) (past_refusal p) e) in
        rw (long, same-fault (image_words i) (image_words j) p (same-needed i j p pixel same))
    go false e = rw long (or-refused (tests_of (length j) p) _ e ∙ sym (or-refused (tests_of (length j) p) _ e))

slice-bytes : (i j : List ℕ) (p n : ℕ) → ((k : ℕ) → needs p k ≡ true → word_at i k ≡ word_at j k) → accepted_by (slice_pixel_refusal i p n) ≡ true → bytes_at (image_words i) p ≡ bytes_at (image_words j) p
slice-bytes i j p n same ok =
    let tests = tests_of (length i) p in
    let short = short_for pixel_size n in
    let fault = pixel_fault (image_words i) p in
    let pixel = within p (later-accepted (length_refusal (length i)) (past_refusal p) (earlier-accepted tests (or_else short fault) ok)) in
    same_bytes (image_words i) (image_words j) p (same-needed i j p pixel same) (later-accepted short fault (later-accepted tests (or_else short fault) ok))

-- past the tests: of a gathering whose needed words are held, and of an image
stored : (s : List ℕ) (p n : ℕ) → gathering_size ≤ length s → p < 768 → fault_among (gathering_in s) (needed_by p) ≡ accepted
    → stored_pixel_refusal s p n ≡ or_else (short_for pixel_size n) (pixel_fault (gathered_words (gathering_in s)) p)
stored s p n long pixel none =
    ap (λ (t : Bool).
    let g = cond t fresh_state (gathering_in s) in
    or_else (or_else (past_refusal p) (cond t (Err ShortSlice) accepted)) (or_else (short_for pixel_size n) (or_else (fault_among g (needed_by p)) (pixel_fault (gathered_words g) p))))
    (le-ltb (length s) gathering_size long)
    ∙ rw (lt-ltb p 768 pixel, none)

sliced : (i : List ℕ) (p n : ℕ) → length i ≡ 1664 → p < 768 → slice_pixel_refusal i p n ≡ or_else (short_for pixel_size n) (pixel_fault (image_words i) p)
sliced i p n whole pixel = rw (eq-eqb (length i) 1664 whole, lt-ltb p 768 pixel)

module _ (κs : Lfts 2) where
  -- an image's or a gathering's bytes, the pixel and the slice; both functions have the same types
  abbrev pub Call : Type 0
  Call = Dens κs ImageK.ps

  abbrev pub Ends : Call → Type 0
  Ends a = Ending ImageK.ps ImageK.r κs a

  abbrev pub OfImage : (a : Call) → Ends a → Type 0
  OfImage a x = Allows ImageK.ps ImageK.r Image.Learnt κs a x

  abbrev pub OfGathering : (a : Call) → Ends a → Type 0
  OfGathering a x = Allows GatheredK.ps GatheredK.r Gathered.Learnt κs a x

  abbrev room : Call → ℕ
  room a = length a.1.1.0.now

  image-laid : (a : Call) (x : Ends a) → OfImage a x
      → PixelLaid (slice_pixel_refusal (image_in a.0.now) a.1.0 (room a)) (image_words (image_in a.0.now)) a.1.0 a.1.1.0.now x.result x.lent.1.1.0
  image-laid a x p = record { answers = p.0; lays = p.1 }

  gathering-laid : (a : Call) (x : Ends a) → OfGathering a x
      → PixelLaid (stored_pixel_refusal a.0.now a.1.0 (room a)) (stored_words a.0.now) a.1.0 a.1.1.0.now x.result x.lent.1.1.0
  gathering-laid a x p = record { answers = p.0; lays = p.1 }

  module _ (a b : Call) (x : Ends a) (y : Ends b) (e : a.1 ≡ b.1) where
    abbrev pub Alike : Type 0
    Alike = (x.result ≡ y.result) × (x.lent.1.1.0 ≡ y.lent.1.1.0)

    -- images, in pages or not, that agree in the words that the pixel needs
    pub needed-same : length (image_in a.0.now) ≡ length (image_in b.0.now) → ((n : ℕ) → needs a.1.0 n ≡ true → word_at (image_in a.0.now) n ≡ word_at (image_in b.0.now) n)
        → OfImage a x → OfImage b y → Alike
    needed-same long same p q =
        let i = image_in a.0.now in
        let j = image_in b.0.now in
        let other = subst (λ c. PixelLaid (slice_pixel_refusal j c.0 (length c.1.0.now)) (image_words j) c.0 c.1.0.now y.result y.lent.1.1.0) (sym e) (image-laid b y q) in
        alike (same-slice i j a.1.0 (room a) long same) (slice-bytes i j a.1.0 (room a) same) (image-laid a x p) other

    -- a gathering of one image's blocks that holds the words that the pixel needs, and that image
    pub gathering-pixel-as-image : (h : History) → gathering_size ≤ length a.0.now → length b.0.now ≡ 1664 → StateOf h (gathering_in a.0.now) → From b.0.now h → a.1.0 < 768
        → ((n : ℕ) → needs a.1.0 n ≡ true → (v : ℕ) × Carried h n v) → OfGathering a x → OfImage b y → Alike
    gathering-pixel-as-image h long whole s from pixel came p q =
        let g = gathering_in a.0.now in
        let j = image_in b.0.now in
        let n = a.1.0 in
        let uncut : j ≡ b.0.now = others-uncut b.0.now (λ k. omega arith) in
        let same : map (gathered_words g) (needed_by n) ≡ map (image_words j) (needed_by n) =
        words b.0.now h g s from n pixel came ∙ ap (λ (i : List ℕ). map (image_words i) (needed_by n)) (sym uncut) in
        let short = short_for pixel_size (room a) in
        let left = stored a.0.now n (room a) long pixel (faultless b.0.now h g s from n pixel came) in
        let right = sliced j n (room a) (ap length uncut ∙ whole) pixel in
        let other = subst (λ c. PixelLaid (slice_pixel_refusal j c.0 (length c.1.0.now)) (image_words j) c.0 c.1.0.now y.result y.lent.1.1.0) (sym e) (image-laid b y q) in
        alike (left ∙ (ap (or_else short) (same-fault (gathered_words g) (image_words j) n same) ∙ sym right))
        (λ ok. ap (λ (k : Gathering). bytes_at (gathered_words k) n) (standing a.0.now long) ∙ same_bytes (gathered_words g) (image_words j) n same (later-accepted short (pixel_fault (gathered_words g) n) (ap accepted_by (sym left) ∙ ok)))
        (gathering-laid a x p) other
