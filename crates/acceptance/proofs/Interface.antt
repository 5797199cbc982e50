-- The two decoders of the C interface: only words 16..831 count, a page ends as its image does and any other input as it is itself, and a full gathering of one image's
-- blocks ends as that image does. Both contracts have one form, a refusal and the words that are laid out, so that two calls end alike where those two are the same.
-- Assumes nothing.
use Prim.Native.Nat.{ℕ, ◌≤◌}
use mathlib.Core.Path.{◌≡◌, sym, ap, subst, ◌∙◌}
use mathlib.Core.Bool.{Bool, cond}
use mathlib.Core.List.{List}
use native.Mathlib.Omega.{arith}
use borrow.Author.Tests.{le-ltb}
use lib.Dec.{eqb}
use lib.ListN.{length, take}
use lib.Seq.{length-take-le}
use contract.Lifetimes.{Lfts}
use borrow.Fn.Kinds.{Dens}
use Rattle.std.specs.Prelude.{Err}
use Rattle.refusal.specs.Code.{or_else, Verdict, accepted}
use Rattle.refusal.specs.declared.Refusal.TheVariants.{ShortSlice}
use Rattle.util.specs.Bytes.{bytes_of}
use Rattle.record.specs.Fields.{record_of}
use Rattle.page.specs.Page.{image_in}
use Rattle.page.proofs.Rule.{page-cut, others-uncut}
use Rattle.eeprom.specs.Image.{image_words}
use Rattle.eeprom.proofs.SameWords.{SameWords, words-equal}
use Rattle.gathering.specs.State.{fresh_state, fault_of, Full}
use Rattle.gathering.specs.History.{History, StateOf, From}
use Rattle.gathering.specs.Decoding.{gathered_words}
use Rattle.gathering.proofs.Promises.{image-faultless, same-words}
use Rattle.layout.specs.Sizes.{image_size, gathering_size}
use Rattle.layout.specs.RecordBytes.{record_bytes}
use Rattle.layout.specs.GatheringBytes.{gathering_in}
use Rattle.mofuleka.specs.Answers.{refusal_word}
use Rattle.mofuleka.specs.Images.{slices_refusal, lent_after, offset_bytes, alpha_bytes, kta_bytes}
use Rattle.mofuleka.specs.Gatherings.{stored_words, gathered_refusal}
use Rattle.mofuleka.proofs.Gathered.{slices-same}
use Rattle.acceptance.specs.Determined.{Ending, Allows}
use Rattle.mofuleka.proofs.mofuleka_from_data.Kinds as FromDataK
use Rattle.mofuleka.proofs.mofuleka_from_data.Reads as FromData
use Rattle.mofuleka.proofs.mofuleka_gathering_from_data.Kinds as GatheredK
use Rattle.mofuleka.proofs.mofuleka_gathering_from_data.Reads as Gathered
use Rattle.acceptance.proofs.SameWords.{SameHeld, held-words}

-- ---- the form of both contracts
-- the four slices
pub record Slices : Type 0 where
  pub offset : List ℕ
  pub alpha : List ℕ
  pub kta : List ℕ
  pub rec : List ℕ

abbrev pub Refuses : Type 0
Refuses = List ℕ → List ℕ → List ℕ → List ℕ → Verdict

abbrev pub refusal_for : Refuses → Slices → Verdict
refusal_for f s = f s.offset s.alpha s.kta s.rec

-- the answer word of a refusal, and what is laid into the slices over the words w
pub record Laid (f : Refuses) (w : ℕ → ℕ) (before : Slices) (r : ℕ) (after : Slices) : Type 0 where
  pub answers : r ≡ refusal_word (refusal_for f before)
  pub offset : after.offset ≡ lent_after (eqb r 0) (offset_bytes w) before.offset
  pub alpha : after.alpha ≡ lent_after (eqb r 0) (alpha_bytes w) before.alpha
  pub kta : after.kta ≡ lent_after (eqb r 0) (kta_bytes w) before.kta
  pub rec : after.rec ≡ lent_after (eqb r 0) (record_bytes (record_of w)) before.rec

alike : {f g : Refuses} {w v : ℕ → ℕ} {s t : Slices} {r q : ℕ} {s' t' : Slices}
    → ((o l k c : List ℕ) → f o l k c ≡ g o l k c) → w ≡ v → s ≡ t → Laid f w s r s' → Laid g v t q t' → (r ≡ q) × (s' ≡ t')
alike {f} {g} {s = s} {t} refuse words slices p q =
    let given = refuse s.offset s.alpha s.kta s.rec ∙ (λ i. refusal_for g (slices i)) in
    let r = p.answers ∙ (ap refusal_word given ∙ sym q.answers) in
    let o = p.offset ∙ ((λ i. lent_after (eqb (r i) 0) (offset_bytes (words i)) (slices i).offset) ∙ sym q.offset) in
    let l = p.alpha ∙ ((λ i. lent_after (eqb (r i) 0) (alpha_bytes (words i)) (slices i).alpha) ∙ sym q.alpha) in
    let k = p.kta ∙ ((λ i. lent_after (eqb (r i) 0) (kta_bytes (words i)) (slices i).kta) ∙ sym q.kta) in
    let c = p.rec ∙ ((λ i. lent_after (eqb (r i) 0) (record_bytes (record_of (words i))) (slices i).rec) ∙ sym q.rec) in
    (r, λ i. record { offset = o i; alpha = l i; kta = k i; rec = c i })

-- a full gathering's bytes, as the image that its values are
as-image : (s : List ℕ) → gathering_size ≤ length s → fault_of (gathering_in s) ≡ accepted → (o l k c : List ℕ) → gathered_refusal s o l k c ≡ slices_refusal (bytes_of (gathering_in s).values) o l k c
as-image s h full o l k c =
    ap (λ (t : Bool). let g = cond t fresh_state (gathering_in s) in or_else (or_else (cond t (Err ShortSlice) accepted) (fault_of g)) (slices_refusal (bytes_of g.values) o l k c)) (le-ltb (length s) gathering_size h)
    ∙ ap (λ (r : Verdict). or_else r (slices_refusal (bytes_of (gathering_in s).values) o l k c)) full

words_of : (s : List ℕ) → gathering_size ≤ length s → stored_words s ≡ image_words (bytes_of (gathering_in s).values)
words_of s h = ap (λ (t : Bool). gathered_words (cond t fresh_state (gathering_in s))) (le-ltb (length s) gathering_size h)

-- ---- what each contract says, in that form
module _ (κs : Lfts 5) where
  -- a call's arguments, what is decoded, an image or a gathering's bytes, and the four slices; and how it ends. Both functions have the same types
  abbrev pub Call : Type 0
  Call = Dens κs FromDataK.ps

  abbrev pub Ends : Call → Type 0
  Ends a = Ending FromDataK.ps FromDataK.r κs a

  abbrev pub OfImage : (a : Call) → Ends a → Type 0
  OfImage a x = Allows FromDataK.ps FromDataK.r FromData.Learnt κs a x

  abbrev pub OfGathering : (a : Call) → Ends a → Type 0
  OfGathering a x = Allows GatheredK.ps GatheredK.r Gathered.Learnt κs a x

  abbrev pub lent_in : Call → Slices
  lent_in a = record { offset = a.1.0.now; alpha = a.1.1.0.now; kta = a.1.1.1.0.now; rec = a.1.1.1.1.0.now }

  module _ (a : Call) (x : Ends a) where
    abbrev pub left_by : Slices
    left_by = record { offset = x.lent.1.0; alpha = x.lent.1.1.0; kta = x.lent.1.1.1.0; rec = x.lent.1.1.1.1.0 }

    image-laid : OfImage a x → Laid (slices_refusal (image_in a.0.now)) (image_words (image_in a.0.now)) (lent_in a) x.result left_by
    image-laid p = record { answers = p.0; offset = p.1.0; alpha = p.1.1.0; kta = p.1.1.1.0; rec = p.1.1.1.1.0 }

    gathering-laid : OfGathering a x → Laid (gathered_refusal a.0.now) (stored_words a.0.now) (lent_in a) x.result left_by
    gathering-laid p = record { answers = p.0; offset = p.1.0; alpha = p.1.1.0; kta = p.1.1.1.0; rec = p.1.1.1.1.0 }

  -- ---- two calls with the same slices
  module _ (a b : Call) (x : Ends a) (y : Ends b) (e : a.1 ≡ b.1) where
    abbrev pub Alike : Type 0
    Alike = (x.result ≡ y.result) × (x.lent ≡ y.lent)

    -- they end alike where they refuse alike and lay out the same words
    ends-alike : {f g : Refuses} {w v : ℕ → ℕ} → ((o l k c : List ℕ) → f o l k c ≡ g o l k c) → w ≡ v
        → Laid f w (lent_in a) x.result (left_by a x) → Laid g v (lent_in b) y.result (left_by b y) → Alike
    ends-alike refuse words p q =
        let slices : lent_in a ≡ lent_in b = λ i. record { offset = (e i).0.now; alpha = (e i).1.0.now; kta = (e i).1.1.0.now; rec = (e i).1.1.1.0.now } in
        let both = alike refuse words slices p q in
        (both.0, λ i. (tt, ((both.1 i).offset, ((both.1 i).alpha, ((both.1 i).kta, ((both.1 i).rec, tt))))))

    -- so do images, in pages or not, that agree in words 16..831
    pub image-same : SameWords (image_in a.0.now) (image_in b.0.now) → OfImage a x → OfImage b y → Alike
    image-same s p q =
        let first = image_in a.0.now in
        let second = image_in b.0.now in
        ends-alike (slices-same first second s) (words-equal first second s) (image-laid a x p) (image-laid b y q)

    -- ---- the page rule: a page ends as its first 1,664 bytes do, whatever its tail holds
    stand-alike : image_in a.0.now ≡ image_in b.0.now → OfImage a x → OfImage b y → Alike
    stand-alike s p q = ends-alike (λ o l k c. ap (λ (i : List ℕ). slices_refusal i o l k c) s) (ap image_words s) (image-laid a x p) (image-laid b y q)

    pub page-as-image : length a.0.now ≡ 2048 → b.0.now ≡ take 1664 a.0.now → OfImage a x → OfImage b y → Alike
    page-as-image n s =
        let image : length b.0.now ≡ 1664 = ap length s ∙ length-take-le 1664 a.0.now (omega arith) in
        stand-alike (page-cut a.0.now n ∙ (sym s ∙ sym (others-uncut b.0.now (λ k. omega arith))))

    pub page-tail : length a.0.now ≡ 2048 → length b.0.now ≡ 2048 → take 1664 a.0.now ≡ take 1664 b.0.now → OfImage a x → OfImage b y → Alike
    page-tail n m s = stand-alike (page-cut a.0.now n ∙ (s ∙ sym (page-cut b.0.now m)))

    -- ---- two full gatherings that agree in words 16..831
    pub gathering-same : gathering_size ≤ length a.0.now → gathering_size ≤ length b.0.now → SameHeld (gathering_in a.0.now) (gathering_in b.0.now) → OfGathering a x → OfGathering b y → Alike
    gathering-same ha hb s p q =
        let g = gathering_in a.0.now in
        let k = gathering_in b.0.now in
        let bytes = held-words g k s in
        let refuse : (o l r c : List ℕ) → gathered_refusal a.0.now o l r c ≡ gathered_refusal b.0.now o l r c =
        λ o l r c. as-image a.0.now ha s.full_g o l r c ∙ (slices-same (bytes_of g.values) (bytes_of k.values) bytes o l r c ∙ sym (as-image b.0.now hb s.full_k o l r c)) in
        let words = words_of a.0.now ha ∙ (words-equal (bytes_of g.values) (bytes_of k.values) bytes ∙ sym (words_of b.0.now hb)) in
        ends-alike refuse words (gathering-laid a x p) (gathering-laid b y q)

  -- ---- any other input is decoded as it is
  pub other-as-itself : (a : Call) (x : Ends a) → (length a.0.now ≡ 2048 → ⊥) → OfImage a x
      → Laid (slices_refusal a.0.now) (image_words a.0.now) (lent_in a) x.result (left_by a x)
  other-as-itself a x n p = subst (λ (i : List ℕ). Laid (slices_refusal i) (image_words i) (lent_in a) x.result (left_by a x)) (others-uncut a.0.now n) (image-laid a x p)

  -- ---- a full gathering of one image's blocks, and that image
  pub gathering-as-image : (a b : Call) (x : Ends a) (y : Ends b) (e : a.1 ≡ b.1) (h : History) → gathering_size ≤ length a.0.now → length b.0.now ≡ image_size
      → StateOf h (gathering_in a.0.now) → From b.0.now h → Full (gathering_in a.0.now) → OfGathering a x → OfImage b y → Alike a b x y e
  gathering-as-image a b x y e h ha hb s from full p q =
      let g = gathering_in a.0.now in
      let bytes = same-words b.0.now h g s from full hb in
      let refuse : (o l r c : List ℕ) → gathered_refusal a.0.now o l r c ≡ slices_refusal b.0.now o l r c =
      λ o l r c. as-image a.0.now ha (image-faultless b.0.now h g s from full) o l r c ∙ slices-same (bytes_of g.values) b.0.now bytes o l r c in
      let words = words_of a.0.now ha ∙ words-equal (bytes_of g.values) b.0.now bytes in
      ends-alike a b x y e refuse words (gathering-laid a x p) (other-as-itself b y (λ k. omega arith) q)
