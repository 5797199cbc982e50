-- Only words 16..831 count wherever calibration is decoded: every decoder's contract sees an image through its words, and a gathering through its values. Each
-- theorem is about two calls that differ in what is decoded alone, and says that they end alike. Interface.antt has the same of the C interface.
-- Assumes nothing.
use Prim.Native.Nat.{ℕ, ◌≤◌, ◌<◌}
use mathlib.Core.Path.{◌≡◌, sym, ap, ◌∙◌}
use mathlib.Core.List.{List, ◌++◌}
use native.Mathlib.Omega.{arith}
use lib.ListN.{length, get_or, drop, take-append-drop}
use contract.Lifetimes.{Lfts}
use borrow.Fn.Kinds.{Dens}
use Rattle.refusal.specs.Code.{accepted, verdict_of}
use Rattle.util.specs.Bytes.{bytes_of}
use Rattle.tables.specs.Entries.{offset_at, alpha_at, kta_at}
use Rattle.eeprom.specs.Decoding.{decoded_of, table_after}
use Rattle.eeprom.proofs.SameWords.{SameWords, words-equal, same-answers}
use Rattle.gathering.specs.State.{fault_of}
use Rattle.gathering.specs.Decoding.{calibration_of}
use Rattle.gathering.specs.declared.Gathering.{Gathering}
use Rattle.util.proofs.Bytes.{word-of-bytes, length-bytes}
use Rattle.listing.specs.Listing.{listing}
use Rattle.acceptance.specs.Determined.{Ending, Allows}
use Rattle.eeprom.proofs.from_data.Kinds as FromDataK
use Rattle.eeprom.proofs.from_data.Reads as FromData
use Rattle.listing.proofs.list_image.Kinds as ListImageK
use Rattle.listing.proofs.list_image.Reads as ListImage
use Rattle.gathering.proofs.Gathering.calibration.Kinds as CalibrationK
use Rattle.gathering.proofs.Gathering.calibration.Reads as Calibration

-- ---- images: the decoder and the listing
module _ (κs : Lfts 4) (a b : Dens κs FromDataK.ps) (x : Ending FromDataK.ps FromDataK.r κs a) (y : Ending FromDataK.ps FromDataK.r κs b) where
  pub from-data-same : SameWords a.0.now b.0.now → a.1 ≡ b.1
      → Allows FromDataK.ps FromDataK.r FromData.Learnt κs a x → Allows FromDataK.ps FromDataK.r FromData.Learnt κs b y → (x.result ≡ y.result) × (x.lent ≡ y.lent)
  from-data-same s e p q =
      let w = words-equal a.0.now b.0.now s in
      let sizes : (image : List ℕ) → decoded_of image (length a.1.0.now) (length a.1.1.0.now) (length a.1.1.1.0.now) ≡ decoded_of image (length b.1.0.now) (length b.1.1.0.now) (length b.1.1.1.0.now) =
      λ image i. decoded_of image (length (e i).0.now) (length (e i).1.0.now) (length (e i).1.1.0.now) in
      let r = p.0 ∙ (same-answers a.0.now b.0.now s (length a.1.0.now) (length a.1.1.0.now) (length a.1.1.1.0.now) ∙ (sizes b.0.now ∙ sym q.0)) in
      let o = p.1.0 ∙ ((λ j. table_after (verdict_of (r j)) (offset_at (w j)) (e j).0.now) ∙ sym q.1.0) in
      let l = p.1.1.0 ∙ ((λ j. table_after (verdict_of (r j)) (alpha_at (w j)) (e j).1.0.now) ∙ sym q.1.1.0) in
      let k = p.1.1.1 ∙ ((λ j. table_after (verdict_of (r j)) (kta_at (w j)) (e j).1.1.0.now) ∙ sym q.1.1.1) in
      (r, λ i. (tt, (o i, (l i, (k i, tt)))))

module _ (κs : Lfts 2) (a b : Dens κs ListImageK.ps) (x : Ending ListImageK.ps ListImageK.r κs a) (y : Ending ListImageK.ps ListImageK.r κs b) where
  pub list-image-same : SameWords a.0.now b.0.now → a.1 ≡ b.1
      → Allows ListImageK.ps ListImageK.r ListImage.Learnt κs a x → Allows ListImageK.ps ListImageK.r ListImage.Learnt κs b y → (x.result ≡ y.result) × (x.lent ≡ y.lent)
  list-image-same s e p q =
      let front = p.1.0 ∙ (ap listing (same-answers a.0.now b.0.now s 768 768 768) ∙ sym q.1.0) in
      let r = p.0.1 ∙ (ap length front ∙ sym q.0.1) in
      let behind = p.1.1 ∙ ((λ i. drop (r i) (e i).0.now) ∙ sym q.1.1) in
      let page = sym (take-append-drop x.result x.lent.1.0) ∙ ((λ i. front i ++ behind i) ∙ take-append-drop y.result y.lent.1.0) in
      (r, λ i. (tt, (page i, tt)))

-- ---- gatherings: full ones that agree in words 16..831
pub record SameHeld (g k : Gathering) : Type 0 where
  pub full_g : fault_of g ≡ accepted
  pub full_k : fault_of k ≡ accepted
  pub size_g : length g.values ≡ 832
  pub size_k : length k.values ≡ 832
  pub same : (n : ℕ) → 16 ≤ n → n < 832 → get_or g.values n 0 ≡ get_or k.values n 0

pub held-words : (g k : Gathering) → SameHeld g k → SameWords (bytes_of g.values) (bytes_of k.values)
held-words g k s = record {
  whole_a = omega (arith, length-bytes g.values, s.size_g);
  whole_b = omega (arith, length-bytes k.values, s.size_k);
  same = λ n l h. word-of-bytes g.values n ∙ (s.same n l h ∙ sym (word-of-bytes k.values n));
}

gathered-answers : (g k : Gathering) → SameHeld g k → (l m n : ℕ) → calibration_of g l m n ≡ calibration_of k l m n
gathered-answers g k s l m n = rw (s.full_g, s.full_k) (same-answers (bytes_of g.values) (bytes_of k.values) (held-words g k s) l m n)

module _ (κs : Lfts 4) (a b : Dens κs CalibrationK.ps) (x : Ending CalibrationK.ps CalibrationK.r κs a) (y : Ending CalibrationK.ps CalibrationK.r κs b) where
  pub calibration-same : SameHeld a.0.now b.0.now → a.1 ≡ b.1
      → Allows CalibrationK.ps CalibrationK.r Calibration.Learnt κs a x → Allows CalibrationK.ps CalibrationK.r Calibration.Learnt κs b y → (x.result ≡ y.result) × (x.lent ≡ y.lent)
  calibration-same s e p q =
      let w = words-equal (bytes_of a.0.now.values) (bytes_of b.0.now.values) (held-words a.0.now b.0.now s) in
      let sizes : calibration_of b.0.now (length a.1.0.now) (length a.1.1.0.now) (length a.1.1.1.0.now) ≡ calibration_of b.0.now (length b.1.0.now) (length b.1.1.0.now) (length b.1.1.1.0.now) =
      λ i. calibration_of b.0.now (length (e i).0.now) (length (e i).1.0.now) (length (e i).1.1.0.now) in
      let r = p.0 ∙ (gathered-answers a.0.now b.0.now s (length a.1.0.now) (length a.1.1.0.now) (length a.1.1.1.0.now) ∙ (sizes ∙ sym q.0)) in
      let o = p.1.0 ∙ ((λ j. table_after (verdict_of (r j)) (offset_at (w j)) (e j).0.now) ∙ sym q.1.0) in
      let l = p.1.1.0 ∙ ((λ j. table_after (verdict_of (r j)) (alpha_at (w j)) (e j).1.0.now) ∙ sym q.1.1.0) in
      let k = p.1.1.1 ∙ ((λ j. table_after (verdict_of (r j)) (kta_at (w j)) (e j).1.1.0.now) ∙ sym q.1.1.1) in
      (r, λ i. (tt, (o i, (l i, (k i, tt)))))
