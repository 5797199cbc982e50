-- What the rule that tests only final sums left as it was: an image that was accepted is accepted, with the same record and the same tables, since it passed more tests than are
-- left. What it changed: an image that is accepted now and was refused was refused with 4.
-- Assumes nothing.
use mathlib.Core.Path.{◌≡◌, ap, ◌∙◌}
use mathlib.Core.Bool.{Bool, true, false, cond}
use mathlib.Core.List.{List}
use Prim.Native.Nat.{ℕ}
use borrow.Author.Tests.{le-ltb, eq-eqb}
use lib.Dec.{eqb}
use lib.Ieee.{Float}
use lib.IntN.{ℤ}
use lib.ListN.{length}
use Rattle.std.specs.Prelude.{Err}
use Rattle.refusal.specs.Code.{code_of, accepted_by, Verdict, accepted}
use Rattle.refusal.specs.declared.Refusal.TheVariants.{ImageLength, ShortSlice}
use Rattle.steps.specs.Steps.{first_outside}
use Rattle.steps.proofs.Meaning.{inside-accepted}
use Rattle.walk.specs.Walk.{walk}
use Rattle.tables.specs.Entries.{offset_at, alpha_at, kta_at}
use Rattle.walk.proofs.Before.{running_walk, still-accepted, refused-with-4}
use Rattle.eeprom.specs.Image.{image_words}
use Rattle.eeprom.specs.Decoding.{in_order, tables_short, refusal_of, answered, decoded_of, table_after}
use Rattle.eeprom.proofs.Refusals.{accepted-exactly}

-- the refusal by the old rule
abbrev pub running_refusal : List ℕ → ℕ → ℕ → ℕ → Verdict
running_refusal image l m n = in_order image (tables_short l m n) (first_outside (running_walk (image_words image)))

-- what both rules answer, and what they leave in the three tables, is the same
pub record SameAnswer (image : List ℕ) (l m n : ℕ) : Type 0 where
  pub accepted : refusal_of image l m n ≡ accepted
  pub decoded : decoded_of image l m n ≡ answered (running_refusal image l m n) (image_words image)
  pub offset : (d : List ℤ) → table_after (refusal_of image l m n) (offset_at (image_words image)) d ≡ table_after (running_refusal image l m n) (offset_at (image_words image)) d
  pub alpha : (d : List Float) → table_after (refusal_of image l m n) (alpha_at (image_words image)) d ≡ table_after (running_refusal image l m n) (alpha_at (image_words image)) d
  pub kta : (d : List Float) → table_after (refusal_of image l m n) (kta_at (image_words image)) d ≡ table_after (running_refusal image l m n) (kta_at (image_words image)) d

module _ (image : List ℕ) (l m n : ℕ) where
  -- what was accepted had passed the old walk
  passed : running_refusal image l m n ≡ accepted → first_outside (running_walk (image_words image)) ≡ accepted
  passed = go (eqb (length image) 1664) (tables_short l m n)
    where
      go : (a b : Bool) {r : Verdict} → cond a (cond b (Err ShortSlice) r) (Err ImageLength) ≡ accepted → r ≡ accepted
      go false b e = cc
      go true true e = cc
      go true false e = e

  pub same_answer : running_refusal image l m n ≡ accepted → SameAnswer image l m n
  unfolding refusal_of decoded_of
  same_answer e =
      let w = image_words image in
      let same : refusal_of image l m n ≡ running_refusal image l m n = rw (passed e, still-accepted w (passed e)) in
      record {
        accepted = same ∙ e;
        decoded = ap (λ (r : Verdict). answered r w) same;
        offset = λ d. ap (λ (r : Verdict). table_after r (offset_at w) d) same;
        alpha = λ d. ap (λ (r : Verdict). table_after r (alpha_at w) d) same;
        kta = λ d. ap (λ (r : Verdict). table_after r (kta_at w) d) same;
      }

  pub once-refused-with-4 : refusal_of image l m n ≡ accepted → accepted_by (running_refusal image l m n) ≡ false → (code_of (running_refusal image l m n)).number ≡ 4
  once-refused-with-4 e =
      let k = (accepted-exactly image l m n).0 e in
      let room = k.0 in
      rw (eq-eqb (length image) 1664 room.whole, le-ltb l 768 room.offset, le-ltb m 768 room.alpha, le-ltb n 768 room.kta)
      (refused-with-4 (image_words image) (inside-accepted (walk (image_words image)) k.1))
