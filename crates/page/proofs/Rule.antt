-- The page rule both ways: the test of the length picks the case, so a page is cut to its first 1,664 bytes, whatever its tail holds, and nothing else is cut.
-- Assumes nothing.
use mathlib.Core.Path.{◌≡◌, refl, sym, ap, ◌∙◌}
use mathlib.Core.Logic.{◌↔◌, ◌⊎◌, inl, inr, ⊎_elim}
use mathlib.Core.Bool.{Bool, true, false}
use mathlib.Core.List.{List, ◌++◌}
use Prim.Native.Nat.{ℕ}
use native.Mathlib.Omega.{arith}
use borrow.Author.Tests.{eqb-true, eqb-false, ne_eqb}
use lib.Dec.{eqb}
use lib.ListN.{length, take, length-append}
use lib.Seq.{length-take-le, take-length, take_at}
use Rattle.page.specs.Page.{image_in}

pub page-cut : (input : List ℕ) → length input ≡ 2048 → image_in input ≡ take 1664 input
unfolding image_in
page-cut input e = rw e

pub others-uncut : (input : List ℕ) → (length input ≡ 2048 → ⊥) → image_in input ≡ input
unfolding image_in
others-uncut input n = rw (ne_eqb (length input) 2048 n) (take-length input)

-- whatever stands behind the image in a page
pub tail-ignored : (image tail : List ℕ) → length image ≡ 1664 → length tail ≡ 384 → image_in (image ++ tail) ≡ image
tail-ignored image tail e f = page-cut (image ++ tail) (length-append image tail ∙ omega arith) ∙ take_at image tail 1664 e

-- an input stands for an image of 1,664 bytes exactly where it has as many, or is a page
pub whole-image : (input : List ℕ) → (length (image_in input) ≡ 1664) ↔ ((length input ≡ 1664) ⊎ (length input ≡ 2048))
whole-image input = (λ e. to (eqb (length input) 2048) refl e, ⊎_elim same page)
  where
    page : length input ≡ 2048 → length (image_in input) ≡ 1664
    page e = ap length (page-cut input e) ∙ length-take-le 1664 input (omega arith)

    same : length input ≡ 1664 → length (image_in input) ≡ 1664
    same e = ap length (others-uncut input (λ f. omega arith)) ∙ e

    to : (b : Bool) → eqb (length input) 2048 ≡ b → length (image_in input) ≡ 1664 → (length input ≡ 1664) ⊎ (length input ≡ 2048)
    to true t e = inr (eqb-true (length input) 2048 t)
    to false t e = inl (sym (ap length (others-uncut input (eqb-false (length input) 2048 t))) ∙ e)
