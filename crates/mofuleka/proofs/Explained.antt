-- The pixel that an explanation is of is one of the 768: the walk names no other.
-- Assumes nothing.
use mathlib.Core.Path.{◌≡◌, sym, subst}
use mathlib.Core.List.{List}
use Prim.Native.Nat.{ℕ, ◌<◌}
use Rattle.std.specs.Prelude.{Ok}
use Rattle.eeprom.specs.Image.{image_words}
use Rattle.explanation.specs.Explanation.{explanation_of}
use Rattle.explanation.specs.declared.Explanation.{Explanation}
use Rattle.explanation.proofs.Failures.{explained-pixel}
use Rattle.explanation.proofs.Promises.{asked, asked_table, is-explained}

pub small-pixel : (image : List ℕ) (n p : ℕ) (e : Explanation) → explanation_of image n p ≡ Ok e → e.pixel < 768
small-pixel image n p e given =
    subst (λ (x : Explanation). x.pixel < 768) (sym (is-explained image n p e given))
    (explained-pixel (image_words image) (asked_table image n p e given) p (asked image n p e given).pixel)
