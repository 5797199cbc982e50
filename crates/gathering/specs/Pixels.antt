-- What a gathering answers of one pixel: 11 comes first, then 9 and 10 among the words that the pixel needs, and past them it is answered as the image with its words.
-- Assumes nothing.
use Rattle.std.specs.Prelude.{ℕ, ◌≡◌, true, ◌&&◌, List, Result}
use Rattle.refusal.specs.Code.{or_else, Verdict}
use Rattle.refusal.specs.declared.Refusal.{Refusal}
use Rattle.util.specs.Lists.{lowest}
use Rattle.pixel.specs.Needed.{needed_by, among, needs}
use Rattle.pixel.specs.Answer.{past_refusal, pixel_fault, answered}
use Rattle.pixel.specs.declared.PixelEntries.{PixelEntries}
use Rattle.gathering.specs.Cells.{is_missing, is_in_conflict}
use Rattle.gathering.specs.State.{cell_at, fault_from}
use Rattle.gathering.specs.Decoding.{gathered_words}
use Rattle.gathering.specs.declared.Gathering.{Gathering}

-- refusals 9 and 10 among some words: the lowest of them in conflict, or else the lowest of them that is missing
abbrev pub fault_among : Gathering → List ℕ → Verdict
fault_among g words = fault_from (lowest 832 (λ w. among words w && is_in_conflict (cell_at g w))) (lowest 832 (λ w. among words w && is_missing (cell_at g w)))

abbrev pub gathered_pixel_refusal : Gathering → ℕ → Verdict
gathered_pixel_refusal g p = or_else (past_refusal p) (or_else (fault_among g (needed_by p)) (pixel_fault (gathered_words g) p))

abbrev pub gathered_pixel : Gathering → ℕ → Result PixelEntries Refusal
gathered_pixel g p = answered (gathered_pixel_refusal g p) (gathered_words g) p

-- pixel p needs word w, and something is true of it
pub record Needs (p : ℕ) (P : ℕ → Type 0) (w : ℕ) : Type 0 where
  pub needed : needs p w ≡ true
  pub has : P w
