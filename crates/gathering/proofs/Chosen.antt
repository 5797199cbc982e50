-- One pixel's answer from the cells of the words that it needs is that of the gathering: the words rise, so that the first fault among them is the lowest.
-- Assumes nothing.
use Prim.Native.Nat.{ℕ, ◌<◌}
use mathlib.Core.Path.{◌≡◌, refl, sym, ap, ◌∙◌}
use mathlib.Core.Bool.{Bool, ◌&&◌}
use mathlib.Core.List.{List, map}
use native.Mathlib.Omega.{arith}
use borrow.Author.Tests.{lt-ltb}
use lib.Dec.{eqb}
use lib.ListN.{length, get_or}
use Rattle.std.specs.Result.{result_and}
use Rattle.refusal.specs.Code.{or_else, Verdict}
use Rattle.refusal.proofs.Order.{granted-behind}
use Rattle.util.specs.Words.{listed}
use Rattle.util.specs.Bytes.{bytes_of}
use Rattle.util.specs.Lists.{tab, lowest}
use Rattle.util.proofs.Bytes.{word-of-bytes}
use Rattle.util.proofs.Filled.{tab-at}
use Rattle.util.proofs.Lists.{lowest-ext}
use Rattle.pixel.specs.Needed.{needed_by, among}
use Rattle.pixel.specs.Answer.{pixel_fault, answered}
use Rattle.pixel.specs.Inner.From.{answer_from}
use Rattle.pixel.specs.Inner.Places.{Rising, Below}
use Rattle.pixel.proofs.Rising.{first-lowest, none-lowest}
use Rattle.pixel.proofs.Chosen.{chosen}
use Rattle.pixel.proofs.Sameness.{needed-words, from-needed, needed-rise, needed-below}
use Rattle.gathering.specs.Cells.{cell_of, mark_of}
use Rattle.gathering.specs.State.{fault_from}
use Rattle.gathering.specs.Decoding.{gathered_words}
use Rattle.gathering.specs.Pixels.{fault_among}
use Rattle.gathering.specs.Inner.Marks.{marked_as}
use Rattle.gathering.specs.Inner.Chosen.{standing_at, first_marked, cells_fault, cells_told, cells_answer}
use Rattle.gathering.specs.declared.Gathering.{Gathering}
use Rattle.gathering.proofs.Cells.{marked-missing, marked-conflict}
use Rattle.gathering.proofs.Faults.{Search, found, nowhere, search-ends}

-- what stands at these places
abbrev pub at_places : List ℕ → List ℕ → List ℕ
at_places l places = tab (λ k. listed l (listed places k)) 11

-- ---- the first of rising words with a mark is the lowest of them with it
module _ (words marks : List ℕ) (mark : ℕ) (rise : Rising words) (below : Below 832 words) (eleven : length words ≡ 11) where
  abbrev q : ℕ → Bool
  q = marked_as mark marks

  picked : (k : ℕ) → k < 11 → marked_as mark (at_places marks words) k ≡ q (get_or words k 0)
  picked k h = ap (λ (m : ℕ). eqb (mark_of (cell_of 0 m)) mark) (tab-at (λ j. listed marks (listed words j)) 11 k 0 h)

  first-is-lowest : first_marked words (at_places marks words) mark ≡ lowest 832 (λ w. among words w && q w)
  first-is-lowest = go (search-ends 11 (marked_as mark (at_places marks words)))
    where
      go : Search 11 (marked_as mark (at_places marks words)) → first_marked words (at_places marks words) mark ≡ lowest 832 (λ w. among words w && q w)
      go (found k l t least e) =
          let h : k < length words = omega arith in
          ap (standing_at words) e
          ∙ (rw (lt-ltb k 11 l) (sym (first-lowest q words k rise h (below k h) (sym (picked k l) ∙ t) (λ j b. sym (picked j (omega arith)) ∙ least j b))))
      go (nowhere none e) = ap (standing_at words) e ∙ sym (none-lowest q words (λ j b. sym (picked j (omega arith)) ∙ none j (omega arith)))

-- ---- of a gathering
module _ (g : Gathering) (p : ℕ) (h : p < 768) where
  abbrev words : List ℕ
  words = needed_by p

  fault-is : cells_fault (at_places g.marks words) p ≡ fault_among g words
  unfolding needed_by
  fault-is = λ i.
      fault_from
      ((first-is-lowest words g.marks 2 (needed-rise p h) (needed-below p h) refl ∙ lowest-ext 832 _ _ (λ w l. ap (λ (t : Bool). among words w && t) (marked-conflict g.values g.marks w))) i)
      ((first-is-lowest words g.marks 0 (needed-rise p h) (needed-below p h) refl ∙ lowest-ext 832 _ _ (λ w l. ap (λ (t : Bool). among words w && t) (marked-missing g.values g.marks w))) i)

  -- the stored values of the needed words
  pub stored-words : map (gathered_words g) words ≡ map (listed g.values) words
  stored-words = needed-words (bytes_of g.values) p h ∙ (λ i. map (λ n. word-of-bytes g.values n i) words)

  values-are : answer_from (at_places g.values words) p ≡ answered (pixel_fault (gathered_words g) p) (gathered_words g) p
  unfolding needed_by
  values-are = ap (λ (l : List ℕ). answer_from l p) (chosen (listed g.values) words ∙ sym stored-words) ∙ from-needed (gathered_words g) p

  pub stored-cells : cells_answer (at_places g.values words) (at_places g.marks words) p ≡ answered (or_else (fault_among g words) (pixel_fault (gathered_words g) p)) (gathered_words g) p
  unfolding answered
  stored-cells =
      ap (λ (r : Verdict). cells_told r (at_places g.values words) p) fault-is
      ∙ (ap (result_and (fault_among g words)) values-are ∙ sym (granted-behind (fault_among g words) (pixel_fault (gathered_words g) p) _))
