-- The words are as listed, word by word, and their numbers rise.
use Rattle.std.proofs.Common.{ℕ, ◌+◌, ◌/◌, ◌%◌, List, [], ◌∷◌, sym, ap, subst}
use Rattle.pixel.specs.Needed.{needed_by}
use Rattle.pixel.specs.Inner.Places.{Rising, Below}
use Rattle.pixel.proofs.Sameness.{needed-rise, needed-below}
use Rattle.pixel.proofs.needed.Goals as goal

-- the words, with this number for Kta's average
with_average : ℕ → ℕ → List ℕ
with_average p k = 16 ∷ 17 ∷ (18 + p / 32 / 4) ∷ (24 + p % 32 / 4) ∷ 32 ∷ 33 ∷ (34 + p / 32 / 4) ∷ (40 + p % 32 / 4) ∷ k ∷ 56 ∷ (64 + p) ∷ []

pub returns-clause-value : goal.returns-clause-value
unfolding needed_by with_average
returns-clause-value c = ap (with_average c.args.p) c.k_ta_average_word.ensures.value

pub returns-clause-rising : goal.returns-clause-rising
returns-clause-rising c =
    let is = returns-clause-value c in
    (subst Rising (sym is) (needed-rise c.args.p c.requires), subst (Below 832) (sym is) (needed-below c.args.p c.requires))
