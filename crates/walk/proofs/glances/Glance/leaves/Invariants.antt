-- As long as nothing was found, all that was passed is inside.
use Rattle.std.proofs.Common.{◌≡◌, ℕ, ◌<◌, true, false}
use Rattle.util.specs.Words.{listed}
use Rattle.util.specs.Sums.{in16}
use Rattle.walk.specs.Inner.Rows.{own_term, row_entry}
use Rattle.walk.proofs.glances.Glance.leaves.Given as goal

abbrev pub invariant-loop-c : goal.invariant-loop-c
invariant-loop-c l =
    let s = l.self in
    let w = listed s.words.now in
    l.found ≡ false → (j : ℕ) → j < l.c →
    (in16 (own_term w s.low s.width s.power l.r j) ≡ true) × (in16 (row_entry w s.rows.now s.columns.now s.low s.width s.power l.r j) ≡ true)
