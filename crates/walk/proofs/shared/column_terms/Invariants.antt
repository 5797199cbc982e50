-- The first c terms are written, in both halves.
use Rattle.std.proofs.Common.{◌≡◌, ℕ, ◌+◌, ◌<◌, length, get_or, pos}
use Rattle.util.specs.Words.{listed}
use Rattle.walk.specs.Parts.{column_term}
use Rattle.walk.proofs.shared.column_terms.Given as goal

abbrev pub invariant-loop-c : goal.invariant-loop-c
invariant-loop-c l =
    let term = column_term (listed l.words) l.base in
    (length l.terms ≡ 64) × ((j : ℕ) → j < l.c → (get_or l.terms j (pos 0) ≡ term j) × (get_or l.terms (32 + j) (pos 0) ≡ term j))
