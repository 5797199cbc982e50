-- Before the first that is outside all are inside.
use Rattle.std.proofs.Common.{◌≡◌, ℕ, ◌+◌, ◌≤◌, ◌<◌, true, List, Option, None, Some, length, get_or, arith, rules, zero-add, ◌∙◌}
use borrow.Author.Tests.{tests}
use Rattle.std.specs.List.{range_with_len, AllWithin, HoldsAt}
use Rattle.std.specs.Option.{MatchOption, unwrap_or}
use Rattle.std.proofs.lemmas.Iterator.{YieldsList-from_range, IsFirst-from_position}
use Rattle.std.proofs.lemmas.List.FromFn.{length-range_with_len, get_or-range_with_len}
use Rattle.util.specs.Words.{listed, field}
use Rattle.util.specs.Sums.{in16, term_of}
use Rattle.walk.specs.Parts.{nibble}
use Rattle.walk.proofs.rows.fitting.Goals as goal

module _ (P Found : ℕ → Type 0) (n : ℕ) where
  abbrev numbers : List ℕ
  numbers = range_with_len 0 n

  at : (k : ℕ) → k < n → get_or numbers k 0 ≡ k
  at k l = get_or-range_with_len 0 n k 0 l ∙ zero-add k

  -- the numbers below the first that is found, or below n
  before : (r : Option ℕ) → MatchOption r (AllWithin P numbers 0 (length numbers)) (λ i. (i < length numbers) × HoldsAt Found numbers i × AllWithin P numbers 0 i) →
      (unwrap_or r n ≤ n) × ((k : ℕ) → k < unwrap_or r n → P k)
  before None h = (omega arith, λ k l. rw (at k l) at (h k 0 (omega arith) (omega (arith, length-range_with_len 0 n))))
  before (Some i) h =
      let below : i < n = omega (arith, h.0, length-range_with_len 0 n) in
      (omega arith, λ k l. rw (at k (omega arith)) at (h.2 k 0 (omega arith) l))

pub returns : goal.returns
returns c =
    let w = listed c.args.words.now in
    let s = c.args in
    let Fits : ℕ → Type 0 = λ k. in16 (term_of (nibble w (s.base + s.bulk.first) k) (field (w s.base) s.bulk.low 4)) ≡ true in
    let Found : ℕ → Type 0 = λ k. Unit {0} in
    let n = s.bulk.count in
    let found = c.position-first_outside in
    let seen = IsFirst-from_position _ _ found.result Found Fits found.ensures.ran (YieldsList-from_range 0 n n (cc) (omega arith)) (λ x q k. tt) (λ x q k. search (rules, tests)) in
    rw c.unwrap_or.ensures (before Fits Found n found.result seen)
