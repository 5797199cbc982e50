-- The largest of 0 and the sizes is at least each of them.
use Rattle.std.proofs.Common.{◌≡◌, ℕ, zero, suc, ◌+◌, ◌≤◌, ◌<◌, map, max, arith, rules, zero-add}
use lib.IntN.{nat_abs}
use Rattle.std.specs.List.{range_with_len, fold}
use Rattle.std.proofs.lemmas.Iterator.{YieldsList-from_range, YieldsList-from_map}
use Rattle.std.proofs.lemmas.Iterator.Consumers.{YieldsList-at, fold_from_yields_List}
use Rattle.util.specs.Words.{listed}
use Rattle.walk.specs.Parts.{nibble}
use Rattle.walk.proofs.Sizes.{nibble-size}
use Rattle.walk.proofs.calm.reach.Goals as goal

module _ (size : ℕ → ℕ) (top : ℕ) (below : (k : ℕ) → size k ≤ top) where
  -- m is at least a and the sizes of the n numbers from i on
  abbrev Over : ℕ → ℕ → ℕ → ℕ → Type 0
  Over m n i a = (a ≤ m) × ((k : ℕ) → k < n → size (i + k) ≤ m) × (m ≤ top)

  more : (m n i a b : ℕ) → size i ≤ b → a ≤ b → Over m n (i + 1) b → Over m (suc n) i a
  more m n i a b first h rest = (omega (arith, rest.0), each, rest.2)
    where
      each : (k : ℕ) → k < suc n → size (i + k) ≤ m
      each zero l = let e : i + 0 ≡ i = omega arith in rw e (omega (arith, rest.0))
      each (suc k) l = let e : i + 1 + k ≡ i + suc k = omega arith in rw e at (rest.1 k (omega arith))

  largest : (n i a : ℕ) → a ≤ top → Over (fold max a (map size (range_with_len i n))) n i a
  largest zero i a h = (omega arith, λ k l. absurd (omega arith), h)
  largest (suc n) i a h = more _ n i a (max a (size i)) (omega arith) (omega arith) (largest n (i + 1) (max a (size i)) (omega (arith, below i, h)))

pub returns : goal.returns
returns c =
    let w = listed c.args.words.now in
    let n = c.args.count in
    let size : ℕ → ℕ = λ k. nat_abs (nibble w c.args.first k) in
    let is = fold_from_yields_List _ max 0 c.fold.result c.fold.ensures.ran (YieldsList-from_map _ size (YieldsList-at c.map-sizes.ensures.source (YieldsList-from_range 0 n n (cc) (omega arith)))
    c.map-sizes.ensures.closure (λ x r q k. search rules)) (λ a x b q k. search rules) in
    let found = largest size 32768 (nibble-size w c.args.first) n 0 0 (omega arith) in
    record { each = λ k l. rw is (let e = zero-add k in rw e at (found.1 k l)); small = rw is found.2 }
