-- A list that a closure's answers fill from the front: one more answer, and the answers of one more row.
-- Assumes nothing.
use mathlib.Core.Path.{◌≡◌, refl, sym, ap, ◌∙◌}
use mathlib.Core.Bool.{Bool, true, false, cond}
use mathlib.Core.List.{List, [], ◌∷◌, ◌++◌}
use Prim.Native.Nat.{ℕ, ◌+◌, ◌-◌, ◌^◌, ◌<◌, ◌≤◌}
use native.Mathlib.Omega.{arith}
use borrow.Author.Count.{below_more}
use borrow.Author.Tests.{ltb-true, ltb-false, lt-ltb, le-ltb}
use lib.Dec.{ltb}
use lib.ListN.{length, set, take, drop}
use lib.IntN.{ℤ, nat_abs}
use Rattle.util.specs.Lists.{tab, written}
use Rattle.util.proofs.Filled.{tab-none, tab-more, tab-same, tab-whole, put-part}
use Rattle.tables.specs.Inner.Sums.{Made}

-- what holds below n, and of the k numbers from there on
either : (P : ℕ → Type 0) (n k q : ℕ) → q ≡ n + k → ((j : ℕ) → j < n → P j) → ((j : ℕ) → j < k → P (n + j)) → (j : ℕ) → j < q → P j
either P n k q e below above j h = go (ltb j n) refl
  where
    go : (b : Bool) → ltb j n ≡ b → P j
    go true t = below j (ltb-true j n t)
    go false t =
        let past : n ≤ j = ltb-false j n t in
        let i : n + (j - n) ≡ j = omega arith in
        rw i at (above (j - n) (omega arith))

module _ {X : Type 0} (post : ℤ → X → Type 0) where
  -- f below n, and g from there on
  joined : (ℕ → X) → ℕ → (ℕ → X) → ℕ → X
  joined f n g k = cond (ltb k n) (f k) (g (k - n))

  joined-front : (f : ℕ → X) (n : ℕ) (g : ℕ → X) (k : ℕ) → k < n → joined f n g k ≡ f k
  unfolding joined
  joined-front f n g k h = rw (lt-ltb k n h)

  joined-back : (f : ℕ → X) (n : ℕ) (g : ℕ → X) (k : ℕ) → joined f n g (n + k) ≡ g k
  unfolding joined
  joined-back f n g k = let e : n + k - n ≡ k = omega arith in rw (le-ltb (n + k) n (omega arith), e)

  -- at the start nothing is made; a list that has a place has something of X
  pub made-none : (sum : ℕ → ℤ) (old : List X) → 0 < length old → Made post sum 0 old old
  made-none sum [] h = absurd (omega arith)
  made-none sum (x ∷ xs) h = record { entry = λ k. x; all = tab-none _ _; each = λ k l. absurd (omega arith) }

  pub made-more : (sum : ℕ → ℤ) (n : ℕ) (old new : List X) (v : X) → n < length old → nat_abs (sum n) < 2 ^ 24 → post (sum n) v → Made post sum n old new → Made post sum (n + 1) old (set new n v)
  made-more sum n old new v h b p m =
      let f = joined m.entry n (λ k. v) in
      let next : f n ≡ v = let z : n + 0 ≡ n = omega arith in rw z at (joined-back m.entry n (λ k. v) 0) in
      let front : tab m.entry n ≡ tab f n = tab-same m.entry f n (λ k l. sym (joined-front m.entry n (λ k. v) k l)) in
      record {
        entry = f;
        all = rw (m.all, front) (rw next at (tab-more f n old h));
        each = below_more _ n (λ k l. rw (joined-front m.entry n (λ k. v) k l) (m.each k l)) (rw next (b, p));
      }

  pub made-part : (sum part : ℕ → ℤ) (n k l q : ℕ) (old new row filled : List X) → length row ≡ k → l ≡ k → q ≡ n + k → ((c : ℕ) → c < k → part c ≡ sum (n + c))
      → Made post sum n old new → Made post part k row filled → Made post sum q old (take n new ++ (filled ++ drop l (drop n new)))
  made-part sum part n k l q old new row filled hr hl hq same m r =
      let f = joined m.entry n r.entry in
      let front : tab m.entry n ≡ tab f n = tab-same m.entry f n (λ j h. sym (joined-front m.entry n r.entry j h)) in
      record {
        entry = f;
        all = put-part f r.entry n k l q old new filled (rw front at m.all) (r.all ∙ tab-whole r.entry k row hr) (λ c h. sym (joined-back m.entry n r.entry c)) hl hq;
        each = either _ n k q hq (λ j h. rw (joined-front m.entry n r.entry j h) (m.each j h)) (λ j h. rw (joined-back m.entry n r.entry j) (rw (same j h) at (r.each j h)));
      }

  -- what is made is the table, where each answer is its entry
  pub made-whole : {sum : ℕ → ℤ} {n : ℕ} {old new : List X} (entry : ℕ → X) → Made post sum n old new
      → ((k : ℕ) (y : X) → k < n → nat_abs (sum k) < 2 ^ 24 → post (sum k) y → y ≡ entry k) → new ≡ written n entry old
  made-whole {sum} {n} {old} {new} entry m is = m.all ∙ ap (λ (t : List X). t ++ drop n old) (tab-same m.entry entry n (λ k h. is k (m.entry k) h (m.each k h).0 (m.each k h).1))
