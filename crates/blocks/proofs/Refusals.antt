-- The four tests of a block in their order, each refusal exactly when: L counts the bytes after it, it is that of 1 to 64 words, the version is 1, and the words lie among the 832.
-- Assumes nothing.
use Prim.Native.Nat.{ℕ, ◌+◌, ◌*◌, ◌%◌, ◌≤◌, ◌<◌}
use mathlib.Core.Path.{◌≡◌, refl, sym, ap, ap₂, subst, ◌∙◌}
use mathlib.Core.Bool.{Bool, true, false}
use mathlib.Core.Logic.{◌↔◌}
use mathlib.Core.List.{List}
use native.Mathlib.Omega.{arith}
use borrow.Author.Tests.{ltb-true, ltb-false, eqb-true, eqb-false}
use lib.Dec.{eqb, ltb}
use lib.ListN.{length}
use Rattle.std.specs.Prelude.{Result, Ok, Err}
use Rattle.refusal.specs.Code.{verdict_of}
use Rattle.refusal.specs.declared.Refusal.{Refusal}
use Rattle.refusal.specs.declared.Refusal.TheVariants.{BlockLength, BlockCount, BlockVersion, BlockRange}
use Rattle.blocks.specs.Blocks.{count_field, largest, version_of, first_word_of, word_count, block_of, read_block, block_refusal}
use Rattle.blocks.specs.declared.Block.{Block}

same_block : {x y : Block} → ◌≡◌ {A = Result Block Refusal} (Ok x) (Ok y) → x ≡ y
same_block e = cc

module _ (b : List ℕ) where
  -- there is an L, and it counts the bytes after it
  pub record Sized : Type 0 where
    pub counted : 2 ≤ length b
    pub whole : length b ≡ count_field b + 2

  -- and it is that of n words, 1 to 64
  pub record Counted (n : ℕ) : Type 0 where
    pub sized : Sized
    pub words : count_field b ≡ 3 + 2 * n
    pub some : 1 ≤ n
    pub few : n ≤ 64

  -- the five ways that a block goes
  pub data Way : Type 0 where
    unsized : (Sized → ⊥) → read_block b ≡ Err BlockLength → Way
    uncounted : Sized → ((n : ℕ) → Counted n → ⊥) → read_block b ≡ Err BlockCount → Way
    other : (n : ℕ) → Counted n → (version_of b ≡ 1 → ⊥) → read_block b ≡ Err BlockVersion → Way
    beyond : (n : ℕ) → Counted n → version_of b ≡ 1 → 832 < first_word_of b + n → read_block b ≡ Err BlockRange → Way
    taken : (n : ℕ) → Counted n → version_of b ≡ 1 → first_word_of b + n ≤ 832 → read_block b ≡ Ok (block_of (first_word_of b) n) → Way

  pub way : Way
  way = go (ltb (length b) 2) (eqb (length b) (count_field b + 2)) (ltb (count_field b) 5) (ltb largest (count_field b)) (eqb (count_field b % 2) 0) (eqb (version_of b) 1) (ltb 832 (first_word_of b + word_count b)) refl refl refl refl refl refl refl
    where
      sized : ltb (length b) 2 ≡ false → eqb (length b) (count_field b + 2) ≡ true → Sized
      sized e1 e2 = record { counted = ltb-false (length b) 2 e1; whole = eqb-true (length b) (count_field b + 2) e2 }

      counted : ltb (length b) 2 ≡ false → eqb (length b) (count_field b + 2) ≡ true → ltb (count_field b) 5 ≡ false → ltb largest (count_field b) ≡ false → eqb (count_field b % 2) 0 ≡ false → Counted (word_count b)
      counted e1 e2 e3 e4 e5 =
          let low = ltb-false (count_field b) 5 e3 in
          let high = ltb-false largest (count_field b) e4 in
          let odd = eqb-false (count_field b % 2) 0 e5 in
          record { sized = sized e1 e2; words = omega arith; some = omega arith; few = omega arith }

      go : (t1 t2 t3 t4 t5 t6 t7 : Bool) → ltb (length b) 2 ≡ t1 → eqb (length b) (count_field b + 2) ≡ t2 → ltb (count_field b) 5 ≡ t3 → ltb largest (count_field b) ≡ t4 → eqb (count_field b % 2) 0 ≡ t5
          → eqb (version_of b) 1 ≡ t6 → ltb 832 (first_word_of b + word_count b) ≡ t7 → Way
      go true t2 t3 t4 t5 t6 t7 e1 e2 e3 e4 e5 e6 e7 = unsized (λ s. omega (arith, ltb-true (length b) 2 e1, s.counted)) (rw e1)
      go false false t3 t4 t5 t6 t7 e1 e2 e3 e4 e5 e6 e7 = unsized (λ s. eqb-false (length b) (count_field b + 2) e2 s.whole) (rw (e1, e2))
      go false true true t4 t5 t6 t7 e1 e2 e3 e4 e5 e6 e7 = uncounted (sized e1 e2) (λ n c. omega (arith, ltb-true (count_field b) 5 e3, c.words, c.some)) (rw (e1, e2, e3))
      go false true false true t5 t6 t7 e1 e2 e3 e4 e5 e6 e7 = uncounted (sized e1 e2) (λ n c. omega (arith, ltb-true largest (count_field b) e4, c.words, c.few)) (rw (e1, e2, e3, e4))
      go false true false false true t6 t7 e1 e2 e3 e4 e5 e6 e7 = uncounted (sized e1 e2) (λ n c. omega (arith, eqb-true (count_field b % 2) 0 e5, c.words)) (rw (e1, e2, e3, e4, e5))
      go false true false false false false t7 e1 e2 e3 e4 e5 e6 e7 = other (word_count b) (counted e1 e2 e3 e4 e5) (eqb-false (version_of b) 1 e6) (rw (e1, e2, e3, e4, e5, e6))
      go false true false false false true true e1 e2 e3 e4 e5 e6 e7 =
          beyond (word_count b) (counted e1 e2 e3 e4 e5) (eqb-true (version_of b) 1 e6) (ltb-true 832 (first_word_of b + word_count b) e7) (rw (e1, e2, e3, e4, e5, e6, e7))
      go false true false false false true false e1 e2 e3 e4 e5 e6 e7 =
          taken (word_count b) (counted e1 e2 e3 e4 e5) (eqb-true (version_of b) 1 e6) (ltb-false 832 (first_word_of b + word_count b) e7) (rw (e1, e2, e3, e4, e5, e6, e7))

  -- each refusal exactly when
  pub refusal-5 : (block_refusal b ≡ Err BlockLength) ↔ (Sized → ⊥)
  refusal-5 = (λ e. to way e, λ n. from way n)
    where
      to : Way → block_refusal b ≡ Err BlockLength → Sized → ⊥
      to (unsized n d) e = n
      to (uncounted s n d) e = let z : ◌≡◌ {A = ℕ} 0 1 = cc in absurd (omega arith)
      to (other n c v d) e = let z : ◌≡◌ {A = ℕ} 0 1 = cc in absurd (omega arith)
      to (beyond n c v r d) e = let z : ◌≡◌ {A = ℕ} 0 1 = cc in absurd (omega arith)
      to (taken n c v r d) e = let z : ◌≡◌ {A = ℕ} 0 1 = cc in absurd (omega arith)

      from : Way → (Sized → ⊥) → block_refusal b ≡ Err BlockLength
      from (unsized n d) m = ap verdict_of d
      from (uncounted s n d) m = absurd (m s)
      from (other n c v d) m = absurd (m c.sized)
      from (beyond n c v r d) m = absurd (m c.sized)
      from (taken n c v r d) m = absurd (m c.sized)

  pub refusal-6 : (block_refusal b ≡ Err BlockCount) ↔ (Sized × ((n : ℕ) → Counted n → ⊥))
  refusal-6 = (λ e. to way e, λ k. from way k)
    where
      to : Way → block_refusal b ≡ Err BlockCount → Sized × ((n : ℕ) → Counted n → ⊥)
      to (unsized n d) e = let z : ◌≡◌ {A = ℕ} 0 1 = cc in absurd (omega arith)
      to (uncounted s n d) e = (s, n)
      to (other n c v d) e = let z : ◌≡◌ {A = ℕ} 0 1 = cc in absurd (omega arith)
      to (beyond n c v r d) e = let z : ◌≡◌ {A = ℕ} 0 1 = cc in absurd (omega arith)
      to (taken n c v r d) e = let z : ◌≡◌ {A = ℕ} 0 1 = cc in absurd (omega arith)

      from : Way → Sized × ((n : ℕ) → Counted n → ⊥) → block_refusal b ≡ Err BlockCount
      from (unsized n d) k = absurd (n k.0)
      from (uncounted s n d) k = ap verdict_of d
      from (other n c v d) k = absurd (k.1 n c)
      from (beyond n c v r d) k = absurd (k.1 n c)
      from (taken n c v r d) k = absurd (k.1 n c)

  pub refusal-7 : (block_refusal b ≡ Err BlockVersion) ↔ ((n : ℕ) × Counted n × (version_of b ≡ 1 → ⊥))
  refusal-7 = (λ e. to way e, λ k. from way k)
    where
      to : Way → block_refusal b ≡ Err BlockVersion → (n : ℕ) × Counted n × (version_of b ≡ 1 → ⊥)
      to (unsized n d) e = let z : ◌≡◌ {A = ℕ} 0 1 = cc in absurd (omega arith)
      to (uncounted s n d) e = let z : ◌≡◌ {A = ℕ} 0 1 = cc in absurd (omega arith)
      to (other n c v d) e = (n, c, v)
      to (beyond n c v r d) e = let z : ◌≡◌ {A = ℕ} 0 1 = cc in absurd (omega arith)
      to (taken n c v r d) e = let z : ◌≡◌ {A = ℕ} 0 1 = cc in absurd (omega arith)

      from : Way → (n : ℕ) × Counted n × (version_of b ≡ 1 → ⊥) → block_refusal b ≡ Err BlockVersion
      from (unsized n d) k = absurd (n k.1.sized)
      from (uncounted s n d) k = absurd (n k.0 k.1)
      from (other n c v d) k = ap verdict_of d
      from (beyond n c v r d) k = absurd (k.2 v)
      from (taken n c v r d) k = absurd (k.2 v)

  same_count : {m n : ℕ} → Counted m → Counted n → m ≡ n
  same_count c d = omega (arith, c.words, d.words)

  pub refusal-8 : (block_refusal b ≡ Err BlockRange) ↔ ((n : ℕ) × Counted n × (version_of b ≡ 1) × (832 < first_word_of b + n))
  refusal-8 = (λ e. to way e, λ k. from way k)
    where
      to : Way → block_refusal b ≡ Err BlockRange → (n : ℕ) × Counted n × (version_of b ≡ 1) × (832 < first_word_of b + n)
      to (unsized n d) e = let z : ◌≡◌ {A = ℕ} 0 1 = cc in absurd (omega arith)
      to (uncounted s n d) e = let z : ◌≡◌ {A = ℕ} 0 1 = cc in absurd (omega arith)
      to (other n c v d) e = let z : ◌≡◌ {A = ℕ} 0 1 = cc in absurd (omega arith)
      to (beyond n c v r d) e = (n, c, v, r)
      to (taken n c v r d) e = let z : ◌≡◌ {A = ℕ} 0 1 = cc in absurd (omega arith)

      from : Way → (n : ℕ) × Counted n × (version_of b ≡ 1) × (832 < first_word_of b + n) → block_refusal b ≡ Err BlockRange
      from (unsized n d) k = absurd (n k.1.sized)
      from (uncounted s n d) k = absurd (n k.0 k.1)
      from (other n c v d) k = absurd (v k.2)
      from (beyond n c v r d) k = ap verdict_of d
      from (taken n c v r d) k = absurd (omega (arith, same_count c k.1, k.3))

  -- what is accepted
  pub record Taken (first n : ℕ) : Type 0 where
    pub counted : Counted n
    pub version : version_of b ≡ 1
    pub starts : first_word_of b ≡ first
    pub among : first + n ≤ 832

  pub taken-exactly : (first n : ℕ) → (read_block b ≡ Ok (block_of first n)) ↔ Taken first n
  taken-exactly first n = (λ e. to way e, λ k. from way k)
    where
      to : Way → read_block b ≡ Ok (block_of first n) → Taken first n
      to (unsized m d) e = let z : ◌≡◌ {A = ℕ} 0 1 = cc in absurd (omega arith)
      to (uncounted s m d) e = let z : ◌≡◌ {A = ℕ} 0 1 = cc in absurd (omega arith)
      to (other m c v d) e = let z : ◌≡◌ {A = ℕ} 0 1 = cc in absurd (omega arith)
      to (beyond m c v r d) e = let z : ◌≡◌ {A = ℕ} 0 1 = cc in absurd (omega arith)
      to (taken m c v r d) e =
          let k : block_of (first_word_of b) m ≡ block_of first n = same_block (sym d ∙ e) in
          let f : first_word_of b ≡ first = ap (λ (x : Block). x.first) k in
          let l : m ≡ n = ap (λ (x : Block). x.count) k in
          record { counted = subst Counted l c; version = v; starts = f; among = omega arith }

      from : Way → Taken first n → read_block b ≡ Ok (block_of first n)
      from (unsized m d) k = absurd (m k.counted.sized)
      from (uncounted s m d) k = absurd (m n k.counted)
      from (other m c v d) k = absurd (v k.version)
      from (beyond m c v r d) k = absurd (omega (arith, same_count c k.counted, k.starts, k.among))
      from (taken m c v r d) k = d ∙ ap₂ (λ (f m : ℕ). Ok (block_of f m)) k.starts (same_count c k.counted)
