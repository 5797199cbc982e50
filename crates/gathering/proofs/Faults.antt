-- Refusals 9 and 10 name the lowest word, exactly when there is one: the search for the lowest place stops at the first that has the property, and the rule leaves
-- one cell for each word.
-- Assumes nothing.
use Prim.Native.Nat.{ℕ, zero, suc, ◌<◌, zero-le, suc-le-suc}
use mathlib.Core.Path.{◌≡◌, refl, sym, ap, ap₂, subst, ◌∙◌}
use mathlib.Core.Bool.{Bool, true, false, cond, true≢false}
use mathlib.Core.Logic.{◌↔◌}
use native.Mathlib.Nat.{not-suc-le-zero, le_of_suc-le-suc}
use native.Mathlib.Omega.{arith}
use borrow.Author.Tests.{lt-ltb}
use lib.Dec.{ltb}
use Rattle.std.specs.Prelude.{Result, Err, IsOkAnd}
use Rattle.refusal.specs.declared.Refusal.{Refusal}
use Rattle.refusal.specs.Code.{Verdict, accepted}
use Rattle.refusal.specs.declared.Refusal.TheVariants.{WordInConflict, WordMissing}
use Rattle.gathering.specs.Cells.{missing, conflict, is_missing, is_in_conflict}
use Rattle.util.specs.Lists.{lowest}
use Rattle.gathering.specs.State.{cell_at, word_of, fault_from, fault_of}
use Rattle.gathering.specs.History.{History, Rule, StateOf, WordIn, Lowest, NoWord, Faults, FaultIn, FaultAt}
use Rattle.gathering.specs.declared.Gathering.{Gathering}
use Rattle.gathering.specs.declared.Word.{Word}
use Rattle.gathering.proofs.Counts.{is-missing, is-conflict}
use Rattle.util.proofs.Lists.{lowest-at, lowest-none}
use Rattle.gathering.proofs.Rule.{rule-only}

-- ---- the two ends of a search
pub data Search (n : ℕ) (p : ℕ → Bool) : Type 0 where
  found : (w : ℕ) → w < n → p w ≡ true → ((k : ℕ) → k < w → p k ≡ false) → lowest n p ≡ w → Search n p
  nowhere : ((k : ℕ) → k < n → p k ≡ false) → lowest n p ≡ n → Search n p

pub search-ends : (n : ℕ) (p : ℕ → Bool) → Search n p
search-ends zero p = let none : (k : ℕ) → k < 0 → p k ≡ false = λ k l. absurd (not-suc-le-zero l) in nowhere none (lowest-none 0 p none)
search-ends (suc n) p = go (p 0) refl (search-ends n (λ k. p (suc k)))
  where
    below : {m : ℕ} → p 0 ≡ false → ((k : ℕ) → k < m → p (suc k) ≡ false) → (k : ℕ) → k < suc m → p k ≡ false
    below e l zero h = e
    below e l (suc k) h = l k (le_of_suc-le-suc h)

    go : (t : Bool) → p 0 ≡ t → Search n (λ k. p (suc k)) → Search (suc n) p
    go true e s = let least : (k : ℕ) → k < 0 → p k ≡ false = λ k l. absurd (not-suc-le-zero l) in found 0 (suc-le-suc zero-le) e least (lowest-at (suc n) 0 p (suc-le-suc zero-le) e least)
    go false e (found w l h m q) = found (suc w) (suc-le-suc l) h (below e m) (lowest-at (suc n) (suc w) p (suc-le-suc l) h (below e m))
    go false e (nowhere m q) = nowhere (below e m) (lowest-none (suc n) p (below e m))

-- ---- what a test of each word finds
module _ (C M : ℕ → Type 0) (p q : ℕ → Bool) (c : (w : ℕ) → w < 832 → (p w ≡ true) ↔ C w) (m : (w : ℕ) → w < 832 → (q w ≡ true) ↔ M w) where
  none_of : (P : ℕ → Type 0) (t : ℕ → Bool) (x : (w : ℕ) → w < 832 → (t w ≡ true) ↔ P w) (n : ℕ) → ((k : ℕ) → k < n → t k ≡ false) → (k : ℕ) → k < n → k < 832 → P k → ⊥
  none_of P t x n f k l h a = true≢false (sym ((x k h).1 a) ∙ f k l)

  tests-false : (P : ℕ → Type 0) (t : ℕ → Bool) (x : (w : ℕ) → w < 832 → (t w ≡ true) ↔ P w) (k : ℕ) → k < 832 → (P k → ⊥) → t k ≡ false
  tests-false P t x k l n = go (t k) refl
    where
      go : (b : Bool) → t k ≡ b → t k ≡ false
      go true e = absurd (n ((x k l).0 e))
      go false e = e

  lowest-of : (P : ℕ → Type 0) (t : ℕ → Bool) (x : (w : ℕ) → w < 832 → (t w ≡ true) ↔ P w) (w : ℕ) → Lowest P w → lowest 832 t ≡ w
  lowest-of P t x w a = lowest-at 832 w t a.below ((x w a.below).1 a.has) (λ k l. tests-false P t x k (omega (arith, a.below)) (a.least k l))

  no-lowest : (P : ℕ → Type 0) (t : ℕ → Bool) (x : (w : ℕ) → w < 832 → (t w ≡ true) ↔ P w) → NoWord P → lowest 832 t ≡ 832
  no-lowest P t x n = lowest-none 832 t (λ k l. tests-false P t x k l (n k l))

  is-lowest : (P : ℕ → Type 0) (t : ℕ → Bool) (x : (w : ℕ) → w < 832 → (t w ≡ true) ↔ P w) (w : ℕ) → w < 832 → t w ≡ true → ((k : ℕ) → k < w → t k ≡ false) → Lowest P w
  is-lowest P t x w l e f = record { below = l; has = (x w l).0 e; least = λ k h. none_of P t x w f k h (omega arith) }

  abbrev fault : Verdict
  fault = fault_from (lowest 832 p) (lowest 832 q)

  named : (w : ℕ) → w < 832 → lowest 832 p ≡ w → fault ≡ Err (WordInConflict w)
  named w l e = ap (λ (k : ℕ). fault_from k (lowest 832 q)) e ∙ ap (λ (t : Bool). cond t (Err (WordInConflict w)) (cond (ltb (lowest 832 q) 832) (Err (WordMissing (lowest 832 q))) accepted)) (lt-ltb w 832 l)

  lacked : (w : ℕ) → w < 832 → lowest 832 p ≡ 832 → lowest 832 q ≡ w → fault ≡ Err (WordMissing w)
  lacked w l d e = ap₂ fault_from d e ∙ ap (λ (t : Bool). cond t (Err (WordMissing w)) accepted) (lt-ltb w 832 l)

  pub faults : Faults C M fault
  faults = record {
    nine = λ w. (λ e. nine-to w (search-ends 832 p) (search-ends 832 q) e, λ a. named w a.below (lowest-of C p c w a));
    ten = λ w. (λ e. ten-to w (search-ends 832 p) (search-ends 832 q) e, λ a. lacked w a.1.below (no-lowest C p c a.0) (lowest-of M q m w a.1));
    neither = (λ e. none-to (search-ends 832 p) (search-ends 832 q) e, λ a. ap₂ fault_from (no-lowest C p c a.0) (no-lowest M q m a.1));
  }
    where
      nine-to : (w : ℕ) → Search 832 p → Search 832 q → fault ≡ Err (WordInConflict w) → Lowest C w
      nine-to w (found u l h f d) s e = let g = named u l d in let same : u ≡ w = cc in subst (Lowest C) same (is-lowest C p c u l h f)
      nine-to w (nowhere f d) (found u l h g k) e = let g = lacked u l d k in absurd (let z : ◌≡◌ {A = ℕ} 0 1 = cc in omega arith)
      nine-to w (nowhere f d) (nowhere g k) e = let g = ap₂ fault_from d k in absurd (let z : ◌≡◌ {A = ℕ} 0 1 = cc in omega arith)

      ten-to : (w : ℕ) → Search 832 p → Search 832 q → fault ≡ Err (WordMissing w) → NoWord C × Lowest M w
      ten-to w (found u l h f d) s e = let g = named u l d in absurd (let z : ◌≡◌ {A = ℕ} 0 1 = cc in omega arith)
      ten-to w (nowhere f d) (found u l h g k) e =
          let r = lacked u l d k in
          let same : u ≡ w = cc in
          (λ i b. none_of C p c 832 f i b b, subst (Lowest M) same (is-lowest M q m u l h g))
      ten-to w (nowhere f d) (nowhere g k) e = let r = ap₂ fault_from d k in absurd (let z : ◌≡◌ {A = ℕ} 0 1 = cc in omega arith)

      none-to : Search 832 p → Search 832 q → fault ≡ accepted → NoWord C × NoWord M
      none-to (found u l h f d) s e = let g = named u l d in absurd (let z : ◌≡◌ {A = ℕ} 0 1 = cc in omega arith)
      none-to (nowhere f d) (found u l h g k) e = let r = lacked u l d k in absurd (let z : ◌≡◌ {A = ℕ} 0 1 = cc in omega arith)
      none-to (nowhere f d) (nowhere g k) e = (λ i b. none_of C p c 832 f i b b, λ i b. none_of M q m 832 g i b b)

-- ---- of a stored state, and over a history
pub fault-at : (g : Gathering) → FaultAt g (fault_of g)
fault-at g =
    faults (λ w. cell_at g w ≡ conflict) (λ w. cell_at g w ≡ missing) (λ w. is_in_conflict (cell_at g w)) (λ w. is_missing (cell_at g w))
    (λ w l. (is-conflict (cell_at g w), ap is_in_conflict))
    (λ w l. (is-missing (cell_at g w), ap is_missing))

pub fault-in : (h : History) (g : Gathering) → StateOf h g → FaultIn h (fault_of g)
fault-in h g s =
    faults (λ w. Rule h w conflict) (λ w. Rule h w missing) (λ w. is_in_conflict (cell_at g w)) (λ w. is_missing (cell_at g w))
    (λ w l. (λ e. subst (Rule h w) (is-conflict (cell_at g w) e) (s.rule w l), λ r. ap is_in_conflict (rule-only h w (cell_at g w) conflict (s.rule w l) r)))
    (λ w l. (λ e. subst (Rule h w) (is-missing (cell_at g w) e) (s.rule w l), λ r. ap is_missing (rule-only h w (cell_at g w) missing (s.rule w l) r)))

-- what `fault` ensures of its answer
pub fault-said : (g : Gathering) (r : Verdict) → r ≡ fault_of g → (r ≡ fault_of g) × (FaultAt g r × ((h : History) → StateOf h g → FaultIn h r))
fault-said g r e = (e, (subst (FaultAt g) (sym e) (fault-at g), λ h s. subst (FaultIn h) (sym e) (fault-in h g s)))

pub word_in : (h : History) (g : Gathering) → StateOf h g → (w : ℕ) → w < 832 → IsOkAnd (word_of g w) (WordIn h w)
word_in h g s w l = rw (lt-ltb w 832 l) (record { cell = cell_at g w; rule = s.rule w l; mark = refl; value = refl })

-- and `word` of its own
pub word-said : (g : Gathering) (w : ℕ) (a : Result Word Refusal) → a ≡ word_of g w → (a ≡ word_of g w) × ((h : History) → StateOf h g → w < 832 → IsOkAnd a (WordIn h w))
word-said g w a e = (e, λ h s l. subst (λ (a : Result Word Refusal). IsOkAnd a (WordIn h w)) (sym e) (word_in h g s w l))
