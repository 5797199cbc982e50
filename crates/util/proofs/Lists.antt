-- Laws of lists written by a rule, of counts and of the lowest place: each by induction on the number of places.
-- Assumes nothing.
use Prim.Native.Nat.{ℕ, zero, suc, ◌+◌, ◌-◌, ◌≤◌, ◌<◌, zero-le, suc-le-suc}
use mathlib.Core.Path.{◌≡◌, refl, ap, ap₂, ◌∙◌}
use mathlib.Core.Bool.{Bool, true, false, cond}
use mathlib.Core.List.{List, ◌∷◌}
use native.Mathlib.Nat.{not-suc-le-zero, le_of_suc-le-suc, le_refl, le_of_eq}
use native.Mathlib.Decide.{dec_lt}
use native.Mathlib.Numerals.{add-one}
use native.Mathlib.Omega.{arith}
use lib.ListN.{length, set, replicate, take, drop, length-drop}
use lib.Seq.{take_all}
use Rattle.util.proofs.Filled.{tab-same}
use Rattle.util.specs.Lists.{tab, count, lowest}

-- ---- f 0, .., f (n - 1)

pub tab-replicate : (n a : ℕ) → tab (λ _. a) n ≡ replicate n a
unfolding tab
tab-replicate zero a = refl
tab-replicate (suc n) a = ap (λ (t : List ℕ). a ∷ t) (tab-replicate n a)

-- one element changed
pub tab-set : (n i v : ℕ) (f g : ℕ → ℕ) → i < n → v ≡ g i → ((k : ℕ) → (k ≡ i → ⊥) → f k ≡ g k) → set (tab f n) i v ≡ tab g n
unfolding tab
tab-set zero i v f g h e o = absurd (not-suc-le-zero h)
tab-set (suc n) zero v f g h e o = ap₂ ◌∷◌ e (tab-same (λ k. f (suc k)) (λ k. g (suc k)) n (λ k l. o (suc k) (λ q. omega arith)))
tab-set (suc n) (suc i) v f g h e o = ap₂ ◌∷◌ (o 0 (λ q. omega arith)) (tab-set n i v (λ k. f (suc k)) (λ k. g (suc k)) (le_of_suc-le-suc h) e (λ k l. o (suc k) (λ q. l (omega arith))))

-- ---- how many places have p

pub count_none : (p : ℕ → Bool) → count 0 p ≡ 0
unfolding count
count_none p = refl

pub count_yes : (n : ℕ) (p : ℕ → Bool) → p n ≡ true → count (n + 1) p ≡ count n p + 1
unfolding count
count_yes n p e = rw (add-one n) (ap (λ (t : Bool). count n p + cond t 1 0) e)

pub count_no : (n : ℕ) (p : ℕ → Bool) → p n ≡ false → count (n + 1) p ≡ count n p
unfolding count
count_no n p e = rw (add-one n) (ap (λ (t : Bool). count n p + cond t 1 0) e ∙ omega arith)

bit_le : (t : Bool) → cond t 1 0 ≤ 1
bit_le true = le_refl 1
bit_le false = zero-le

pub count-le : (n : ℕ) (p : ℕ → Bool) → count n p ≤ n
unfolding count
count-le zero p = zero-le
count-le (suc n) p = omega (arith, count-le n p, bit_le (p n))

pub count-ext : (n : ℕ) (p q : ℕ → Bool) → ((k : ℕ) → k < n → p k ≡ q k) → count n p ≡ count n q
unfolding count
count-ext zero p q e = refl
count-ext (suc n) p q e = ap₂ ◌+◌ (count-ext n p q (λ k h. e k (omega arith))) (ap (λ (t : Bool). cond t 1 0) (e n (omega arith)))

no-bit : (t : Bool) (m : ℕ) → m + cond t 1 0 ≡ 0 → t ≡ false
no-bit true m e = absurd (omega arith)
no-bit false m e = refl

pub count-zero : (n : ℕ) (p : ℕ → Bool) → count n p ≡ 0 → (k : ℕ) → k < n → p k ≡ false
unfolding count
count-zero zero p e k l = absurd (not-suc-le-zero l)
count-zero (suc n) p e k l = go (count-zero n p (omega arith) k) (dec_lt k n)
  where
    go : (k < n → p k ≡ false) → Dec (k < n) → p k ≡ false
    go below (yes m) = below m
    go below (no m) = let last : k ≡ n = omega arith in ap p last ∙ no-bit (p n) (count n p) e

-- ---- the lowest place that has p

pub lowest-at : (n i : ℕ) (p : ℕ → Bool) → i < n → p i ≡ true → ((k : ℕ) → k < i → p k ≡ false) → lowest n p ≡ i
unfolding lowest
lowest-at zero i p h e l = absurd (not-suc-le-zero h)
lowest-at (suc n) zero p h e l = ap (λ (t : Bool). cond t 0 (suc (lowest n (λ k. p (suc k))))) e
lowest-at (suc n) (suc i) p h e l =
    ap (λ (t : Bool). cond t 0 (suc (lowest n (λ k. p (suc k))))) (l 0 (suc-le-suc zero-le))
    ∙ ap suc (lowest-at n i (λ k. p (suc k)) (le_of_suc-le-suc h) e (λ k q. l (suc k) (suc-le-suc q)))

pub lowest-none : (n : ℕ) (p : ℕ → Bool) → ((k : ℕ) → k < n → p k ≡ false) → lowest n p ≡ n
unfolding lowest
lowest-none zero p l = refl
lowest-none (suc n) p l =
    ap (λ (t : Bool). cond t 0 (suc (lowest n (λ k. p (suc k))))) (l 0 (suc-le-suc zero-le))
    ∙ ap suc (lowest-none n (λ k. p (suc k)) (λ k q. l (suc k) (suc-le-suc q)))

pub lowest-ext : (n : ℕ) (p q : ℕ → Bool) → ((k : ℕ) → k < n → p k ≡ q k) → lowest n p ≡ lowest n q
unfolding lowest
lowest-ext zero p q e = refl
lowest-ext (suc n) p q e =
    ap₂ (λ (t : Bool) (k : ℕ). cond t 0 (suc k)) (e 0 (suc-le-suc zero-le)) (lowest-ext n (λ k. p (suc k)) (λ k. q (suc k)) (λ k h. e (suc k) (suc-le-suc h)))

-- ---- a slice's part from n on, as it is lent

pub rest : (n : ℕ) (l : List ℕ) → take (length l - n) (drop n l) ≡ drop n l
rest n l = take_all (length l - n) (drop n l) (le_of_eq (length-drop n l))
