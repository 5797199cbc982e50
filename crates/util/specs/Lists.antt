-- Lists by a rule: what stands at each place is a function of the place. And how many places have a property, and the lowest that has it.
-- Assumes nothing.
use Rattle.std.specs.Prelude.{ℕ, zero, suc, ◌+◌, Bool, cond, List, [], ◌∷◌, ◌++◌, drop}

-- f 0, f 1, .. , n of them
unfoldable pub tab : {A : Type 0} → (ℕ → A) → ℕ → List A
tab f zero = []
tab f (suc n) = f 0 ∷ tab (λ k. f (suc k)) n

-- a lent list with its first n entries written; the later ones stay
abbrev pub written : {A : Type 0} → ℕ → (ℕ → A) → List A → List A
written n f d = tab f n ++ drop n d

-- how many k below n have p
unfoldable pub count : ℕ → (ℕ → Bool) → ℕ
count zero p = 0
count (suc n) p = count n p + cond (p n) 1 0

-- the lowest k below n that has p, and n where none has
unfoldable pub lowest : ℕ → (ℕ → Bool) → ℕ
lowest zero p = 0
lowest (suc n) p = cond (p 0) 0 (suc (lowest n (λ k. p (suc k))))
