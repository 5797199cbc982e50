-- An array that a closure fills, one call a place, where every call leaves the closure as it was: what stands at each place, by induction on the calls,
-- and so the whole list.
-- Assumes nothing.
use mathlib.Core.Path.{◌≡◌, refl, ap₂, ◌∙◌, subst}
use mathlib.Core.List.{List, [], ◌∷◌}
use Prim.Native.Nat.{ℕ, zero, suc, ◌+◌, ◌<◌, zero-le, suc-le-suc}
use native.Mathlib.Nat.{zero-add, le_of_suc-le-suc}
use native.Mathlib.Omega.{arith}
use lib.ListN.{length, get_or}
use Rattle.std.specs.Fn.{Mut, Called}
use Rattle.std.specs.Array.{IsFromFnResult, IsFromFnResultFrom}
use Rattle.util.specs.Lists.{tab}

-- a list is the rule's that tells each of its entries
told : {A : Type 0} (f : ℕ → A) (n : ℕ) (s : List A) → length s ≡ n → ((k : ℕ) (d : A) → k < n → get_or s k d ≡ f k) → s ≡ tab f n
unfolding tab
told f zero [] e h = refl
told f zero (x ∷ s) e h = absurd (omega arith)
told f (suc n) [] e h = absurd (omega arith)
told f (suc n) (x ∷ s) e h = ap₂ ◌∷◌ (h 0 x (suc-le-suc zero-le)) (told (λ k. f (suc k)) n s (omega arith) (λ k d l. h (suc k) d (suc-le-suc l)))

module _ {F B : Type 0} (g : Mut F (ℕ × Unit {0}) B) (f : F) (h : ℕ → B) (ys : List B) where
  placed : (d : B) (n i : ℕ) → ((j : ℕ) (y : B) (q : F) → j < i + n → Called g f (j, tt) y q → (q ≡ f) × (y ≡ h j)) → IsFromFnResultFrom g f ys i n → (k : ℕ) → k < n → get_or ys (i + k) d ≡ h (i + k)
  placed d zero i each r k l = absurd (omega arith)
  placed d (suc n) i each (q, y, at, called, rest) zero l =
      let e : i + 0 ≡ i = omega arith in
      rw e (at.1 d ∙ (each i y q (omega arith) called).1)
  placed d (suc n) i each (q, y, at, called, rest) (suc k) l =
      let e : i + 1 + k ≡ i + suc k = omega arith in
      let P : F → Type 0 = λ p. IsFromFnResultFrom g p ys (i + 1) n in
      rw e at (placed d n (i + 1) (λ j y q b. each j y q (omega arith)) (subst P (each i y q (omega arith) called).0 rest) k (omega arith))

  pub from_fn-gives : (d : B) (n : ℕ) → ((j : ℕ) (y : B) (q : F) → j < n → Called g f (j, tt) y q → (q ≡ f) × (y ≡ h j)) → IsFromFnResult g f ys n → (k : ℕ) → k < n → get_or ys k d ≡ h k
  from_fn-gives d n each r k l = let e = zero-add k in rw e at (placed d n 0 (λ j y q b. each j y q (omega arith)) r.each k l)

  pub from_fn-told : (n : ℕ) → ((j : ℕ) (y : B) (q : F) → j < n → Called g f (j, tt) y q → (q ≡ f) × (y ≡ h j)) → IsFromFnResult g f ys n → ys ≡ tab h n
  from_fn-told n each r = told h n ys r.long (λ k d l. from_fn-gives d n each r k l)
