-- Numbers that rise: the first of them with a property is the lowest, since each later one is above it.
-- Assumes nothing.
use Prim.Native.Nat.{ℕ, zero, suc, ◌≤◌, ◌<◌, zero-le, suc-le-suc}
use mathlib.Core.Path.{◌≡◌, refl, sym, ap, ◌∙◌}
use mathlib.Core.Bool.{Bool, true, false, and-false, ◌&&◌, ◌||◌}
use mathlib.Core.List.{List, [], ◌∷◌}
use native.Mathlib.Decide.{ℕ_discrete}
use native.Mathlib.Nat.{not-suc-le-zero, le_of_suc-le-suc, le_refl}
use native.Mathlib.Omega.{arith}
use borrow.Author.Tests.{eq-eqb, ne_eqb}
use lib.Dec.{eqb}
use lib.ListN.{length, get_or}
use Rattle.util.specs.Lists.{lowest}
use Rattle.util.proofs.Lists.{lowest-at, lowest-none}
use Rattle.pixel.specs.Needed.{among}
use Rattle.pixel.specs.Inner.Places.{RisingFrom, Rising}

-- ---- which numbers are in a list
here : (l : List ℕ) (k : ℕ) → k < length l → among l (get_or l k 0) ≡ true
unfolding among
here [] k h = absurd (not-suc-le-zero h)
here (m ∷ rest) zero h = rw (eq-eqb m m refl)
here (m ∷ rest) (suc k) h = go (eqb m (get_or rest k 0)) (here rest k (le_of_suc-le-suc h))
  where
    go : (t : Bool) → among rest (get_or rest k 0) ≡ true → (t || among rest (get_or rest k 0)) ≡ true
    go true e = refl
    go false e = e

-- none at or below what all are above
none_below : (l : List ℕ) (n v : ℕ) → RisingFrom n l → v ≤ n → among l v ≡ false
unfolding among RisingFrom
none_below [] n v r h = refl
none_below (m ∷ rest) n v r h = rw (ne_eqb m v (λ e. omega (arith, r.0))) (none_below rest m v r.1 (omega (arith, r.0)))

-- the last is the largest
unfoldable pub last : ℕ → List ℕ → ℕ
last n [] = n
last n (m ∷ rest) = last m rest

end-above : (l : List ℕ) (n : ℕ) → RisingFrom n l → n ≤ last n l
unfolding RisingFrom last
end-above [] n r = le_refl n
end-above (m ∷ rest) n r = omega (arith, r.0, end-above rest m r.1)

pub largest-last : (l : List ℕ) (n : ℕ) → RisingFrom n l → (k : ℕ) → k < length l → get_or l k 0 ≤ last n l
unfolding RisingFrom last
largest-last [] n r k h = absurd (not-suc-le-zero h)
largest-last (m ∷ rest) n r zero h = end-above rest m r.1
largest-last (m ∷ rest) n r (suc k) h = largest-last rest m r.1 k (le_of_suc-le-suc h)

-- ---- the first with q
module _ (q : ℕ → Bool) where
  -- v is the head, which hasn't q, or it is of the rest
  either : (m : ℕ) (rest : List ℕ) (v : ℕ) → q m ≡ false → (among rest v && q v) ≡ false → (among (m ∷ rest) v && q v) ≡ false
  unfolding among
  either m rest v first later = go (ℕ_discrete m v)
    where
      go : Dec (m ≡ v) → ((eqb m v || among rest v) && q v) ≡ false
      go (yes e) = rw (sym (ap q e) ∙ first, and-false)
      go (no d) = rw (ne_eqb m v d) later

  passed : (l : List ℕ) (n k : ℕ) → RisingFrom n l → k < length l → ((j : ℕ) → j < k → q (get_or l j 0) ≡ false) → (v : ℕ) → v < get_or l k 0 → (among l v && q v) ≡ false
  unfolding among RisingFrom
  passed [] n k r h f v l = absurd (not-suc-le-zero h)
  passed (m ∷ rest) n zero r h f v l = rw (ne_eqb m v (λ e. omega arith), none_below rest m v r.1 (omega arith))
  passed (m ∷ rest) n (suc k) r h f v l = either m rest v (f 0 (suc-le-suc zero-le)) (passed rest m k r.1 (le_of_suc-le-suc h) (λ j b. f (suc j) (suc-le-suc b)) v l)

  pub first-lowest : (l : List ℕ) (k : ℕ) → Rising l → k < length l → get_or l k 0 < 832 → q (get_or l k 0) ≡ true → ((j : ℕ) → j < k → q (get_or l j 0) ≡ false)
      → lowest 832 (λ v. among l v && q v) ≡ get_or l k 0
  first-lowest l k r h b e f = lowest-at 832 (get_or l k 0) (λ v. among l v && q v) b (rw (here l k h, e)) (passed l 0 k r h f)

  nowhere : (l : List ℕ) → ((j : ℕ) → j < length l → q (get_or l j 0) ≡ false) → (v : ℕ) → (among l v && q v) ≡ false
  unfolding among
  nowhere [] f v = refl
  nowhere (m ∷ rest) f v = either m rest v (f 0 (suc-le-suc zero-le)) (nowhere rest (λ j b. f (suc j) (suc-le-suc b)) v)

  pub none-lowest : (l : List ℕ) → ((j : ℕ) → j < length l → q (get_or l j 0) ≡ false) → lowest 832 (λ v. among l v && q v) ≡ 832
  none-lowest l f = lowest-none 832 (λ v. among l v && q v) (λ v _. nowhere l f v)
