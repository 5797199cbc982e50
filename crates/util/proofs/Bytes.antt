-- The bytes of words: the words that they spell are the words again.
-- Assumes nothing.
use Prim.Native.Nat.{ℕ, zero, suc, ◌*◌, ◌/◌, ◌%◌, ◌<◌}
use mathlib.Core.Path.{◌≡◌, refl}
use mathlib.Core.List.{List, [], ◌∷◌}
use native.Mathlib.Nat.{div-add-mod'}
use native.Mathlib.Numerals.{add-one}
use native.Mathlib.Omega.{arith}
use lib.ListN.{length, get_or}
use Rattle.util.specs.Bytes.{two, flat, bytes_of}
use Rattle.util.specs.Words.{word_at}

-- a list of bytes
abbrev pub Bytes : List ℕ → Type 0
Bytes s = (i : ℕ) → get_or s i 0 < 256

-- 2 * n, by steps
twice : ℕ → ℕ
twice zero = 0
twice (suc n) = suc (suc (twice n))

twice-is : (n : ℕ) → 2 * n ≡ twice n
unfolding twice
twice-is zero = refl
twice-is (suc n) = let h : 2 * n ≡ twice n = twice-is n in omega arith

high : (vs : List ℕ) (w : ℕ) → get_or (bytes_of vs) (twice w) 0 ≡ get_or vs w 0 / 256
unfolding flat twice two
high [] w = refl
high (v ∷ vs) zero = refl
high (v ∷ vs) (suc w) = high vs w

low : (vs : List ℕ) (w : ℕ) → get_or (bytes_of vs) (suc (twice w)) 0 ≡ get_or vs w 0 % 256
unfolding flat twice two
low [] w = refl
low (v ∷ vs) zero = refl
low (v ∷ vs) (suc w) = low vs w

pub word-of-bytes : (vs : List ℕ) (w : ℕ) → word_at (bytes_of vs) w ≡ get_or vs w 0
word-of-bytes vs w = rw (twice-is w, add-one (twice w), high vs w, low vs w) (div-add-mod' (get_or vs w 0) 256)

pub length-bytes : (vs : List ℕ) → length (bytes_of vs) ≡ 2 * length vs
unfolding flat two
length-bytes [] = refl
length-bytes (v ∷ vs) = let h : length (bytes_of vs) ≡ 2 * length vs = length-bytes vs in omega arith
