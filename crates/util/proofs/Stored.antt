-- Pieces of bytes stored one after the other: what a row of stores leaves is one store of all the pieces.
-- Assumes nothing.
use mathlib.Core.Path.{◌≡◌, refl, sym, ap, ◌∙◌}
use mathlib.Core.List.{List, [], ◌∷◌, ◌++◌, append_assoc, append-nil}
use Prim.Native.Nat.{ℕ, suc, ◌+◌, ◌-◌, ◌*◌, ◌/◌, ◌%◌, ◌^◌, ◌≤◌, ◌<◌}
use native.Mathlib.Nat.{add-zero, zero-add, suc-mul, zero-mul}
use native.Mathlib.Numerals.{add-one}
use native.Mathlib.Omega.{arith}
use lib.ListN.{length, set, take, drop, get_or, length-append, length-take}
use lib.Seq.{sets, sets-eq, take-suc, drop-length, drop-drop}
use mir.Syntax.{w16, w32}
use borrow.Rule.Slice.PartMut.{put_mid}
use Rattle.std.specs.Int.{to_be_bytes}
use Rattle.util.specs.Bytes.{two, four, flat}

-- a piece after a piece is one piece
pub sets-append : (p q l : List ℕ) (i : ℕ) → sets l i (p ++ q) ≡ sets (sets l i p) (i + length p) q
sets-append [] q l i = ap (λ (n : ℕ). sets l n q) (sym (add-zero i))
sets-append (a ∷ p) q l i =
    let e : suc i + length p ≡ i + suc (length p) = omega arith in
    sets-append p q (set l i a) (suc i) ∙ ap (λ (n : ℕ). sets (sets (set l i a) (suc i) p) n q) e

module _ {A : Type 0} (f : A → List ℕ) where
  pub flat_append : (s t : List A) → flat f (s ++ t) ≡ flat f s ++ flat f t
  unfolding flat
  flat_append [] t = refl
  flat_append (x ∷ s) t = ap (λ (r : List ℕ). f x ++ r) (flat_append s t) ∙ sym (append_assoc (f x) (flat f s) (flat f t))

  pub flat-one : (x : A) → flat f (x ∷ []) ≡ f x
  unfolding flat
  flat-one x = append-nil (f x)

  module _ (k : ℕ) (each : (x : A) → length (f x) ≡ k) where
    pub flat-length : (s : List A) → length (flat f s) ≡ length s * k
    unfolding flat
    flat-length [] = sym (zero-mul k)
    flat-length (x ∷ s) = simp (length-append, each, flat-length s, suc-mul) (omega arith)

    -- one turn of a loop that stores the pieces of a list
    pub turn : (l : List ℕ) (at i n : ℕ) (a : List A) (d : A) → i < length a → n ≡ at + i * k
        → sets (sets l at (flat f (take i a))) n (f (get_or a i d)) ≡ sets l at (flat f (take (i + 1) a))
    turn l at i n a d h e =
        let more : take (i + 1) a ≡ take i a ++ (get_or a i d ∷ []) = rw add-one (take-suc a i d h) in
        let long : length (take i a) ≡ i = simp length-take (omega arith) in
        let place : n ≡ at + length (flat f (take i a)) = rw (flat-length, long) e in
        rw (more, flat_append, flat-one, sets-append, place)

-- a piece as long as what it is stored over is all that is left
pub sets-whole : (l p : List ℕ) → length l ≡ length p → sets l 0 p ≡ p
sets-whole l p e =
    let room : 0 + length p ≤ length l = omega arith in
    let gone : drop (0 + length p) l ≡ [] = ap (λ (n : ℕ). drop n l) (zero-add (length p) ∙ sym e) ∙ drop-length l in
    sets-eq p l 0 room ∙ (ap (λ (t : List ℕ). p ++ t) gone ∙ append-nil p)

-- a piece copied over the part of l from place at to place e
pub copied : (l p q : List ℕ) (at e : ℕ) → q ≡ p → e ≡ at + length p → e ≤ length l → put_mid at (e - at) l q ≡ sets l at p
copied l p q at e same end room =
    let long : e - at ≡ length p = omega arith in
    let fits : at + length p ≤ length l = omega arith in
    let past : drop (length p) (drop at l) ≡ drop (at + length p) l = drop-drop (length p) at l in
    rw (same, long, past) (sym (append_assoc (take at l) p (drop (at + length p) l)) ∙ sym (sets-eq p l at fits))

-- the machine's bytes of a number are the definition's
pub two-are : (v : ℕ) → v < 2 ^ 16 → to_be_bytes w16 v ≡ two v
unfolding two
two-are v h = let e : v / 256 % 256 ≡ v / 256 = omega arith in rw e

pub four-are : (v : ℕ) → v < 2 ^ 32 → to_be_bytes w32 v ≡ four v
unfolding four
four-are v h = let e : v / 0x100_0000 % 256 ≡ v / 0x100_0000 = omega arith in rw e
