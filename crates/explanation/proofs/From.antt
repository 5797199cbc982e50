-- What fails and what is entered, from the parts: 0 stands for what a table doesn't have, and 0 is inside 16 bits.
-- Assumes nothing.
use Prim.Native.Nat.{ℕ}
use mathlib.Core.Path.{◌≡◌, refl, sym, ap}
use mathlib.Core.Bool.{Bool, true, false, cond}
use mathlib.Core.List.{[], ◌∷◌}
use native.Mathlib.Omega.{arith}
use lib.IntN.{ℤ}
use Rattle.std.specs.Prelude.{None, Some}
use Rattle.refusal.specs.declared.Table.{Table}
use Rattle.refusal.specs.declared.Table.TheVariants.{Offset, Alpha, Kta}
use Rattle.util.specs.Sums.{in16}
use Rattle.explanation.specs.Explanation.{shared_parts, kta_parts, parts_in, exponent_in, entry_in, step_names, first_named, failure_in}
use Rattle.explanation.specs.Inner.From.{tested_sum, failure_from, entry_from}
use Rattle.explanation.specs.declared.Parts.{Parts}
use Rattle.explanation.specs.declared.Failure.TheVariants.{Row, Column, Remainder, Sum}
use Rattle.explanation.proofs.Terms.{steps-named, offset-adds-up, alpha-adds-up, kta-adds-up}

pub failure-from : (w : ℕ → ℕ) (t : Table) (p : ℕ) → failure_from t (parts_in w t p) ≡ failure_in w t p
unfolding first_named in16 shared_parts kta_parts
failure-from w Offset p = ap (first_named (step_names Offset)) (sym (steps-named w p Offset))
failure-from w Alpha p = ap (first_named (step_names Alpha)) (sym (steps-named w p Alpha))
failure-from w Kta p = ap (first_named (step_names Kta)) (sym (steps-named w p Kta))

pub entry-from : (w : ℕ → ℕ) (t : Table) (p : ℕ) → entry_from t (parts_in w t p).numerator (exponent_in w t) ≡ entry_in w t p
entry-from w Offset p = sym (offset-adds-up w p)
entry-from w Alpha p = sym (alpha-adds-up w p)
entry-from w Kta p = sym (kta-adds-up w p)

-- where nothing fails the sum is inside
last-inside : (a b c d : ℤ) → first_named (step_names Offset) (a ∷ b ∷ c ∷ d ∷ []) ≡ None → in16 d ≡ true
unfolding first_named
last-inside a b c d e = go (in16 a) (in16 b) (in16 c) (in16 d) refl e
  where
    go : (i j k l : Bool) → in16 d ≡ l → cond i (cond j (cond k (cond l None (Some Sum)) (Some Remainder)) (Some Column)) (Some Row) ≡ None → in16 d ≡ true
    go true true true true h e = h
    go true true true false h e = absurd (let z : ◌≡◌ {A = ℕ} 0 1 = cc in omega arith)
    go true true false l h e = absurd (let z : ◌≡◌ {A = ℕ} 0 1 = cc in omega arith)
    go true false k l h e = absurd (let z : ◌≡◌ {A = ℕ} 0 1 = cc in omega arith)
    go false j k l h e = absurd (let z : ◌≡◌ {A = ℕ} 0 1 = cc in omega arith)

pub sum_inside : (t : Table) (x : Parts) → failure_from t x ≡ None → in16 (tested_sum t x.numerator) ≡ true
sum_inside t x e = last-inside x.row.term x.column.term x.remainder.term (tested_sum t x.numerator) e
