-- Three sums of numbers that are small enough for 32 bits.
use Rattle.std.proofs.Common.{ℕ, ◌+◌, ◌^◌, ◌≤◌, refl, ℤ, nat_abs, ◌+ℤ◌}
use lib.Dec.{T, leb}
use mir.Syntax.{w32}
use mir.Val.{to_z, of_z}
use Rattle.util.proofs.Kept.{Is, held, plus}
use Rattle.walk.proofs.Sizes.{sized}
use Rattle.explanation.proofs.fields.sum_up.Goals as goal

-- what the machine has of a term
abbrev kept : ℤ → ℤ
kept z = to_z w32 (of_z w32 z)

small : (z : ℤ) {n : ℕ} → nat_abs z ≤ n → T (leb (n + 1) (2 ^ 31)) → Is (kept z) z (n + 1)
small z h t = sized w32 {z = z} {v = z} refl h t

-- and of the sums of four
module _ (average row column remainder : ℤ) (a : nat_abs average ≤ 0x8000) (b : nat_abs row ≤ 0x40000) (c : nat_abs column ≤ 0x40000) (d : nat_abs remainder ≤ 0x100000) where
  two : Is (kept average +ℤ kept row) (average +ℤ row) (0x8001 + 0x40001)
  two = plus (small average a tt) (small row b tt)

  three : Is (kept (kept average +ℤ kept row) +ℤ kept column) (average +ℤ row +ℤ column) (0x8001 + 0x40001 + 0x40001)
  three = plus (held w32 two tt) (small column c tt)

  four : Is (kept (kept (kept average +ℤ kept row) +ℤ kept column) +ℤ kept remainder) (average +ℤ row +ℤ column +ℤ remainder) (0x8001 + 0x40001 + 0x40001 + 0x100001)
  four = plus (held w32 three tt) (small remainder d tt)

pub returns-clause-value : goal.returns-clause-value
returns-clause-value c =
    let a = c.args in
    let r = c.requires in
    λ i. record {
      average = a.average;
      row = a.row;
      after_row = (held w32 (two a.average.term a.row.term a.column.term a.remainder.term r.0 r.1 r.2 r.3) tt).is i;
      column = a.column;
      after_column = (held w32 (three a.average.term a.row.term a.column.term a.remainder.term r.0 r.1 r.2 r.3) tt).is i;
      remainder = a.remainder;
      numerator = (held w32 (four a.average.term a.row.term a.column.term a.remainder.term r.0 r.1 r.2 r.3) tt).is i;
    }
