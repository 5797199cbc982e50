-- The three terms and the sum of them with the average are made in 32 bits, which hold them.
use Rattle.std.proofs.Common.{◌≡◌, ℕ, ◌+◌, ◌/◌, ◌%◌, ◌^◌, ◌<◌, ◌≤◌, arith, ℤ, nat_abs, ◌+ℤ◌}
use lib.Dec.{lit<}
use lib.Signed.{mag}
use mir.Syntax.{w16, w32}
use mir.Val.{to_z, of_z}
use Rattle.util.specs.Words.{signed_field}
use Rattle.util.proofs.Whole.{back16}
use Rattle.util.proofs.Kept.{Is, called, fits, held, plus, size_below}
use Rattle.walk.specs.Inner.Single.{nibble_term, own_term}
use Rattle.walk.proofs.Sizes.{sized, nibble-term, term-size, power_size}
use Rattle.walk.proofs.pixel.shared_terms.Goals as goal

-- what was read is the average a, the row's term r, the column's k and the remainder's o
record Read (scales average rows columns own low p : ℕ) (a r k o : ℤ) : Type 0 where
  mean : a ≡ signed_field average 0 16
  small : mag a < 2 ^ 15
  row : r ≡ nibble_term rows (p / 32) scales 8
  column : k ≡ nibble_term columns (p % 32) scales 4
  remainder : o ≡ own_term own low 6 scales

module _ {scales average rows columns own low p : ℕ} {a r k o : ℤ} (x : Read scales average rows columns own low p a r k o) where
  average_is : Is (to_z w32 (of_z w32 (to_z w16 (of_z w16 a)))) (signed_field average 0 16) 0x8000
  average_is = held w32 (called w16 x.mean x.small tt) tt

  row_is : Is (to_z w32 (of_z w32 r)) (nibble_term rows (p / 32) scales 8) 0x40001
  row_is = sized w32 x.row (nibble-term (λ _. rows) 0 (p / 32) scales 8) tt

  column_is : Is (to_z w32 (of_z w32 k)) (nibble_term columns (p % 32) scales 4) 0x40001
  column_is = sized w32 x.column (nibble-term (λ _. columns) 0 (p % 32) scales 4) tt

  own_is : Is (to_z w32 (of_z w32 o)) (own_term own low 6 scales) 0x100001
  own_is = let size : nat_abs (own_term own low 6 scales) ≤ 0x100000 = omega (arith, term-size own low 6 scales 0 (lit< tt), power_size scales 0) in sized w32 x.remainder size tt

  two : Is (to_z w32 (of_z w32 (to_z w16 (of_z w16 a))) +ℤ to_z w32 (of_z w32 r)) (signed_field average 0 16 +ℤ nibble_term rows (p / 32) scales 8) (0x8000 + 0x40001)
  two = plus average_is row_is

  three : Is (to_z w32 (of_z w32 (to_z w32 (of_z w32 (to_z w16 (of_z w16 a))) +ℤ to_z w32 (of_z w32 r))) +ℤ to_z w32 (of_z w32 k))
      (signed_field average 0 16 +ℤ nibble_term rows (p / 32) scales 8 +ℤ nibble_term columns (p % 32) scales 4) (0x8000 + 0x40001 + 0x40001)
  three = plus (held w32 two tt) column_is

  four : Is (to_z w32 (of_z w32 (to_z w32 (of_z w32 (to_z w32 (of_z w32 (to_z w16 (of_z w16 a))) +ℤ to_z w32 (of_z w32 r))) +ℤ to_z w32 (of_z w32 k))) +ℤ to_z w32 (of_z w32 o))
      (signed_field average 0 16 +ℤ nibble_term rows (p / 32) scales 8 +ℤ nibble_term columns (p % 32) scales 4 +ℤ own_term own low 6 scales) (0x8000 + 0x40001 + 0x40001 + 0x100001)
  four = plus (held w32 three tt) own_is

pub overflow_add-sum : goal.overflow_add-sum
overflow_add-sum c =
    let n = c.nibble_in in
    let m = c.nibble_in-2 in
    let f = c.i16_from_bits in
    let a = c.i16_from_bits-2 in
    let x : Read c.args.scales c.args.average c.args.rows c.args.columns c.args.own c.args.low c.args.p a.result c.term-row.result c.term-column.result c.term-remainder.result =
    record {
      mean = a.ensures.value;
      small = a.type_inv;
      row = rw (back16 n.result n.type_inv, n.ensures) at c.term-row.ensures;
      column = rw (back16 m.result m.type_inv, m.ensures) at c.term-column.ensures;
      remainder = rw (back16 f.result f.type_inv, f.ensures.value) at c.term-remainder.ensures;
    } in
    fits w32 (two x) tt

pub overflow_add-sum-2 : goal.overflow_add-sum-2
overflow_add-sum-2 c =
    let n = c.nibble_in in
    let m = c.nibble_in-2 in
    let f = c.i16_from_bits in
    let a = c.i16_from_bits-2 in
    let x : Read c.args.scales c.args.average c.args.rows c.args.columns c.args.own c.args.low c.args.p a.result c.term-row.result c.term-column.result c.term-remainder.result =
    record {
      mean = a.ensures.value;
      small = a.type_inv;
      row = rw (back16 n.result n.type_inv, n.ensures) at c.term-row.ensures;
      column = rw (back16 m.result m.type_inv, m.ensures) at c.term-column.ensures;
      remainder = rw (back16 f.result f.type_inv, f.ensures.value) at c.term-remainder.ensures;
    } in
    fits w32 (three x) tt

pub overflow_add-sum-3 : goal.overflow_add-sum-3
overflow_add-sum-3 c =
    let n = c.nibble_in in
    let m = c.nibble_in-2 in
    let f = c.i16_from_bits in
    let a = c.i16_from_bits-2 in
    let x : Read c.args.scales c.args.average c.args.rows c.args.columns c.args.own c.args.low c.args.p a.result c.term-row.result c.term-column.result c.term-remainder.result =
    record {
      mean = a.ensures.value;
      small = a.type_inv;
      row = rw (back16 n.result n.type_inv, n.ensures) at c.term-row.ensures;
      column = rw (back16 m.result m.type_inv, m.ensures) at c.term-column.ensures;
      remainder = rw (back16 f.result f.type_inv, f.ensures.value) at c.term-remainder.ensures;
    } in
    fits w32 (four x) tt

pub returns-clause-value : goal.returns-clause-value
returns-clause-value c =
    let n = c.nibble_in in
    let m = c.nibble_in-2 in
    let f = c.i16_from_bits in
    let a = c.i16_from_bits-2 in
    let x : Read c.args.scales c.args.average c.args.rows c.args.columns c.args.own c.args.low c.args.p a.result c.term-row.result c.term-column.result c.term-remainder.result =
    record {
      mean = a.ensures.value;
      small = a.type_inv;
      row = rw (back16 n.result n.type_inv, n.ensures) at c.term-row.ensures;
      column = rw (back16 m.result m.type_inv, m.ensures) at c.term-column.ensures;
      remainder = rw (back16 f.result f.type_inv, f.ensures.value) at c.term-remainder.ensures;
    } in
    λ i. record { row = (row_is x).is i; column = (column_is x).is i; own = (own_is x).is i; sum = (held w32 (four x) tt).is i }

pub returns-clause-sum_bound : goal.returns-clause-sum_bound
returns-clause-sum_bound c =
    let n = c.nibble_in in
    let m = c.nibble_in-2 in
    let f = c.i16_from_bits in
    let a = c.i16_from_bits-2 in
    let x : Read c.args.scales c.args.average c.args.rows c.args.columns c.args.own c.args.low c.args.p a.result c.term-row.result c.term-column.result c.term-remainder.result =
    record {
      mean = a.ensures.value;
      small = a.type_inv;
      row = rw (back16 n.result n.type_inv, n.ensures) at c.term-row.ensures;
      column = rw (back16 m.result m.type_inv, m.ensures) at c.term-column.ensures;
      remainder = rw (back16 f.result f.type_inv, f.ensures.value) at c.term-remainder.ensures;
    } in
    size_below (2 ^ 24) (held w32 (four x) tt) tt
