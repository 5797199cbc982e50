-- The remainder's term and its sum with the average are made in 32 bits, which hold them.
use Rattle.std.proofs.Common.{◌≡◌, ℕ, ◌+◌, ◌^◌, ◌<◌, ◌≤◌, arith, ℤ, pos, nat_abs, ◌+ℤ◌}
use lib.Dec.{lit<}
use lib.Signed.{mag}
use mir.Syntax.{w16, w32}
use mir.Val.{to_z, of_z}
use Rattle.util.proofs.Whole.{back16}
use Rattle.util.proofs.Kept.{Is, called, fits, held, plus, size_below}
use Rattle.walk.specs.Inner.Single.{own_term}
use Rattle.walk.proofs.Sizes.{sized, term-size, power_size}
use Rattle.walk.proofs.pixel.k_ta_terms.Goals as goal

module _ (own scales : ℕ) {t : ℤ} (et : t ≡ own_term own 1 3 scales) where
  -- the remainder's term
  own_is : Is (to_z w32 (of_z w32 t)) (own_term own 1 3 scales) 0x20001
  own_is = let small : nat_abs (own_term own 1 3 scales) ≤ 0x20000 = omega (arith, term-size own 1 3 scales 0 (lit< tt), power_size scales 0) in sized w32 et small tt

  -- and its sum with the average
  total : {a v : ℤ} → a ≡ v → mag a < 2 ^ 15 → Is (to_z w32 (of_z w32 (to_z w16 (of_z w16 a))) +ℤ to_z w32 (of_z w32 t)) (v +ℤ own_term own 1 3 scales) (0x8000 + 0x20001)
  total ea h = plus (held w32 (called w16 ea h tt) tt) own_is

pub overflow_add-sum : goal.overflow_add-sum
overflow_add-sum c =
    let f = c.i16_from_bits in
    let a = c.k_ta_average_in in
    let term = rw (back16 f.result f.type_inv, f.ensures.value) at c.term-remainder.ensures in
    fits w32 (total c.args.own c.args.scales term a.ensures a.type_inv) tt

pub returns-clause-value : goal.returns-clause-value
returns-clause-value c =
    let f = c.i16_from_bits in
    let a = c.k_ta_average_in in
    let term = rw (back16 f.result f.type_inv, f.ensures.value) at c.term-remainder.ensures in
    λ i. record {
      row = pos 0;
      column = pos 0;
      own = (own_is c.args.own c.args.scales term).is i;
      sum = (held w32 (total c.args.own c.args.scales term a.ensures a.type_inv) tt).is i;
    }

pub returns-clause-sum_bound : goal.returns-clause-sum_bound
returns-clause-sum_bound c =
    let f = c.i16_from_bits in
    let a = c.k_ta_average_in in
    let term = rw (back16 f.result f.type_inv, f.ensures.value) at c.term-remainder.ensures in
    size_below (2 ^ 24) (held w32 (total c.args.own c.args.scales term a.ensures a.type_inv) tt) tt
