-- As long as nothing was found, all that was passed is inside.
use Rattle.std.proofs.Common.{◌≡◌, ◌+◌, ◌*◌, ◌%◌, ◌<◌, ◌≤◌, Bool, true, false, not, ◌||◌, get_or, below_more, arith, refl, sym, ap, ◌∙◌, ℤ, pos, nat_abs, ◌+ℤ◌}
use mir.Syntax.{w32}
use mir.Val.{to_z, of_z}
use Rattle.util.specs.Sums.{in16}
use Rattle.util.proofs.Whole.{not-outside, back16}
use Rattle.util.proofs.Kept.{Is, fits, held, plus, named}
use Rattle.util.proofs.Tests.{neither}
use Rattle.walk.proofs.Sizes.{sized}
use Rattle.walk.proofs.glances.Glance.leaves.Goals as goal

own_is : {t own : ℤ} → t ≡ own → nat_abs t ≤ 0x40000000 → Is (to_z w32 (of_z w32 t)) own 0x40000001
own_is e h = named (sized w32 refl h tt) e

-- a row's part, a column's and a pixel's own term together
entry-is : (row column : ℤ) {t own : ℤ} → nat_abs row ≤ 0x100000 → nat_abs column ≤ 0x100000 → t ≡ own → nat_abs t ≤ 0x40000000 →
    Is (to_z w32 (of_z w32 (to_z w32 (of_z w32 row) +ℤ to_z w32 (of_z w32 column))) +ℤ to_z w32 (of_z w32 t)) (row +ℤ column +ℤ own) (0x100001 + 0x100001 + 0x40000001)
entry-is row column hr hc e h = plus (held w32 (plus (sized w32 {v = row} refl hr tt) (sized w32 {v = column} refl hc tt)) tt) (own_is e h)

tested : {x z : ℤ} {b : Bool} → b ≡ not (in16 x) → x ≡ z → b ≡ false → in16 z ≡ true
tested {x} {z} {b} e f g = not-outside z false (ap (λ (y : ℤ). not (in16 y)) (sym f) ∙ (sym e ∙ g))

pub overflow_add-entry-in-loop-c-2 : goal.overflow_add-entry-in-loop-c-2
overflow_add-entry-in-loop-c-2 c =
    let s = c.args.self.now in
    let r = c.args.r in
    let place : 32 * (r % 2) + c.loop-c.c < 64 = omega arith in
    let row = get_or s.rows.now r (pos 0) in
    let column = get_or s.columns.now (32 * (r % 2) + c.loop-c.c) (pos 0) in
    let f = c.i16_from_bits in
    let own = rw (back16 f.result f.type_inv, f.ensures.value) at c.scaled-own.ensures.value in
    fits w32 (entry-is row column (s.rows_small r c.requires) (s.columns_small (32 * (r % 2) + c.loop-c.c) place) own c.scaled-own.ensures.result_bound) tt

pub loop-c-preserved : goal.loop-c-preserved
loop-c-preserved c =
    let s = c.args.self.now in
    let r = c.args.r in
    let l = c.loop-c in
    let place : 32 * (r % 2) + l.c < 64 = omega arith in
    let row = get_or s.rows.now r (pos 0) in
    let column = get_or s.columns.now (32 * (r % 2) + l.c) (pos 0) in
    let f = c.i16_from_bits in
    let t = c.scaled-own in
    let own = rw (back16 f.result f.type_inv, f.ensures.value) at t.ensures.value in
    λ e.
    let a = neither l.found (c.outside.result || c.outside-in-loop-c.result) e in
    let b = neither c.outside.result c.outside-in-loop-c.result a.1 in
    below_more _ l.c (l.invariant a.0) (
      tested c.outside.ensures (own_is own t.ensures.result_bound).is b.0,
      tested c.outside-in-loop-c.ensures (held w32 (entry-is row column (s.rows_small r c.requires) (s.columns_small (32 * (r % 2) + l.c) place) own t.ensures.result_bound) tt).is b.1,
    )
