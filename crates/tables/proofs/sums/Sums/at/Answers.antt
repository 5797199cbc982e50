-- The row's sum, the column's and the remainder's term are added up in 32 bits, and the whole is exact in f32.
use Rattle.std.proofs.Common.{◌≡◌, ◌+◌, ◌*◌, ◌%◌, ◌^◌, ◌<◌, ◌≤◌, rules, get_or, ℤ, pos, nat_abs, ◌+ℤ◌, refl, ◌∙◌}
use lib.Signed.{mag}
use mir.Syntax.{w32}
use mir.Val.{to_z, of_z}
use Rattle.util.proofs.Whole.{back16}
use Rattle.util.proofs.Kept.{Is, called, fits, held, plus, size_below}
use Rattle.walk.proofs.Sizes.{sized}
use Rattle.tables.proofs.sums.Sums.at.Goals as goal

-- a row's sum, a column's number and a pixel's own term
entry-is : (row column own : ℤ) {k t : ℤ} → nat_abs row ≤ 0x100000 → k ≡ column → mag column < 2 ^ 15 → t ≡ own → mag own < 2 ^ 15 →
    Is (to_z w32 (of_z w32 (to_z w32 (of_z w32 row) +ℤ to_z w32 (of_z w32 k))) +ℤ to_z w32 (of_z w32 t)) (row +ℤ column +ℤ own) (0x100001 + 0x8000 + 0x8000)
entry-is row column own {k} {t} hr e hc f ho =
    let narrow_k : mag k < 0x8000 = rw e hc in
    let narrow_t : mag t < 0x8000 = rw f ho in
    plus (held w32 (plus (sized w32 {v = row} refl hr tt) (called w32 e narrow_k tt)) tt) (called w32 f narrow_t tt)

pub overflow_add-result-2 : goal.overflow_add-result-2
overflow_add-result-2 c =
    let s = c.args.self.now in
    let row = get_or s.rows.now c.args.r (pos 0) in
    let column = get_or s.columns.now (32 * (c.args.r % 2) + c.args.c) (pos 0) in
    let small : mag column < 2 ^ 15 = search rules in
    let own = c.times-own in
    let first = c.from.ensures ∙ back16 column small in
    let last = c.from-2.ensures ∙ back16 own.result own.type_inv in
    fits w32 (entry-is row column own.result (s.rows_small c.args.r c.requires.0) first small last own.type_inv) tt

pub returns-clause-value : goal.returns-clause-value
returns-clause-value c =
    let s = c.args.self.now in
    let row = get_or s.rows.now c.args.r (pos 0) in
    let column = get_or s.columns.now (32 * (c.args.r % 2) + c.args.c) (pos 0) in
    let small : mag column < 2 ^ 15 = search rules in
    let own = c.times-own in
    let f = c.i16_from_bits in
    let is = rw (back16 f.result f.type_inv, f.ensures.value) at own.ensures in
    let first = c.from.ensures ∙ back16 column small in
    let last = c.from-2.ensures ∙ back16 own.result own.type_inv in
    let sum = held w32 (entry-is row column own.result (s.rows_small c.args.r c.requires.0) first small last own.type_inv) tt in
    rw is at sum.is

pub returns-clause-result_bound : goal.returns-clause-result_bound
returns-clause-result_bound c =
    let s = c.args.self.now in
    let row = get_or s.rows.now c.args.r (pos 0) in
    let column = get_or s.columns.now (32 * (c.args.r % 2) + c.args.c) (pos 0) in
    let small : mag column < 2 ^ 15 = search rules in
    let own = c.times-own in
    let first = c.from.ensures ∙ back16 column small in
    let last = c.from-2.ensures ∙ back16 own.result own.type_inv in
    let sum = held w32 (entry-is row column own.result (s.rows_small c.args.r c.requires.0) first small last own.type_inv) tt in
    size_below (2 ^ 24) sum tt
