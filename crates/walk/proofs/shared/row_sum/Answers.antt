-- 32 bits hold the sum of an average and a row's term.
use Rattle.std.proofs.Common.{◌≡◌, ◌∙◌, ℕ, ◌+◌, ℤ, ◌+ℤ◌}
use mir.Syntax.{w32}
use mir.Val.{to_z, of_z}
use Rattle.util.specs.Words.{listed}
use Rattle.util.proofs.Whole.{back16}
use Rattle.util.proofs.Kept.{Is, fits, held, plus}
use Rattle.walk.specs.Parts.{average, row_term, row_sum}
use Rattle.walk.proofs.Sizes.{sized, average-size, nibble-term}
use Rattle.walk.proofs.shared.row_sum.Goals as goal

-- the average a and the row's term t
sum_is : (w : ℕ → ℕ) (base r : ℕ) {a t : ℤ} → a ≡ average w base → t ≡ row_term w base r →
    Is (to_z w32 (of_z w32 a) +ℤ to_z w32 (of_z w32 t)) (average w base +ℤ row_term w base r) (0x8001 + 0x40001)
sum_is w base r e f = plus (sized w32 e (average-size w base) tt) (sized w32 f (nibble-term w (base + 2) r (w base) 8) tt)

pub overflow_add-result : goal.overflow_add-result
overflow_add-result c =
    let a = c.i16_from_bits in
    let is = c.from-average.ensures ∙ (back16 a.result a.type_inv ∙ a.ensures.value) in
    fits w32 (sum_is (listed c.args.words.now) c.args.base c.args.r is c.bulk_term.ensures) tt

pub returns : goal.returns
unfolding row_sum
returns c =
    let a = c.i16_from_bits in
    let is = c.from-average.ensures ∙ (back16 a.result a.type_inv ∙ a.ensures.value) in
    (held w32 (sum_is (listed c.args.words.now) c.args.base c.args.r is c.bulk_term.ensures) tt).is
