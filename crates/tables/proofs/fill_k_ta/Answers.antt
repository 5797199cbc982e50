-- Each sum of an average and a remainder term is the walk's, and small enough to be exact.
use Rattle.std.proofs.Common.{◌≡◌, ℕ, ◌+◌, ◌/◌, ◌%◌, ◌<◌, get_or, arith, rules, ap, ◌∙◌, ℤ, pos}
use lib.ListN.{replicate}
use lib.Ieee.{binary32, div, of_int}
use mir.Syntax.{w32}
use mir.Val.{to_z, of_z}
use Rattle.exact.specs.Dyadic.{dyadic}
use Rattle.exact.proofs.Exact.{of-int-over}
use Rattle.util.specs.Words.{listed}
use Rattle.util.proofs.Whole.{back32}
use Rattle.walk.specs.Inner.Rows.{row_entry}
use Rattle.walk.specs.Parts.{kta_average, kta_sum}
use Rattle.walk.proofs.Glance.{zeros-small}
use Rattle.walk.proofs.Sizes.{mag-size}
use Rattle.tables.specs.Entries.{kta_at}
use Rattle.tables.proofs.Inside.{kta-columns-fit, kta-terms-fit, kta-at}
use Rattle.tables.proofs.Made.{made-whole}
use Rattle.tables.proofs.fill_k_ta.Goals as goal

pub narrowed-requires : goal.narrowed-requires
narrowed-requires c =
    let w = listed c.args.words.now in
    kta-columns-fit w c.k_ta_columns.result c.k_ta_columns.ensures.by_index

pub invariant_of-sums : goal.invariant_of-sums
invariant_of-sums c =
    let w = listed c.args.words.now in
    let power = c.scale_power in
    record { rows_small = zeros-small 24 24; power_small = power.ensures.upper_bound; terms_fit = kta-terms-fit w c.requires.0 power.result power.ensures.value }

pub returns : goal.returns
returns c =
    let w = listed c.args.words.now in
    let k = c.from in
    let scale = k.ensures ∙ c.u16_from_bits.ensures in
    let columns = c.narrowed in
    let power = c.scale_power in
    let divisor = c.up_power-divisor in
    let are : (i : ℕ) → i < 64 → get_or columns.result i (pos 0) ≡ kta_average w i = λ i h. columns.ensures i h ∙ c.k_ta_columns.ensures.by_index i h in
    let is = kta-at w columns.result power.result are power.ensures.value in
    made-whole _ (kta_at w) c.write_rows.ensures (λ p y h b a.
    let z = row_entry w (replicate 24 (pos 0)) columns.result 1 3 power.result (p / 32) (p % 32) in
    let back : to_z w32 (of_z w32 z) ≡ z = back32 z (omega (arith, b, mag-size z)) in
    let answer : y ≡ div binary32 (of_int binary32 (to_z w32 (of_z w32 z))) divisor.result = search rules in
    let exact : y ≡ dyadic z (k.result + 8) = answer ∙ ((λ i. div binary32 (of_int binary32 (back i)) (divisor.ensures i)) ∙ of-int-over z (k.result + 8) b (omega (arith, scale))) in
    exact ∙ ap (λ (x : ℤ). dyadic x (k.result + 8)) (is p h) ∙ ap (λ (n : ℕ). dyadic (kta_sum w p) (n + 8)) scale)
