-- Where the walk finds nothing, each row-by-row sum is the pixel's, and small enough to be exact.
use Rattle.std.proofs.Common.{◌≡◌, ℕ, ◌+◌, ◌/◌, ◌%◌, ◌<◌, get_or, arith, rules, ap, ◌∙◌, ℤ, pos}
use lib.Ieee.{binary32, div, of_int}
use mir.Syntax.{w32}
use mir.Val.{to_z, of_z}
use Rattle.exact.specs.Dyadic.{dyadic}
use Rattle.exact.proofs.Exact.{of-int-over}
use Rattle.util.specs.Words.{listed}
use Rattle.util.proofs.Whole.{back32}
use Rattle.walk.specs.Inner.Rows.{row_entry}
use Rattle.walk.specs.Parts.{column_term, whole_sum}
use Rattle.walk.proofs.Glance.{rows-small}
use Rattle.walk.proofs.Sizes.{mag-size}
use Rattle.tables.specs.Entries.{alpha_at}
use Rattle.tables.proofs.Inside.{columns-fit, terms-fit, alpha_terms, entry_at}
use Rattle.tables.proofs.Made.{made-whole}
use Rattle.tables.proofs.fill_alpha.Goals as goal

pub narrowed-requires : goal.narrowed-requires
narrowed-requires c =
    let w = listed c.args.words.now in
    columns-fit w 0x20 4 (alpha_terms w c.requires.0) c.column_terms.result c.column_terms.ensures.by_index

pub invariant_of-sums : goal.invariant_of-sums
invariant_of-sums c =
    let w = listed c.args.words.now in
    let power = c.scale_power in
    record {
      rows_small = rows-small w 0x20 c.row_sums.result c.row_sums.ensures.by_index;
      power_small = power.ensures.upper_bound;
      terms_fit = terms-fit w 0x20 4 (alpha_terms w c.requires.0) power.result power.ensures.value;
    }

pub returns : goal.returns
returns c =
    let w = listed c.args.words.now in
    let k = c.from in
    let scale = k.ensures ∙ c.u16_from_bits.ensures in
    let rows = c.row_sums in
    let columns = c.narrowed in
    let power = c.scale_power in
    let divisor = c.up_power-divisor in
    let are : (i : ℕ) → i < 64 → get_or columns.result i (pos 0) ≡ column_term w 0x20 (i % 32) = λ i h. columns.ensures i h ∙ c.column_terms.ensures.by_index i h in
    let is = entry_at w 0x20 4 rows.result columns.result power.result rows.ensures.by_index are power.ensures.value in
    made-whole _ (alpha_at w) c.write_rows.ensures (λ p y h b a.
    let z = row_entry w rows.result columns.result 4 6 power.result (p / 32) (p % 32) in
    let back : to_z w32 (of_z w32 z) ≡ z = back32 z (omega (arith, b, mag-size z)) in
    let answer : y ≡ div binary32 (of_int binary32 (to_z w32 (of_z w32 z))) divisor.result = search rules in
    let exact : y ≡ dyadic z (k.result + 30) = answer ∙ ((λ i. div binary32 (of_int binary32 (back i)) (divisor.ensures i)) ∙ of-int-over z (k.result + 30) b (omega (arith, scale))) in
    exact ∙ ap (λ (x : ℤ). dyadic x (k.result + 30)) (is p h) ∙ ap (λ (n : ℕ). dyadic (whole_sum w 0x20 4 p) (n + 30)) scale)
