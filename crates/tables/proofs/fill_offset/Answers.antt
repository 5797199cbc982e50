-- Where the walk finds nothing, each row-by-row sum is the pixel's.
use Rattle.std.proofs.Common.{◌≡◌, ℕ, ◌/◌, ◌%◌, ◌<◌, get_or, arith, rules, ◌∙◌, pos, true}
use mir.Syntax.{w32}
use mir.Val.{to_z, of_z}
use Rattle.util.proofs.Whole.{back32}
use Rattle.walk.proofs.Sizes.{mag-size}
use Rattle.util.specs.Words.{listed}
use Rattle.util.specs.Sums.{in16}
use Rattle.walk.specs.Parts.{column_term, whole_sum}
use Rattle.walk.specs.Inner.Rows.{row_entry}
use Rattle.walk.proofs.Glance.{rows-small}
use Rattle.tables.proofs.Inside.{columns-fit, terms-fit, offset_terms, offset-fits, entry_at}
use Rattle.tables.specs.Entries.{offset_at}
use Rattle.tables.proofs.Made.{made-whole}
use Rattle.tables.proofs.fill_offset.Goals as goal

pub narrowed-requires : goal.narrowed-requires
narrowed-requires c =
    let w = listed c.args.words.now in
    columns-fit w 0x10 10 (offset_terms w c.requires.0) c.column_terms.result c.column_terms.ensures.by_index

pub invariant_of-sums : goal.invariant_of-sums
invariant_of-sums c =
    let w = listed c.args.words.now in
    let rows = c.row_sums in
    let power = c.scale_power in
    record {
      rows_small = rows-small w 0x10 rows.result rows.ensures.by_index;
      power_small = power.ensures.upper_bound;
      terms_fit = terms-fit w 0x10 10 (offset_terms w c.requires.0) power.result power.ensures.value;
    }

pub write_rows-requires-clause-callable : goal.write_rows-requires-clause-callable
write_rows-requires-clause-callable c p h b =
    let w = listed c.args.words.now in
    let rows = c.row_sums in
    let columns = c.narrowed in
    let power = c.scale_power in
    let are : (i : ℕ) → i < 64 → get_or columns.result i (pos 0) ≡ column_term w 0x10 (i % 32) = λ i h. columns.ensures i h ∙ c.column_terms.ensures.by_index i h in
    let is = entry_at w 0x10 10 rows.result columns.result power.result rows.ensures.by_index are power.ensures.value p h in
    let fits : in16 (row_entry w rows.result columns.result 10 6 power.result (p / 32) (p % 32)) ≡ true = rw is (offset-fits w c.requires.0 p h) in
    search (rules, fits)

pub returns : goal.returns
returns c =
    let w = listed c.args.words.now in
    let rows = c.row_sums in
    let columns = c.narrowed in
    let power = c.scale_power in
    let are : (i : ℕ) → i < 64 → get_or columns.result i (pos 0) ≡ column_term w 0x10 (i % 32) = λ i h. columns.ensures i h ∙ c.column_terms.ensures.by_index i h in
    let is = entry_at w 0x10 10 rows.result columns.result power.result rows.ensures.by_index are power.ensures.value in
    made-whole _ (offset_at w) c.write_rows.ensures (λ p y h b k.
    let z = row_entry w rows.result columns.result 10 6 power.result (p / 32) (p % 32) in
    let back : to_z w32 (of_z w32 z) ≡ whole_sum w 0x10 10 p = back32 z (omega (arith, b, mag-size z)) ∙ is p h in
    let answer : y ≡ to_z w32 (of_z w32 z) = search rules in answer ∙ back)
