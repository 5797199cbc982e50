-- Each number and each part is kept or blank, as the definition says.
use Rattle.std.proofs.Common.{◌≡◌, rules, ◌∙◌}
use mir.Syntax.{w32}
use mir.Val.{to_z, of_z}
use Rattle.util.proofs.Whole.{back32}
use Rattle.explanation.specs.Explanation.{cut_parts}
use Rattle.explanation.proofs.cut.cut_parts.Goals as goal

pub returns : goal.returns
unfolding cut_parts
returns c =
    let x = c.args.parts in
    let first : to_z w32 (of_z w32 x.after_row) ≡ x.after_row = search rules in
    let second : to_z w32 (of_z w32 x.after_column) ≡ x.after_column = search rules in
    let third : to_z w32 (of_z w32 x.numerator) ≡ x.numerator = search rules in
    let n1 = c.number_up_to in
    let n2 = c.number_up_to-2 in
    let n3 = c.number_up_to-3 in
    λ i. record {
      average = x.average;
      row = x.row;
      after_row = (back32 n1.result n1.type_inv ∙ rw first at n1.ensures) i;
      column = c.part_up_to.ensures i;
      after_column = (back32 n2.result n2.type_inv ∙ rw second at n2.ensures) i;
      remainder = c.part_up_to-2.ensures i;
      numerator = (back32 n3.result n3.type_inv ∙ rw third at n3.ensures) i;
    }
