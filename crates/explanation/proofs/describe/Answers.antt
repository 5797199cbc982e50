-- The parts are the pixel's, and everything else hangs on them.
use Rattle.std.proofs.Common.{◌≡◌, None, Some, sym, ap, rules, ◌∙◌}
use mir.Syntax.{w32}
use mir.Val.{to_z, of_z}
use Rattle.util.specs.Words.{listed}
use Rattle.explanation.specs.Explanation.{parts_in, exponent_in, entry_in, failure_in, up_to, cut_parts}
use Rattle.explanation.specs.Inner.From.{failure_from, entry_from}
use Rattle.explanation.specs.declared.Entry.{Entry}
use Rattle.explanation.proofs.From.{failure-from, entry-from, sum_inside}
use Rattle.explanation.proofs.describe.Goals as goal

pub entry_up_to-entry-requires : goal.entry_up_to-entry-requires
entry_up_to-entry-requires c =
    let x = c.parts_of-parts.result in
    let numerator : to_z w32 (of_z w32 x.numerator) ≡ x.numerator = search rules in
    rw numerator (c.parts_of-parts.ensures.numerator_bound, c.exponent_in-exponent.ensures.upper_bound, λ h. sum_inside c.args.table x (sym c.failure_of-failure.ensures ∙ h))

pub returns : goal.returns
returns c =
    let w = listed c.args.words.now in
    let t = c.args.table in
    let p = c.args.p in
    let x = c.parts_of-parts.result in
    let numerator : to_z w32 (of_z w32 x.numerator) ≡ x.numerator = search rules in
    let parts : x ≡ parts_in w t p = c.parts_of-parts.ensures.value in
    let exponent : c.exponent_in-exponent.result ≡ exponent_in w t = c.exponent_in-exponent.ensures.value in
    let failure : c.failure_of-failure.result ≡ failure_in w t p = c.failure_of-failure.ensures ∙ (ap (failure_from t) parts ∙ failure-from w t p) in
    let entry : c.entry_up_to-entry.result ≡ up_to 4 (failure_in w t p) (Some (entry_in w t p)) None =
    rw numerator at c.entry_up_to-entry.ensures
    ∙ ((λ i. up_to 4 (failure i) (Some (entry_from t (parts i).numerator (exponent i))) None) ∙ ap (λ (x : Entry). up_to 4 (failure_in w t p) (Some x) None) (entry-from w t p)) in
    λ i. record {
      found = c.args.found;
      table = t;
      pixel = p;
      failure = failure i;
      parts = (c.cut_parts.ensures ∙ (λ j. cut_parts (failure j) (parts j))) i;
      exponent = (c.exponent_up_to.ensures ∙ (λ j. up_to 4 (failure j) (exponent j) 0)) i;
      entry = entry i;
    }
