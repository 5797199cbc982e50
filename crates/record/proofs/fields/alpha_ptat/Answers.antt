-- 32 and a nibble are small, so that the cast keeps their sum.
use Rattle.std.proofs.Common.{ℕ, ◌+◌, ℤ, pos, ap, ◌∙◌, arith}
use mir.Syntax.{w16}
use mir.Facts.{to_z_pos}
use Rattle.exact.specs.Fraction.{◌/2^◌, float}
use Rattle.record.specs.Fields.{alpha_ptat_field}
use Rattle.record.proofs.fields.alpha_ptat.Goals as goal

pub returns : goal.returns
unfolding alpha_ptat_field
returns c =
    let nibble = c.unsigned_at-nibble in
    c.quotient.ensures
    ∙ ap (λ (z : ℤ). float (z /2^ 2)) (to_z_pos w16 {n = 32 + nibble.result} (omega arith))
    ∙ ap (λ (n : ℕ). float (pos (32 + n) /2^ 2)) nibble.ensures
