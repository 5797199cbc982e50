-- The law over the width gives its value and its size.
use Rattle.std.proofs.Common.{◌≡◌, ◌-◌, ◌^◌, arith}
use mir.Syntax.{w16}
use mir.Val.{to_z, of_z}
use mir.Facts.{to_z-of_z}
use Rattle.util.specs.Words.{field, signed_field}
use Rattle.util.specs.Inner.Widths.{clip}
use Rattle.util.proofs.Width.{field_below, weight-below, signed_below}
use Rattle.util.proofs.i16_from_bits.Goals as goal

pub by_weight-requires : goal.by_weight-requires
by_weight-requires c =
    let w = c.clamp-bits.result in
    rw (c.power_of_two.ensures, c.u16_from_bits.ensures) (weight-below w (omega arith), field_below c.args.x c.args.low w (omega arith))

pub returns-clause-result_bound : goal.returns-clause-result_bound
returns-clause-result_bound c =
    let s = c.args in
    let w = clip s.width in
    let is : to_z w16 (of_z w16 c.by_weight.result) ≡ signed_field s.x s.low w = cc (to_z-of_z {w = w16} {z = c.by_weight.result} (record { sfits = c.by_weight.type_inv })) in
    rw is (signed_below (2 ^ (w - 1)) (field s.x s.low w) (field_below s.x s.low w (omega arith)))
