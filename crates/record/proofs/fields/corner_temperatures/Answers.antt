-- Four bits times a step of at most 30 is at most 450.
use Rattle.std.proofs.Common.{◌+◌, ◌*◌, ◌≤◌, arith}
use native.Mathlib.Nat.{mul-le-mul}
use mir.Syntax.{w16}
use mir.Facts.{to_z_pos}
use Rattle.record.specs.Fields.{corners}
use Rattle.record.proofs.fields.corner_temperatures.Goals as goal

pub returns : goal.returns
unfolding corners
returns c =
    let step = 10 * c.unsigned_at-step.result in
    let second = c.unsigned_at.result * step in
    let own = c.unsigned_at-2.result * step in
    let h : second ≤ 450 = mul-le-mul {n₂ = 15} {m₂ = 30} (omega arith) (omega arith) in
    let k : own ≤ 450 = mul-le-mul {n₂ = 15} {m₂ = 30} (omega arith) (omega arith) in
    rw (to_z_pos w16 {n = second} (omega arith), to_z_pos w16 {n = own + second} (omega arith), c.unsigned_at-step.ensures, c.unsigned_at.ensures, c.unsigned_at-2.ensures)
