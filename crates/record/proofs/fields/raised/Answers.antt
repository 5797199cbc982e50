-- The sum and the product are small, so that 32 bits keep them.
use Rattle.std.proofs.Common.{pos, ◌+ℤ◌, refl, ◌∙◌}
use lib.IntN.{*ℤ_comm}
use mir.Syntax.{w16, w32}
use Rattle.util.proofs.Kept.{limited, counted, number, held, plus, by, size_below}
use Rattle.record.proofs.fields.raised.Goals as goal

pub returns-clause-value : goal.returns-clause-value
returns-clause-value c =
    let wide = held w32 (limited w16 c.args.r c.requires.1 tt) tt in
    let r = held w32 (by (held w32 (plus (number 128) wide) tt) (counted w32 {n = 1024} refl c.requires.0 tt)) tt in
    r.is ∙ *ℤ_comm (pos 128 +ℤ c.args.r) (pos c.args.n)

pub returns-clause-result_bound : goal.returns-clause-result_bound
returns-clause-result_bound c =
    let wide = held w32 (limited w16 c.args.r c.requires.1 tt) tt in
    size_below 0x100_0000 (held w32 (by (held w32 (plus (number 128) wide) tt) (counted w32 {n = 1024} refl c.requires.0 tt)) tt) tt
