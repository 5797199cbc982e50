-- `turn` stores one number more.
use Rattle.std.proofs.Common.{◌*◌, refl, arith, ◌∙◌}
use Rattle.std.specs.Float.{nan}
use Rattle.util.specs.Bytes.{four, flat}
use Rattle.util.proofs.Stored.{turn}
use Rattle.layout.specs.Numbers.{float_bytes}
use Rattle.layout.proofs.numbers.put_table.Goals as goal

pub loop-i-init : goal.loop-i-init
unfolding flat
loop-i-init c = refl

pub loop-i-preserved : goal.loop-i-preserved
unfolding four
loop-i-preserved c =
    let i = c.loop-i.i in
    let more = turn float_bytes 4 (λ x. refl) c.args.out.now 0 i (4 * i) c.args.a.now nan c.loop-i-test.true (omega arith) in
    c.put_u32.ensures ∙ rw c.loop-i.invariant more
