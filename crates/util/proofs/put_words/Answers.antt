-- `turn` stores one word more.
use Rattle.std.proofs.Common.{◌*◌, refl, arith, ◌∙◌}
use Rattle.util.specs.Bytes.{two, flat}
use Rattle.util.proofs.Stored.{turn}
use Rattle.util.proofs.put_words.Goals as goal

pub loop-w-init : goal.loop-w-init
unfolding flat
loop-w-init c = refl

pub loop-w-preserved : goal.loop-w-preserved
unfolding two
loop-w-preserved c =
    let w = c.loop-w.w in
    let more = turn two 2 (λ x. refl) c.args.out.now 0 w (2 * w) c.args.words.now 0 c.loop-w-test.true (omega arith) in
    c.put_u16.ensures ∙ rw c.loop-w.invariant more
