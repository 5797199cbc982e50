-- Each turn takes one word more of the block.
use Rattle.std.proofs.Common.{◌+◌, ap, arith, ◌∙◌}
use lib.ListN.{set}
use Rattle.gathering.specs.declared.Gathering.{Gathering}
use Rattle.gathering.proofs.Carried.{carried_none, carried-more}
use Rattle.gathering.proofs.Gathering.of_block.Goals as goal

pub loop-k-init : goal.loop-k-init
loop-k-init c = c.fresh-g.ensures.value ∙ carried_none c.args.body.now c.args.block.first

pub loop-k-preserved : goal.loop-k-preserved
loop-k-preserved c =
    let w = c.args.block.first + c.loop-k.k in
    ap (λ (g : Gathering). record { values = set g.values w c.word.result; marks = set g.marks w 1 }) c.loop-k.invariant
    ∙ carried-more c.args.body.now c.args.block.first c.loop-k.k c.word.result (omega arith) c.word.ensures
