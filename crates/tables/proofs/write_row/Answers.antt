-- Each turn makes the next entry of its sum.
use Rattle.std.proofs.Common.{◌≡◌, arith, of_calls, ◌∙◌}
use mir.Syntax.{w32}
use mir.Val.{to_z, of_z}
use Rattle.util.proofs.Whole.{back32}
use Rattle.tables.specs.Inner.Sums.{sum_of}
use Rattle.tables.proofs.Made.{made-none, made-more}
use Rattle.tables.proofs.write_row.Goals as goal

pub loop-c-init : goal.loop-c-init
loop-c-init g c = made-none (goal.F-post g c.args.entry) (sum_of c.args.sums.now c.args.r) c.args.out.now (omega (arith, c.requires.room))

pub entry-requires : goal.entry-requires
entry-requires g c =
    let n = c.loop-c.c in
    let sum = c.at-sum.ensures in
    let e : to_z w32 (of_z w32 c.at-sum.result) ≡ sum_of c.args.sums.now c.args.r n = back32 c.at-sum.result c.at-sum.type_inv ∙ sum.value in
    let k = c.requires.callable n (omega (arith, c.requires.room, c.loop-c-test.true)) (rw sum.value at sum.result_bound) in
    search (of_calls, e, k)

pub loop-c-preserved : goal.loop-c-preserved
loop-c-preserved g c =
    let n = c.loop-c.c in
    let sum = c.at-sum.ensures in
    let e : to_z w32 (of_z w32 c.at-sum.result) ≡ sum_of c.args.sums.now c.args.r n = back32 c.at-sum.result c.at-sum.type_inv ∙ sum.value in
    made-more (goal.F-post g c.args.entry) (sum_of c.args.sums.now c.args.r) n c.args.out.now c.loop-c.out c.entry.result
    c.loop-c-test.true (rw sum.value at sum.result_bound) (rw e at c.entry.ensures) c.loop-c.invariant

pub returns : goal.returns
returns g c = let e : c.loop-c.c ≡ 32 = omega (arith, c.requires.room, c.loop-c-test.false) in rw e at c.loop-c.invariant
