-- Each turn makes the next 32 entries.
use Rattle.std.proofs.Common.{◌≡◌, ◌+◌, ◌*◌, ◌-◌, ◌≤◌, length, take, drop, arith, rules}
use Rattle.util.proofs.Pixels.{row-place}
use Rattle.tables.specs.Inner.Sums.{sum_of, pixel_sum}
use Rattle.tables.proofs.Made.{made-none, made-part}
use Rattle.tables.proofs.write_rows.Goals as goal

pub loop-r-init : goal.loop-r-init
loop-r-init g c = made-none (goal.F-post g c.args.entry) (pixel_sum c.args.sums.now) c.args.out.now (omega (arith, c.requires.room))

pub write_row-requires-clause-callable : goal.write_row-requires-clause-callable
write_row-requires-clause-callable g c k h b =
    let r = c.loop-r.r in
    let here = c.requires.callable (32 * r + k) (omega arith) in
    rw (← row-place (sum_of c.args.sums.now) r k h) at here b

pub loop-r-preserved : goal.loop-r-preserved
loop-r-preserved g c =
    let r = c.loop-r.r in
    let s = c.args.sums.now in
    let room : 768 ≤ length c.args.out.now = c.requires.room in
    let row = take (32 * r + 32 - 32 * r) (drop (32 * r) c.loop-r.out) in
    made-part (goal.F-post g c.args.entry) (pixel_sum s) (sum_of s r) (32 * r) 32 (32 * r + 32 - 32 * r) (32 * (r + 1)) c.args.out.now c.loop-r.out row _
    (search rules) (omega arith) (omega arith) (row-place (sum_of s) r) c.loop-r.invariant c.write_row.ensures

pub returns : goal.returns
returns g c = let e : c.loop-r.r ≡ 24 = omega (arith, c.loop-r-test.false) in rw e at c.loop-r.invariant
