-- Whatever is explained, its words have room in the buffer, so that they stand there whole.
use Rattle.std.proofs.Common.{◌≡◌, ◌≤◌, length, arith, rules}
use Rattle.listing.proofs.Room.{stands}
use Rattle.explanation.specs.Explanation.{explanation_of}
use Rattle.wording.specs.Wording.{wording}
use Rattle.wording.proofs.Room.{wording-room}
use Rattle.wording.proofs.explain_image.Goals as goal

pub returns : goal.returns
returns c =
    let l = c.args.out.now in
    let answer = c.explain.result in
    let e : answer ≡ explanation_of c.args.image.now c.args.table c.args.p = c.explain.ensures in
    let long : length l ≡ 2048 = search rules in
    let room : length (wording answer) ≤ length l = omega (arith, long, wording-room answer) in
    let s = rw e at (stands (wording answer) l c.put_explanation.new.out c.put_explanation.result room c.put_explanation.ensures) in
    record { prefix_len = s.0; out_after = s.1.0; out_unchanged = s.1.1 }
