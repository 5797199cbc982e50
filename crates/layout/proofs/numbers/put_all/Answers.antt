-- `turn` stores one number more.
use Rattle.std.proofs.Common.{◌≡◌, ℕ, ◌+◌, ◌*◌, take, get_or, refl, ap, ◌∙◌}
use Rattle.std.proofs.Math.Nat.{mul_comm}
use Rattle.std.proofs.lemmas.List.Edits.{sets}
use Rattle.util.specs.Bytes.{flat}
use Rattle.util.proofs.Stored.{turn}
use Rattle.layout.proofs.numbers.put_all.Goals as goal

pub loop-i-init : goal.loop-i-init
unfolding flat
loop-i-init g c = refl

pub loop-i-preserved : goal.loop-i-preserved
loop-i-preserved g c =
    let bytes = g.T.Number.bytes in
    let at = c.args.at in
    let i = c.loop-i.i in
    let place : at + c.SIZE.result * i ≡ at + i * g.T.Number.SIZE = rw c.SIZE.ensures (ap (λ (n : ℕ). at + n) (mul_comm g.T.Number.SIZE i)) in
    let same : c.put.new.out ≡ sets (sets c.args.out.now at (flat bytes (take i c.args.a.now))) (at + c.SIZE.result * i) (bytes (get_or c.args.a.now i c.index-a-i.result)) =
    c.put.ensures ∙ (λ t. sets (c.loop-i.invariant t) (at + c.SIZE.result * i) (bytes (c.index-a-i.is t))) in
    same ∙ turn bytes g.T.Number.SIZE g.met.T.Number.long c.args.out.now at i (at + c.SIZE.result * i) c.args.a.now c.index-a-i.result c.loop-i-test.true place
