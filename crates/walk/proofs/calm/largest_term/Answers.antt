-- Each term is at most the largest nibble's size times its power.
use Rattle.std.proofs.Common.{◌+◌, ◌∙◌}
use Rattle.util.specs.Words.{listed}
use Rattle.walk.proofs.Bound.{product_small, products}
use Rattle.walk.proofs.calm.largest_term.Goals as goal

pub returns : goal.returns
returns c =
    let s = c.args in
    let m = c.reach in
    let n = c.scale_power in
    record {
      each = λ k h. products (listed s.words.now) (s.base + s.bulk.first) s.bulk.low s.base s.bulk.count m.result c.from.result k m.ensures (c.from.ensures ∙ n.ensures.value) h;
      small = product_small m.ensures.small (rw c.from.ensures n.ensures.upper_bound);
    }
