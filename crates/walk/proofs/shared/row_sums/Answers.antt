-- A call a place, at each row in turn.
use Rattle.std.proofs.Common.{rules, pos}
use Rattle.util.specs.Words.{listed}
use Rattle.walk.specs.Parts.{row_sum}
use Rattle.util.proofs.Told.{from_fn-gives}
use Rattle.walk.proofs.shared.row_sums.Goals as goal

pub returns-clause-by_index : goal.returns-clause-by_index
returns-clause-by_index c =
    from_fn-gives _ _ (row_sum (listed c.args.words.now) c.args.base) c.from_fn.result (pos 0) 24 (λ j y q l k. search rules) c.from_fn.ensures.items
