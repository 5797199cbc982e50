-- A call a place, at each number in turn.
use Rattle.std.proofs.Common.{rules, pos, get_or}
use Rattle.util.proofs.Told.{from_fn-gives}
use Rattle.tables.proofs.narrowed.Goals as goal

pub returns : goal.returns
returns c = from_fn-gives _ _ (λ i. get_or c.args.wide.now i (pos 0)) c.from_fn.result (pos 0) 64 (λ j y q l k. search rules) c.from_fn.ensures.items
