-- The fault is that of the lowest words of each mark.
use Rattle.std.proofs.Common.{◌≡◌, length, rules, ◌∙◌}
use Rattle.gathering.specs.State.{fault_from}
use Rattle.gathering.proofs.Faults.{fault-said}
use Rattle.gathering.proofs.State.{missing-lowest, conflict-lowest}
use Rattle.gathering.proofs.Gathering.fault.Goals as goal

pub returns-clause-value : goal.returns-clause-value
returns-clause-value c =
    let g = c.args.self.now in
    let n : length g.marks ≡ 832 = search rules in
    c.fault_from.ensures ∙ (λ i. fault_from ((c.lowest_marked.ensures ∙ conflict-lowest g n) i) ((c.lowest_marked-2.ensures ∙ missing-lowest g n) i))

pub returns-clause-fault_at : goal.returns-clause-fault_at
returns-clause-fault_at c = (fault-said c.args.self.now _ (returns-clause-value c)).1.0

pub returns-clause-fault_in : goal.returns-clause-fault_in
returns-clause-fault_in c = (fault-said c.args.self.now _ (returns-clause-value c)).1.1
