-- The marks alone tell which words are missing and which in conflict.
use Rattle.std.proofs.Common.{◌≡◌, sym, subst, length, rules, ◌∙◌}
use Rattle.gathering.specs.History.{CountedIn}
use Rattle.gathering.proofs.Counts.{counted}
use Rattle.gathering.proofs.State.{missing-count, conflict-count}
use Rattle.gathering.proofs.Gathering.status.Goals as goal

pub returns-clause-value : goal.returns-clause-value
returns-clause-value c =
    let g = c.args.self in
    let n : length g.marks ≡ 832 = search rules in
    λ i. record {
      missing = (c.count_marked.ensures ∙ missing-count g n) i;
      in_conflict = (c.count_marked-2.ensures ∙ conflict-count g n) i;
      gathering = g;
    }

pub returns-clause-counted_in : goal.returns-clause-counted_in
returns-clause-counted_in c h s = subst (CountedIn h) (sym (returns-clause-value c)) (counted h c.args.self s)
