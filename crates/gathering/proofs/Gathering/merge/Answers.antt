-- Each turn joins one word more of the two states.
use Rattle.std.proofs.Common.{ℕ, ◌++◌, sym, ap, subst, get_or, arith, rules, ◌∙◌}
use Rattle.gathering.specs.Cells.{Cell, mark_of, value_of, joined}
use Rattle.gathering.specs.State.{cell_at}
use Rattle.gathering.specs.History.{StateOf}
use Rattle.gathering.specs.declared.Gathering.{Gathering}
use Rattle.gathering.proofs.State.{partly_none, partly-read, partly-step, partly-end}
use Rattle.gathering.proofs.History.{merge-is}
use Rattle.gathering.proofs.Gathering.merge.Goals as goal

-- what the two states say together
abbrev both : Gathering → Gathering → ℕ → Cell
both a b w = joined (cell_at a w) (cell_at b w)

pub loop-w-init : goal.loop-w-init
loop-w-init c = partly_none (both c.args.self c.args.other) c.args.self

pub loop-w-preserved : goal.loop-w-preserved
loop-w-preserved c =
    let g = c.args.self in
    let k = c.args.other in
    let f = both g k in
    let w = c.loop-w.w in
    let was = c.loop-w.invariant in
    let turn = ap (λ (a : Cell). joined a (cell_at k w)) (partly-read f g w c.loop-w.g was) in
    let mark = c.joined_mark-both in
    partly-step f g w c.loop-w.g was (search rules) (search rules) c.joined_value.result mark.result
    (c.joined_value.ensures (get_or k.marks w 0) mark.ensures ∙ ap value_of turn)
    (mark.ensures ∙ ap mark_of turn)

pub returns-clause-value : goal.returns-clause-value
returns-clause-value c =
    let g = c.args.self in partly-end (both g c.args.other) g c.loop-w.w c.loop-w.g c.loop-w.invariant (omega arith) (search rules) (search rules)

pub returns-clause-state_of : goal.returns-clause-state_of
returns-clause-state_of c h k s t = subst (StateOf (h ++ k)) (sym (returns-clause-value c)) (merge-is h k c.args.self c.args.other s t)
