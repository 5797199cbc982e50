-- What the block is read as picks the case, and an accepted block is merged as its own state.
use Rattle.std.proofs.Common.{◌≡◌, ℕ, List, Result, sym, ap, subst, ◌∷◌, ◌∙◌}
use Rattle.refusal.specs.Code.{accepted, verdict_of}
use Rattle.refusal.specs.declared.Refusal.{Refusal}
use Rattle.blocks.specs.Blocks.{body_of}
use Rattle.blocks.specs.declared.Block.{Block}
use Rattle.gathering.specs.Carried.{carried_at}
use Rattle.gathering.specs.State.{state_from, merged, with_block, state_after}
use Rattle.gathering.specs.History.{StateOf}
use Rattle.gathering.specs.declared.Gathering.{Gathering}
use Rattle.gathering.specs.declared.Accepted.{Accepted}
use Rattle.util.proofs.Lists.{rest}
use Rattle.gathering.proofs.State.{accept-merged}
use Rattle.gathering.proofs.History.{accept_is}
use Rattle.gathering.proofs.Gathering.accept.Goals as goal

-- the answer, by what the block is read as, and its history
answer : Result Block Refusal → Gathering → List ℕ → Accepted
answer r g b = record { verdict = verdict_of r; gathering = state_after r g b }

answered : (h : List (List ℕ)) (g : Gathering) (b : List ℕ) (a : Accepted) → a ≡ with_block g b → StateOf h g → StateOf (b ∷ h) a.gathering
answered h g b a e s = subst (λ (a : Accepted). StateOf (b ∷ h) a.gathering) (sym e) (accept_is h g b s)

pub returns-in-Ok-clause-value : goal.returns-in-Ok-clause-value
unfolding answer
returns-in-Ok-clause-value c =
    let g = c.args.self in
    let b = c.args.block.now in
    let first = c.in-Ok.words.first in
    let count = c.in-Ok.words.count in
    let own : c.of_block.result ≡ state_from (carried_at (body_of b) first count) =
    c.of_block.ensures ∙ ap (λ (l : List ℕ). state_from (carried_at l first count)) (rest 3 b) in
    ap (λ (j : Gathering). let a : Accepted = record { verdict = accepted; gathering = j } in a) (c.merge.ensures.value ∙ (ap (merged g) own ∙ accept-merged g b first count))
    ∙ ap (λ (r : Result Block Refusal). answer r g b) c.in-Ok.ensures.value

pub returns-in-Ok-clause-state_of : goal.returns-in-Ok-clause-state_of
returns-in-Ok-clause-state_of c h s = answered h c.args.self c.args.block.now _ (returns-in-Ok-clause-value c) s

pub returns-in-Err-clause-value : goal.returns-in-Err-clause-value
unfolding answer
returns-in-Err-clause-value c = ap (λ (r : Result Block Refusal). answer r c.args.self c.args.block.now) c.in-Err.ensures.value

pub returns-in-Err-clause-state_of : goal.returns-in-Err-clause-state_of
returns-in-Err-clause-state_of c h s = answered h c.args.self c.args.block.now _ (returns-in-Err-clause-value c) s
