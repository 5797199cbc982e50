-- What reading a block shows of it.
-- Assumes nothing.
use Rattle.std.specs.Prelude.{ℕ, ◌+◌, ◌≤◌, List, length, Result, IfOk}
use Rattle.refusal.specs.declared.Refusal.{Refusal}
use Rattle.blocks.specs.declared.Block.{Block}

-- an accepted block has a body, and its words lie among the 832
abbrev pub Inside : List ℕ → Result Block Refusal → Type 0
Inside b r = IfOk r (λ k. (3 ≤ length b) × (k.first + k.count ≤ 832))
