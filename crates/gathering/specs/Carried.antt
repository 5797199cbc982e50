-- What a block says of each word.
-- Assumes nothing.
use Rattle.std.specs.Prelude.{ℕ, ◌+◌, ◌-◌, cond, ◌&&◌, List, leb, ltb, Result, Ok, Err}
use Rattle.refusal.specs.declared.Refusal.{Refusal}
use Rattle.util.specs.Words.{word_at}
use Rattle.blocks.specs.Blocks.{body_of, read_block}
use Rattle.blocks.specs.declared.Block.{Block}
use Rattle.gathering.specs.Cells.{Cell, missing, held}

-- what `count` words from `first` on, behind the first word's number in a body, say of word w
abbrev pub carried_at : List ℕ → ℕ → ℕ → ℕ → Cell
carried_at body first count w = cond (leb first w && ltb w (first + count)) (held (word_at body (1 + (w - first)))) missing

abbrev pub carried_in : Result Block Refusal → List ℕ → ℕ → Cell
carried_in (Ok k) b w = carried_at (body_of b) k.first k.count w
carried_in (Err why) b w = missing

-- what a block says of word w: nothing where it is refused
abbrev pub carried_by : List ℕ → ℕ → Cell
carried_by b w = carried_in (read_block b) b w
