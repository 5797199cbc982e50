-- The numbers that stand for patterns and subpages in a call: 0 and 1. No other number names one.
-- Assumes nothing.
use Rattle.std.specs.Prelude.{ℕ, zero, suc, Result, Ok, Err}
use Rattle.refusal.specs.declared.Refusal.{Refusal}
use Rattle.refusal.specs.declared.Refusal.TheVariants.{PatternOrSubpage}
use Rattle.camera.specs.declared.AccessPattern.{AccessPattern}
use Rattle.camera.specs.declared.AccessPattern.TheVariants.{Interleave, Chess}
use Rattle.camera.specs.declared.Subpage.{Subpage}
use Rattle.camera.specs.declared.Subpage.TheVariants.{Zero, One}

abbrev pub pattern_from : ℕ → Result AccessPattern Refusal
pattern_from zero = Ok Interleave
pattern_from (suc zero) = Ok Chess
pattern_from (suc (suc n)) = Err PatternOrSubpage

abbrev pub subpage_from : ℕ → Result Subpage Refusal
subpage_from zero = Ok Zero
subpage_from (suc zero) = Ok One
subpage_from (suc (suc n)) = Err PatternOrSubpage
