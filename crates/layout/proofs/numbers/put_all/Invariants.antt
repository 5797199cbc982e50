-- The first i numbers are stored.
use Rattle.std.proofs.Common.{◌≡◌, take}
use Rattle.std.proofs.lemmas.List.Edits.{sets}
use Rattle.util.specs.Bytes.{flat}
use Rattle.layout.proofs.numbers.put_all.Given as goal

abbrev pub invariant-loop-i : goal.invariant-loop-i
invariant-loop-i g l = l.out ≡ sets l.initial.out l.at (flat g.T.Number.bytes (take l.i l.a))
