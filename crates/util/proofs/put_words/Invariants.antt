-- The first w words are stored.
use Rattle.std.proofs.Common.{◌≡◌, take}
use Rattle.std.proofs.lemmas.List.Edits.{sets}
use Rattle.util.specs.Bytes.{two, flat}
use Rattle.util.proofs.put_words.Given as goal

abbrev pub invariant-loop-w : goal.invariant-loop-w
invariant-loop-w l = l.out ≡ sets l.initial.out 0 (flat two (take l.w l.words))
