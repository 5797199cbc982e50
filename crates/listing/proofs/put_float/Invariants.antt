-- The first k digits are typed.
use Rattle.std.proofs.Common.{◌≡◌, take}
use Rattle.listing.specs.Text.{hexadecimal}
use Rattle.listing.specs.Inner.Typing.{typed}
use Rattle.listing.proofs.put_float.Given as goal

abbrev pub invariant-loop-k : goal.invariant-loop-k
invariant-loop-k l = (l.out, l.next) ≡ typed (take l.k (hexadecimal l.n)) (l.initial.out, l.initial.next)
