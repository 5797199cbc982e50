-- The values that are left and the line's end would complete the page.
use Rattle.std.proofs.Common.{◌≡◌}
use Rattle.listing.specs.Inner.Typing.{typed}
use Rattle.listing.proofs.Lines.{rest}
use Rattle.listing.proofs.put_line.Given as goal

abbrev pub invariant-loop-value : goal.invariant-loop-value
invariant-loop-value g l = typed (rest g.T.Value.text l.values l.value-index) (l.out, l.next) ≡ typed (rest g.T.Value.text l.values 0) (l.initial.out, l.initial.next)
