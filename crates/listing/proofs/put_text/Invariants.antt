-- What is left of the text would complete the page.
use Rattle.std.proofs.Common.{◌≡◌, drop}
use Rattle.listing.specs.Inner.Typing.{typed}
use Rattle.listing.proofs.put_text.Given as goal

abbrev pub invariant-loop-b : goal.invariant-loop-b
invariant-loop-b l = typed (drop l.b-index l.text) (l.out, l.next) ≡ typed l.text (l.initial.out, l.initial.next)
