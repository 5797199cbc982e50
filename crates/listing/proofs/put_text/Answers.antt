-- At each turn, what is left of the text would complete the page.
use Rattle.std.proofs.Common.{◌≡◌, ◌∷◌, ◌+◌, drop, get_or, drop-cons, add-one, ap, ◌∙◌}
use lib.ListN.{drop_of_length-le}
use Rattle.listing.specs.Inner.Typing.{typed}
use Rattle.listing.proofs.put_text.Goals as goal

pub loop-b-preserved : goal.loop-b-preserved
unfolding typed
loop-b-preserved c =
    let text = c.args.text.now in
    let i = c.loop-b.b-index in
    let e : drop i text ≡ get_or text i 0 ∷ drop (i + 1) text = rw (add-one, drop-cons text i 0 c.loop-b-test.true) in
    ap (typed (drop (i + 1) text)) c.put_byte-next.ensures ∙ (rw e at c.loop-b.invariant)

pub returns : goal.returns
unfolding typed
returns c = rw (drop_of_length-le c.args.text.now c.loop-b-test.false) at c.loop-b.invariant
