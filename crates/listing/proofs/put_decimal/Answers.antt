-- The digits that `io` finds are the listing's.
use Rattle.std.proofs.Common.{ℕ, List, ap, arith, ◌∙◌}
use Rattle.listing.specs.Inner.Typing.{typed}
use Rattle.listing.proofs.Decimals.{decimal-digits}
use Rattle.listing.proofs.put_decimal.Goals as goal

pub returns : goal.returns
returns c =
    let found = c.decimal-count in
    c.put_text.ensures ∙ ap (λ (t : List ℕ). typed t (c.args.out.now, c.args.at)) (found.ensures.digits ∙ decimal-digits 19 found.result c.args.n (omega (arith, c.ranges.n)) found.ensures.len)
