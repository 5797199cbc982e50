-- Each turn types one value more.
use Rattle.std.proofs.Common.{ap, ◌∙◌}
use Rattle.listing.specs.Inner.Typing.{typed}
use Rattle.listing.proofs.Lines.{one_value, whole-line}
use Rattle.listing.proofs.put_line.Goals as goal

pub loop-value-preserved : goal.loop-value-preserved
loop-value-preserved g c =
    let l = c.loop-value in
    let text = g.T.Value.text in
    let value = c.put-next.ensures ∙ ap (λ v. typed (text v) (c.put_byte-past.new.out, c.put_byte-past.result)) c.value-item.is in
    one_value text c.args.values.now l.value-index c.value-item.result c.loop-value-test.true (l.out, l.next) c.put_byte-past.ensures value ∙ l.invariant

pub returns : goal.returns
returns g c =
    let s = c.args in
    let l = c.loop-value in
    whole-line g.T.Value.text s.values.now s.name.now l.value-index c.loop-value-test.false (s.out.now, s.at) (l.out, l.next) c.put_text-next.ensures l.invariant c.put_byte.ensures
