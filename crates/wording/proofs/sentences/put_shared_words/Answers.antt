-- Two addresses, where they are asked for.
use Rattle.listing.proofs.Typing.{then, done}
use Rattle.wording.proofs.sentences.put_shared_words.Goals as goal

pub returns : goal.returns
returns c =
    rw c.if-not-given.false
    (then _ _ _ c.put_text-a.ensures
    (then _ _ _ c.put_address-b.ensures
    (then _ _ _ c.put_text-c.ensures
    (then _ _ _ c.put_address.ensures (done _)))))
