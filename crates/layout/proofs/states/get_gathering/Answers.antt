-- The values and the marks are read, each from where its rule says.
use Rattle.std.proofs.Common.{◌≡◌, ◌∙◌, refl}
use Rattle.std.proofs.Math.Nat.{zero-add, one-mul}
use Rattle.util.specs.Words.{word_at}
use Rattle.util.specs.Lists.{tab}
use Rattle.util.proofs.Filled.{tab-same}
use Rattle.layout.specs.Numbers.{two_at}
use Rattle.layout.specs.GatheringBytes.{mark_at, gathering_in}
use Rattle.layout.proofs.states.get_gathering.Goals as goal

pub returns : goal.returns
unfolding gathering_in two_at
returns c =
    let s = c.args.s.now in
    let values : c.get_array.result ≡ tab (word_at s) 832 = c.get_array.ensures ∙ tab-same _ (word_at s) 832 (λ k l. rw zero-add refl) in
    let marks : c.get_array-2.result ≡ tab (mark_at s) 832 = c.get_array-2.ensures ∙ tab-same _ (mark_at s) 832 (λ k l. rw one-mul refl) in
    λ i. record { values = values i; marks = marks i }
