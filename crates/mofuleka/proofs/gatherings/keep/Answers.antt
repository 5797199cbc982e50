-- Where the call is accepted there is room for the gathering, and it stands at the front of the slice.
use Rattle.std.proofs.Common.{◌≡◌, true, length, refl, rules}
use Rattle.refusal.specs.Code.{accepted_by}
use Rattle.layout.specs.GatheringBytes.{gathering_bytes}
use Rattle.layout.specs.Sizes.{gathering_size}
use Rattle.mofuleka.specs.Answers.{short_for}
use Rattle.mofuleka.proofs.Lent.{lent_written}
use Rattle.mofuleka.proofs.Single.{long-enough}
use Rattle.mofuleka.proofs.gatherings.keep.Goals as goal

pub returns-clause-kept : goal.returns-clause-kept
returns-clause-kept c =
    let s = c.args in
    let put = c.put_gathering.ensures in
    let ok : accepted_by (short_for gathering_size (length s.out.now)) ≡ true = search rules in
    lent_written true (gathering_bytes s.g) s.out.now refl put.g_len (long-enough gathering_size (length s.out.now) ok) put.out_after
