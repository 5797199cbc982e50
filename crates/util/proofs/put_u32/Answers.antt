-- The copied bytes are those of the definition.
use Rattle.std.proofs.Common.{◌+◌, refl, ◌∙◌}
use Rattle.util.specs.Bytes.{four}
use Rattle.util.proofs.Stored.{copied, four-are}
use Rattle.util.proofs.put_u32.Goals as goal

pub returns : goal.returns
unfolding four
returns c =
    let at = c.args.at in
    let bytes = c.copy_from_slice.ensures.after ∙ (c.to_be_bytes.ensures ∙ four-are c.args.v c.ranges.v.fits) in
    copied c.args.out.now (four c.args.v) c.copy_from_slice.new.self at (at + 4) bytes refl c.requires
