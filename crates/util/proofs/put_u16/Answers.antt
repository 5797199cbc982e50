-- The copied bytes are those of the definition.
use Rattle.std.proofs.Common.{◌+◌, refl, ◌∙◌}
use Rattle.util.specs.Bytes.{two}
use Rattle.util.proofs.Stored.{copied, two-are}
use Rattle.util.proofs.put_u16.Goals as goal

pub returns : goal.returns
unfolding two
returns c =
    let at = c.args.at in
    let bytes = c.copy_from_slice.ensures.after ∙ (c.to_be_bytes.ensures ∙ two-are c.args.v c.ranges.v.fits) in
    copied c.args.out.now (two c.args.v) c.copy_from_slice.new.self at (at + 2) bytes refl c.requires
