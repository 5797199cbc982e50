-- Each literal is what the definition has.
use Rattle.std.proofs.Common.{refl}
use lib.Ieee.{of_bits}
use Rattle.record.specs.Fields.{blank_record}
use Rattle.record.proofs.fields.blank_record.Goals as goal

pub returns : goal.returns
unfolding blank_record of_bits
returns c = refl
