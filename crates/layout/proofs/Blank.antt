-- The record beside a refusal is zero throughout: its bytes are zeros.
-- Assumes nothing.
use mathlib.Core.Path.{◌≡◌, refl}
use lib.Ieee.{to_bits}
use lib.ListN.{replicate}
use Rattle.util.specs.Bytes.{two, four, i16_bits, flat}
use Rattle.record.specs.Fields.{blank_record}
use Rattle.layout.specs.Sizes.{record_size}
use Rattle.layout.specs.RecordBytes.{head_bytes, array_bytes, optional_bytes, tail_bytes, record_bytes}

pub blank-bytes : record_bytes blank_record ≡ replicate record_size 0
unfolding record_bytes head_bytes array_bytes optional_bytes tail_bytes flat two four i16_bits to_bits blank_record
blank-bytes = refl
