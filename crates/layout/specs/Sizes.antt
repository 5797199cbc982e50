-- How many bytes each layout has, as src/lib.rt names them.
-- Assumes nothing.
use Rattle.std.specs.Prelude.{ℕ}

abbrev pub image_size : ℕ
image_size = 1664

abbrev pub offset_table_size : ℕ
offset_table_size = 1536

abbrev pub alpha_table_size : ℕ
alpha_table_size = 3072

abbrev pub kta_table_size : ℕ
kta_table_size = 3072

abbrev pub record_size : ℕ
record_size = 122

abbrev pub gathering_size : ℕ
gathering_size = 2496

abbrev pub pixel_size : ℕ
pixel_size = 10

-- of an explanation, of its heading, of its fields with their running sums, of one field with its sum, and of one field alone
abbrev pub explanation_size : ℕ
explanation_size = 74

abbrev pub heading_size : ℕ
heading_size = 5

abbrev pub parts_size : ℕ
parts_size = 64

abbrev pub stage_size : ℕ
stage_size = 17

abbrev pub part_size : ℕ
part_size = 13
