-- A pixel's bytes, `pixel_size` of them: its offset, its alpha, its Kta.
-- Assumes nothing.
use Rattle.std.specs.Prelude.{ℕ, List, ◌++◌, ℤ, Float}
use Rattle.layout.specs.Numbers.{short_bytes, float_bytes}

unfoldable pub pixel_bytes : ℤ → Float → Float → List ℕ
pixel_bytes offset alpha kta = short_bytes offset ++ float_bytes alpha ++ float_bytes kta
