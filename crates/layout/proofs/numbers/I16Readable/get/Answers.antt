-- The 16 bits in two's complement are the field of all 16.
use Rattle.std.proofs.Common.{◌≡◌, ℕ, ◌-◌, ◌/◌, ◌%◌, ◌<◌, Bool, true, false, cond, sym, ap, refl, arith, ◌∙◌}
use Prim.Native.Nat.{suc}
use lib.IntN.{pos, negsuc, ◌-ℤ◌}
use lib.Dec.{ltb}
use mir.Syntax.{w16}
use mir.Val.{to_z, sel}
use mir.Facts.{to_z-of_z}
use Rattle.util.specs.Words.{signed_field}
use Rattle.util.proofs.Width.{less-than}
use Rattle.layout.specs.Numbers.{short_at}
use Rattle.layout.proofs.numbers.I16Readable.get.Goals as goal

by_half : (b : Bool) (n : ℕ) → n < 0x1_0000 → sel b (pos n) (negsuc (0x1_0000 - suc n)) ≡ cond b (pos n) (pos n -ℤ pos 0x1_0000)
by_half true n h = refl
by_half false n h = sym (less-than n 0x1_0000 h ∙ ap negsuc (omega arith))

signed : (n : ℕ) → n < 0x1_0000 → to_z w16 n ≡ signed_field n 0 16
signed n h = let all : n / 1 % 0x1_0000 ≡ n = omega arith in rw all (by_half (ltb n 0x8000) n h)

pub returns : goal.returns
unfolding short_at
returns c =
    to_z-of_z {w = w16} (record { sfits = c.cast_signed.type_inv })
    ∙ (c.cast_signed.ensures ∙ (signed c.get.result c.get.type_inv ∙ ap (λ (n : ℕ). signed_field n 0 16) c.get.ensures))
