-- The first byte tells whether there is a number, and the number follows it.
use Rattle.std.proofs.Common.{[], ◌∷◌, refl, rules}
use Rattle.std.specs.Float.Ieee.{of_bits}
use Rattle.exact.specs.Dyadic.{plus_zero}
use Rattle.layout.specs.Numbers.{float_bytes}
use Rattle.layout.specs.RecordBytes.{optional_bytes}
use Rattle.layout.proofs.Held.{Fits32}
use Rattle.layout.proofs.Back.{absent-back, given_back}
use Rattle.layout.proofs.Stored.{first, next, float-long}
use Rattle.layout.proofs.fields.put_optional.Goals as goal

pub returns-in-None : goal.returns-in-None
unfolding optional_bytes of_bits
returns-in-None c =
    let w = next (first c.args.out.now c.args.at (0 ∷ []) refl refl) (float_bytes plus_zero) c.put.ensures (float-long plus_zero) refl in
    rw c.in-None.is (record { out_after = w.is; x_value = absent-back })

pub returns-in-Some : goal.returns-in-Some
unfolding optional_bytes
returns-in-Some c =
    let x = c.in-Some.value in
    let w = next (first c.args.out.now c.args.at (1 ∷ []) refl refl) (float_bytes x) c.put-in-Some.ensures (float-long x) refl in
    let fit : Fits32 x = search rules in
    rw c.in-Some.is (record { out_after = w.is; x_value = given_back x fit })
