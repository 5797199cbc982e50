-- Four digits, the highest first.
use Rattle.std.proofs.Common.{ℕ, ◌%◌, [], ◌∷◌, sym, ap, ◌∙◌}
use native.Mathlib.Nat.{div-one}
use Rattle.listing.specs.Text.{digit}
use Rattle.listing.specs.Inner.Typing.{typed}
use Rattle.listing.proofs.Typing.{then}
use Rattle.wording.proofs.words.put_address.Goals as goal

pub returns : goal.returns
returns c =
    let last = c.put_digit.ensures ∙ ap (λ (m : ℕ). typed (digit (m % 16) ∷ []) (c.put_digit-d.new.out, c.put_digit-d.result)) (sym (div-one c.args.address)) in
    then _ _ _ c.put_text-a.ensures
    (then _ _ _ c.put_digit-b.ensures
    (then _ _ _ c.put_digit-c.ensures
    (then _ _ _ c.put_digit-d.ensures
    last)))
