-- Three lines.
use Rattle.std.proofs.Common.{◌≡◌, [], ◌∷◌, ℤ, w16, to_z, of_z, ap, rules, ◌∙◌}
use Rattle.listing.specs.Text.{ascii, whole_text}
use Rattle.listing.specs.Inner.Typing.{typed}
use Rattle.listing.specs.Listing.{line}
use Rattle.listing.proofs.Typing.{then, done}
use Rattle.listing.proofs.put_supply.Goals as goal

pub returns : goal.returns
returns c =
    let s = c.args in
    let r = s.r in
    let first : to_z w16 (of_z w16 r.k_v_dd) ≡ r.k_v_dd = search rules in
    let second : to_z w16 (of_z w16 r.v_dd_25) ≡ r.v_dd_25 = search rules in
    then _ _ _ (c.put_line-a.ensures ∙ ap (λ (z : ℤ). typed (line (ascii "k_v_dd") (whole_text z ∷ [])) (s.out.now, s.at)) first)
    (then _ _ _ (c.put_line-b.ensures ∙ ap (λ (z : ℤ). typed (line (ascii "v_dd_25") (whole_text z ∷ [])) (c.put_line-a.new.out, c.put_line-a.result)) second)
    (then _ _ _ c.put_line.ensures (done _)))
