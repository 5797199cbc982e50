-- The marks stand behind the values, and both read back.
use Rattle.std.proofs.Common.{◌≡◌, ℕ, List, [], ◌∷◌, ◌+◌, ◌*◌, ◌≤◌, length, refl, ap, arith, rules, ◌∙◌}
use Rattle.std.proofs.lemmas.List.Edits.{sets}
use Rattle.util.specs.Bytes.{flat, bytes_of}
use Rattle.util.proofs.Bytes.{length-bytes}
use Rattle.layout.specs.GatheringBytes.{gathering_bytes, gathering_in}
use Rattle.layout.proofs.Stored.{first, next}
use Rattle.layout.proofs.Back.{stands-stored}
use Rattle.layout.proofs.GatheringBack.{gathering-back}
use Rattle.layout.proofs.states.put_gathering.Goals as goal

-- bytes are their own bytes
bytes-flat : (s : List ℕ) → flat (λ b. b ∷ []) s ≡ s
unfolding flat
bytes-flat [] = refl
bytes-flat (b ∷ s) = ap (λ (t : List ℕ). b ∷ t) (bytes-flat s)

pub returns : goal.returns
unfolding gathering_bytes
returns c =
    let l = c.args.out.now in
    let g = c.args.g in
    let lv : length g.values ≡ 832 = search rules in
    let lm : length g.marks ≡ 832 = search rules in
    let front = first l 0 (bytes_of g.values) c.put_all.ensures (length-bytes g.values ∙ ap (λ (n : ℕ). 2 * n) lv) in
    let w = next front g.marks (rw (bytes-flat g.marks) at c.put_all-2.ensures) lm refl in
    let room : 0 + length (gathering_bytes g) ≤ length l = rw w.long (omega arith) in
    let back = gathering-back (sets l 0 (gathering_bytes g)) g lv lm (stands-stored l (gathering_bytes g) 0 room) in
    record { out_after = w.is; g_len = w.long; out_after_2 = ap gathering_in w.is ∙ back }
