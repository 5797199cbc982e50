-- The words' bytes are as many as the array has, so that nothing of it is left.
use Rattle.std.proofs.Common.{◌≡◌, List, ℕ, length, replicate, arith, rules, ◌∙◌}
use Rattle.util.specs.Bytes.{bytes_of}
use Rattle.util.proofs.Bytes.{length-bytes}
use Rattle.util.proofs.Stored.{sets-whole}
use Rattle.gathering.proofs.Gathering.image.Goals as goal

-- the array as it is made
abbrev zeros : List ℕ
zeros = replicate 1664 0

pub returns : goal.returns
returns c =
    let vs = c.args.self.now.values in
    let n : length vs ≡ 832 = search rules in
    let long : length zeros ≡ length (bytes_of vs) = omega (arith, length-bytes vs) in
    c.put_words.ensures ∙ sets-whole zeros (bytes_of vs) long
