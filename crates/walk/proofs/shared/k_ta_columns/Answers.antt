-- Each place has one of four averages, which are read in chessboard order.
use Rattle.std.proofs.Common.{◌≡◌, ℕ, ◌+◌, ◌-◌, ◌*◌, ◌/◌, ◌%◌, ◌<◌, arith, rules, ap, pos}
use Rattle.util.specs.Words.{listed, signed_field}
use Rattle.util.specs.Pixels.{chessboard}
use Rattle.walk.specs.Parts.{kta_average}
use Rattle.util.proofs.Told.{from_fn-gives}
use Rattle.walk.proofs.shared.k_ta_columns.Goals as goal

-- the pixel whose average is read for place i, and pixel i itself
same_average : (w : ℕ → ℕ) (i : ℕ) → i < 64 → kta_average w ((i / 32 + 2 * (i % 2)) % 2 * 32 + (i / 32 + 2 * (i % 2)) / 2) ≡ kta_average w i
same_average w i h =
    let e : chessboard ((i / 32 + 2 * (i % 2)) % 2 * 32 + (i / 32 + 2 * (i % 2)) / 2) ≡ chessboard i = omega arith in
    ap (λ (k : ℕ). signed_field (w (0x36 + k / 2)) (8 * (1 - k % 2)) 8) e

pub returns-clause-by_index : goal.returns-clause-by_index
returns-clause-by_index c =
    let w = listed c.args.words.now in
    let order = from_fn-gives _ _ (λ k. kta_average w (k % 2 * 32 + k / 2)) c.from_fn-order.result (pos 0) 4 (λ j y q l k. search rules) c.from_fn-order.ensures.items in
    from_fn-gives _ _ (kta_average w) c.from_fn.result (pos 0) 64 (λ j y q l k. let at = order (j / 32 + 2 * (j % 2)) (omega arith) in let same = same_average w j l in search rules)
    c.from_fn.ensures.items
