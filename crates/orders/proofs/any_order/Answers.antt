-- Each run ends in the state of its history, and the histories have the same blocks.
use Rattle.std.proofs.Common.{◌≡◌, refl, ℕ}
use mathlib.Core.Logic.{⊎_elim}
use mathlib.Core.List.Memᴰ
use mathlib.Core.List.{List, [], ◌∷◌, Memᴰ}
use Rattle.gathering.specs.History.{History, StateOf}
use Rattle.gathering.specs.declared.Gathering.{Gathering}
use Rattle.gathering.proofs.Promises.{same_blocks}
use Rattle.orders.proofs.any_order.Goals as goal

-- every block of h is one of k
abbrev Each : History → History → Type 0
Each [] k = Unit {0}
Each (b ∷ h) k = Memᴰ b k × Each h k

within : (h k : History) → Each h k → (x : List ℕ) → Memᴰ x h → Memᴰ x k
within [] k e x m = absurd (Memᴰ.not-nil m)
within (b ∷ h) k e x m = ⊎_elim (λ (q : x ≡ b). Memᴰ.cast q e.0) (λ (n : Memᴰ x h). within h k e.1 x n) (Memᴰ.cases_cons m)

same : {h k : History} {g j : Gathering} → StateOf h g → StateOf k j → Each h k → Each k h → g ≡ j
same {h} {k} {g} {j} s t d e = same_blocks h k g j s t (λ b a. (within h k d b, within k h e b))

first : {a : List ℕ} {h : History} → Memᴰ a (a ∷ h)
first = Memᴰ.head refl

second : {a b : List ℕ} {h : History} → Memᴰ b (a ∷ b ∷ h)
second = Memᴰ.tail first

-- b after a, and b, a and b again
pub expect-requires : goal.expect-requires
expect-requires c =
    let in_order = c.after-in_order.ensures _ c.alone-only_a.ensures in
    let again = c.after-2.ensures _ (c.after.ensures _ c.alone-only_b.ensures) in
    c.equal.ensures (same in_order again (first, (second, tt)) (first, (second, (first, tt))))

-- b after a, and a and b merged
pub expect-requires-2 : goal.expect-requires-2
expect-requires-2 c =
    let in_order = c.after-in_order.ensures _ c.alone-only_a.ensures in
    let together = c.merged.ensures _ _ c.alone-only_a.ensures c.alone-only_b.ensures in
    c.equal-2.ensures (same in_order together (second, (first, tt)) (second, (first, tt)))

-- b after a, and that merged into b
pub expect-requires-3 : goal.expect-requires-3
expect-requires-3 c =
    let in_order = c.after-in_order.ensures _ c.alone-only_a.ensures in
    let together = c.merged-2.ensures _ _ c.alone-only_b.ensures in_order in
    c.equal-3.ensures (same in_order together (first, (Memᴰ.tail second, tt)) (first, (first, (second, tt))))
