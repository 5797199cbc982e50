-- What the sentences say would fit, exactly: a field of a scale has its term inside 16 bits from -2 ^ (15 - scale) up to one less than that power, since 2 ^ 15 is that power times the
-- scale's; and a sum that is too high or too low by so much comes to the last number inside.
-- Assumes nothing.
use Prim.Native.Nat.{ℕ, zero, suc, ◌+◌, ◌-◌, ◌*◌, ◌/◌, ◌^◌, ◌≤◌, ◌<◌}
use mathlib.Core.Path.{◌≡◌, sym, ap, subst, ◌∙◌}
use mathlib.Core.Logic.{◌↔◌}
use mathlib.Core.Bool.{true}
use native.Mathlib.Omega.{arith}
use native.Mathlib.Nat.{mul-div_cancel, div-lt_iff_lt-mul, le-div_iff_mul-le}
use lib.IntN.{ℤ, pos, negsuc, neg_ℤ}
use lib.Pow.{pow_pos, pow-add}
use lib.Signed.{mag}
use Rattle.util.specs.Sums.{in16, term_of}
use Rattle.util.proofs.Whole.{inside, is-inside}

-- v is from -m up to m - 1
abbrev pub Between : ℕ → ℤ → Type 0
Between m (pos n) = n ≤ m - 1
Between m (negsuc n) = suc n ≤ m

negative : (m : ℕ) → (mag (neg_ℤ (pos m)) < 32768) ↔ (m ≤ 32768)
negative zero = (λ h. omega arith, λ h. omega arith)
negative (suc m) = (λ h. omega arith, λ h. omega arith)

pub would-fit : (v : ℤ) (scale : ℕ) → scale ≤ 15 → (in16 (term_of v scale) ≡ true) ↔ Between (2 ^ (15 - scale)) v
would-fit v scale h = by v
  where
    m : ℕ
    m = 2 ^ (15 - scale)

    whole : m * 2 ^ scale ≡ 32768
    whole = sym (pow-add 2 (15 - scale) scale) ∙ ap (λ (k : ℕ). 2 ^ k) (let e : 15 - scale + scale ≡ 15 = omega arith in e)

    some : 0 < m
    some = pow_pos (15 - scale)

    below : (n : ℕ) → (n < m) ↔ (n * 2 ^ scale < 32768)
    below n =
        let d = div-lt_iff_lt-mul {k = 2 ^ scale} {x = n * 2 ^ scale} {y = m} (pow_pos scale) in
        let back : n * 2 ^ scale / 2 ^ scale ≡ n = mul-div_cancel n (pow_pos scale) in (
          λ l. subst (λ (k : ℕ). n * 2 ^ scale < k) whole (d.0 (subst (λ (k : ℕ). k < m) (sym back) l)),
          λ l. subst (λ (k : ℕ). k < m) back (d.1 (subst (λ (k : ℕ). n * 2 ^ scale < k) (sym whole) l)),
        )

    up_to : (n : ℕ) → (n ≤ m) ↔ (n * 2 ^ scale ≤ 32768)
    up_to n =
        let d = le-div_iff_mul-le {k = 2 ^ scale} {x = n} {y = m * 2 ^ scale} (pow_pos scale) in
        let back : m * 2 ^ scale / 2 ^ scale ≡ m = mul-div_cancel m (pow_pos scale) in (
          λ l. subst (λ (k : ℕ). n * 2 ^ scale ≤ k) whole (d.0 (subst (λ (k : ℕ). n ≤ k) (sym back) l)),
          λ l. subst (λ (k : ℕ). n ≤ k) back (d.1 (subst (λ (k : ℕ). n * 2 ^ scale ≤ k) (sym whole) l)),
        )

    by : (v : ℤ) → (in16 (term_of v scale) ≡ true) ↔ Between m v
    by (pos n) = (
      λ e. let l : n < m = (below n).1 (inside (pos (n * 2 ^ scale)) e) in omega arith,
      λ l. is-inside (pos (n * 2 ^ scale)) ((below n).0 (omega (arith, l, some))),
    )
    by (negsuc n) = (
      λ e. (up_to (suc n)).1 ((negative (suc n * 2 ^ scale)).0 (inside (neg_ℤ (pos (suc n * 2 ^ scale))) e)),
      λ l. is-inside (neg_ℤ (pos (suc n * 2 ^ scale))) ((negative (suc n * 2 ^ scale)).1 ((up_to (suc n)).0 l)),
    )

-- too high by n - 32767, and too low by as much: -(n + 1) with that many more is -32768
pub lower-fits : (n : ℕ) → 32767 < n → n - (n - 32767) ≡ 32767
lower-fits n h = omega arith

pub higher-fits : (n : ℕ) → 32767 < n → suc n - (n - 32767) ≡ 32768
higher-fits n h = omega arith
