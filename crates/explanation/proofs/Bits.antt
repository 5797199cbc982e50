-- One field of an image set to zero: what the field then holds is 0, the other bits of its word stay, and so does every other word.
-- Assumes nothing.
use Prim.Native.Nat.{ℕ, suc, ◌+◌, ◌-◌, ◌*◌, ◌/◌, ◌%◌, ◌^◌, ◌≤◌, ◌<◌}
use mathlib.Core.Path.{◌≡◌, sym, ap, ◌∙◌}
use mathlib.Core.List.{List}
use native.Mathlib.Nat.{lt_of_lt_of_le, mod-lt, mul_assoc, zero-mul, zero-mod, mul-add-div_right, mul-add-mod_self_right, div-eq_of_lt, mod-mod}
use native.Mathlib.Omega.{arith}
use borrow.Author.Tests.{lt-ltb, le-leb}
use lib.IntN.{pos}
use lib.ListN.{length, get_or, set, length-set}
use lib.Pow.{pow_pos, pow_mono, pow-add}
use lib.Seq.{get_or-set_same, get_or-set_other}
use Rattle.util.specs.Bytes.{two}
use Rattle.util.specs.Words.{word_at, field, signed_field}
use Rattle.util.specs.Sums.{term_of}
use Rattle.eeprom.specs.Image.{image_words}
use Rattle.explanation.specs.Explanation.{part_at}
use Rattle.explanation.specs.Cleared.{cleared_word, cleared}

-- ---- the bits of a word
module _ (x high low width : ℕ) (place : high + 1 ≡ width + low) where
  above : 2 ^ (high + 1) ≡ 2 ^ width * 2 ^ low
  above = ap (λ (n : ℕ). 2 ^ n) place ∙ pow-add 2 width low

  shifted : cleared_word x high low / 2 ^ low ≡ x / 2 ^ (high + 1) * 2 ^ width
  shifted =
      let a = x / 2 ^ (high + 1) in
      let whole : a * 2 ^ (high + 1) ≡ a * 2 ^ width * 2 ^ low = ap (λ (n : ℕ). a * n) above ∙ sym (mul_assoc a (2 ^ width) (2 ^ low)) in
      let none : x % 2 ^ low / 2 ^ low ≡ 0 = div-eq_of_lt (mod-lt x (pow_pos low)) in
      ap (λ (n : ℕ). (n + x % 2 ^ low) / 2 ^ low) whole ∙ (mul-add-div_right (pow_pos low) (a * 2 ^ width) (x % 2 ^ low) ∙ (let e : a * 2 ^ width + x % 2 ^ low / 2 ^ low ≡ a * 2 ^ width = omega (arith, none) in e))

  pub field-zero : field (cleared_word x high low) low width ≡ 0
  field-zero =
      let a = x / 2 ^ (high + 1) in
      ap (λ (n : ℕ). n % 2 ^ width) shifted ∙ (let e : a * 2 ^ width ≡ a * 2 ^ width + 0 = omega arith in ap (λ (n : ℕ). n % 2 ^ width) e ∙ (mul-add-mod_self_right a (2 ^ width) 0 ∙ zero-mod (2 ^ width)))

  pub signed-zero : signed_field (cleared_word x high low) low width ≡ pos 0
  signed-zero = rw (field-zero, lt-ltb 0 (2 ^ (width - 1)) (pow_pos (width - 1)))

  pub term-zero : (scale : ℕ) → term_of (signed_field (cleared_word x high low) low width) scale ≡ pos 0
  term-zero scale = rw signed-zero (ap pos (zero-mul (2 ^ scale)))

  -- what stands below the field stays, and what stands above
  pub below_stays : cleared_word x high low % 2 ^ low ≡ x % 2 ^ low
  below_stays =
      let a = x / 2 ^ (high + 1) in
      let whole : a * 2 ^ (high + 1) ≡ a * 2 ^ width * 2 ^ low = ap (λ (n : ℕ). a * n) above ∙ sym (mul_assoc a (2 ^ width) (2 ^ low)) in
      ap (λ (n : ℕ). (n + x % 2 ^ low) % 2 ^ low) whole ∙ (mul-add-mod_self_right (a * 2 ^ width) (2 ^ low) (x % 2 ^ low) ∙ mod-mod x (2 ^ low))

  pub above-stays : cleared_word x high low / 2 ^ (high + 1) ≡ x / 2 ^ (high + 1)
  above-stays =
      let a = x / 2 ^ (high + 1) in
      let small : x % 2 ^ low < 2 ^ (high + 1) = lt_of_lt_of_le (mod-lt x (pow_pos low)) (pow_mono (omega (arith, place))) in
      mul-add-div_right (pow_pos (high + 1)) a (x % 2 ^ low) ∙ (let e : a + x % 2 ^ low / 2 ^ (high + 1) ≡ a = omega (arith, div-eq_of_lt small) in e)

-- ---- the words of an image
module _ (image : List ℕ) (n v : ℕ) (whole : length image ≡ 1664) where
  abbrev written : List ℕ
  written = set (set image (2 * n) (v / 256)) (suc (2 * n)) (v % 256)

  pub this-word : 16 ≤ n → n < 832 → image_words written n ≡ v
  unfolding image_words
  this-word h l =
      let high : get_or written (2 * n) 0 ≡ v / 256 = get_or-set_other (set image (2 * n) (v / 256)) (suc (2 * n)) (2 * n) (v % 256) 0 (λ e. omega arith) ∙ get_or-set_same image (2 * n) (v / 256) 0 (omega arith) in
      let next : 2 * n + 1 ≡ suc (2 * n) = omega arith in
      let room : suc (2 * n) < length (set image (2 * n) (v / 256)) = rw (length-set image (2 * n) (v / 256)) (omega arith) in
      let low : get_or written (2 * n + 1) 0 ≡ v % 256 = rw next (get_or-set_same (set image (2 * n) (v / 256)) (suc (2 * n)) (v % 256) 0 room) in
      rw (le-leb 16 n h, lt-ltb n 832 l, high, low) (omega arith)

  pub other_word : (m : ℕ) → (m ≡ n → ⊥) → image_words written m ≡ image_words image m
  unfolding image_words
  other_word m h =
      let stays : (k : ℕ) → (k ≡ 2 * n → ⊥) → (k ≡ suc (2 * n) → ⊥) → get_or written k 0 ≡ get_or image k 0 = λ k a b. get_or-set_other (set image (2 * n) (v / 256)) (suc (2 * n)) k (v % 256) 0 b ∙ get_or-set_other image (2 * n) k (v / 256) 0 a in
      rw (stays (2 * m) (λ e. h (omega arith)) (λ e. omega arith), stays (2 * m + 1) (λ e. omega arith) (λ e. h (omega arith)))

-- ---- a part of an image, cleared: its term is 0, at any scale
pub part-zero : (image : List ℕ) (n low width scale s : ℕ) → length image ≡ 1664 → 16 ≤ n → n < 832 → 0 < width
    → (part_at (image_words (cleared image (part_at (image_words image) n low width scale))) n low width s).term ≡ pos 0
unfolding two
part-zero image n low width scale s whole h l wide =
    let e : 0x2400 + n - 0x2400 ≡ n = omega arith in
    let place : low + (width - 1) + 1 ≡ width + low = omega arith in
    let x = word_at image n in
    rw (e, this-word image n (cleared_word x (low + (width - 1)) low) whole h l) (term-zero x (low + (width - 1)) low width place s)
