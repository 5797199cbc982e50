-- A block is accepted exactly where its bytes are a block's: what the four tests let through are just the bytes that `block_bytes` writes.
-- Assumes nothing.
use Prim.Native.Nat.{ℕ, zero, suc, ◌+◌, ◌*◌, ◌≤◌, ◌<◌}
use mathlib.Core.Path.{◌≡◌, refl, sym, ap, ap₂, subst, ◌∙◌}
use mathlib.Core.Logic.{◌↔◌}
use mathlib.Core.List.{List, [], ◌∷◌, ◌++◌}
use native.Mathlib.Nat.{div-add-mod'}
use native.Mathlib.Decide.{dec_lt}
use native.Mathlib.Omega.{arith}
use lib.Dec.{lit<}
use lib.ListN.{length, get_or, drop, get_or-eq_default}
use lib.Seq.{ext_get_or, get_or-drop}
use Rattle.std.specs.Prelude.{Result, Ok, Err}
use Rattle.refusal.specs.Code.{accepted, verdict_of}
use Rattle.refusal.specs.declared.Refusal.{Refusal}
use Rattle.refusal.proofs.Apart.{refused-accepted}
use Rattle.util.specs.Words.{word_at, listed}
use Rattle.util.specs.Bytes.{two, flat, bytes_of}
use Rattle.util.specs.Lists.{tab}
use Rattle.util.proofs.Filled.{tab-at, tab-length, tab-same}
use Rattle.blocks.specs.Blocks.{block_bytes, IsBlock, count_field, version_of, body_of, block_of, read_block, block_refusal}
use Rattle.blocks.specs.declared.Block.{Block}
use Rattle.util.proofs.Bytes.{Bytes, word-of-bytes, length-bytes}
use Rattle.blocks.proofs.Refusals.{Taken, taken-exactly}

-- ---- the format
-- two bytes and their number
two_back : (x y : ℕ) → x < 256 → y < 256 → two (x * 256 + y) ≡ x ∷ y ∷ []
unfolding two
two_back x y h l = ap₂ (λ (a c : ℕ). a ∷ c ∷ []) (omega arith) (omega arith)

-- bytes are the bytes of their words
next_word : (x y : ℕ) (l : List ℕ) (k : ℕ) → word_at (x ∷ y ∷ l) (suc k) ≡ word_at l k
next_word x y l k =
    let even : 2 * suc k ≡ suc (suc (2 * k)) = omega arith in
    let odd : 2 * suc k + 1 ≡ suc (suc (2 * k + 1)) = omega arith in
    ap₂ (λ (i j : ℕ). get_or (x ∷ y ∷ l) i 0 * 256 + get_or (x ∷ y ∷ l) j 0) even odd

words_back : (n : ℕ) (l : List ℕ) → length l ≡ 2 * n → Bytes l → bytes_of (tab (word_at l) n) ≡ l
unfolding tab flat
words_back zero [] e h = refl
words_back zero (x ∷ l) e h = absurd (omega arith)
words_back (suc n) [] e h = absurd (omega arith)
words_back (suc n) (x ∷ []) e h = absurd (omega arith)
words_back (suc n) (x ∷ y ∷ l) e h =
    let rest : bytes_of (tab (λ k. word_at (x ∷ y ∷ l) (suc k)) n) ≡ l =
    ap bytes_of (tab-same (λ k. word_at (x ∷ y ∷ l) (suc k)) (word_at l) n (λ k _. next_word x y l k)) ∙ words_back n l (omega arith) (λ i. h (suc (suc i))) in
    ap₂ (λ (a c : List ℕ). a ++ c) (two_back x y (h 0) (h 1)) rest

-- the n words behind the first word's number
abbrev pub words_of : List ℕ → ℕ → List ℕ
words_of b n = tab (λ k. word_at (body_of b) (suc k)) n

-- what the tests let through has the format
formed : (b : List ℕ) → Bytes b → (first n : ℕ) → Taken b first n → b ≡ block_bytes first (words_of b n)
unfolding block_bytes flat tab
formed [] h first n t = absurd (omega (arith, t.counted.sized.counted))
formed (x ∷ []) h first n t = absurd (omega (arith, t.counted.sized.counted))
formed (x ∷ y ∷ []) h first n t = absurd (omega (arith, t.counted.sized.whole, t.counted.words))
formed (x ∷ y ∷ v ∷ body) h first n t =
    let l : 3 + 2 * length (words_of (x ∷ y ∷ v ∷ body) n) ≡ x * 256 + y = omega (arith, tab-length (λ k. word_at body (suc k)) n, t.counted.words) in
    let long : length body ≡ 2 * suc n = omega (arith, t.counted.sized.whole, t.counted.words) in
    let rest : two first ++ bytes_of (words_of (x ∷ y ∷ v ∷ body) n) ≡ body =
    ap (λ (m : ℕ). two m ++ bytes_of (words_of (x ∷ y ∷ v ∷ body) n)) (sym t.starts) ∙ words_back (suc n) body long (λ i. h (suc (suc (suc i)))) in
    sym (ap₂ (λ (a c : List ℕ). a ++ c) (ap two l ∙ two_back x y (h 0) (h 1)) (ap₂ ◌∷◌ (sym t.version) rest))

-- and what has the format is let through
block-length : (first : ℕ) (words : List ℕ) → length (block_bytes first words) ≡ 5 + 2 * length words
unfolding block_bytes two
block-length first words = omega (arith, length-bytes words)

block-count : (first : ℕ) (words : List ℕ) → count_field (block_bytes first words) ≡ 3 + 2 * length words
unfolding block_bytes two
block-count first words = div-add-mod' (3 + 2 * length words) 256

block-version : (first : ℕ) (words : List ℕ) → version_of (block_bytes first words) ≡ 1
unfolding block_bytes two
block-version first words = refl

-- the body's words are the first word's number and the words
block-word : (first : ℕ) (words : List ℕ) (k : ℕ) → word_at (body_of (block_bytes first words)) k ≡ listed (first ∷ words) k
unfolding block_bytes two flat
block-word first words k = word-of-bytes (first ∷ words) k

pub taken-if : (b : List ℕ) (first : ℕ) (words : List ℕ) → IsBlock b first words → Taken b first (length words)
taken-if b first words k = subst (λ (s : List ℕ). Taken s first (length words)) (sym k.bytes) (
    record {
      counted = record {
        sized = record { counted = omega (arith, block-length first words); whole = omega (arith, block-length first words, block-count first words) };
        words = block-count first words;
        some = k.some;
        few = k.few;
      };
      version = block-version first words;
      starts = block-word first words 0;
      among = k.among;
    }
    )

pub words_are : (b : List ℕ) (first : ℕ) (words : List ℕ) → IsBlock b first words → (k : ℕ) → word_at (body_of b) (suc k) ≡ listed words k
words_are b first words t k = ap (λ (s : List ℕ). word_at (body_of s) (suc k)) t.bytes ∙ block-word first words (suc k)

word_small : (b : List ℕ) → Bytes b → (n k : ℕ) → listed (words_of b n) k < 0x1_0000
word_small b h n k = go (dec_lt k n)
  where
    small : (l : List ℕ) → Bytes l → word_at l (suc k) < 0x1_0000
    small l g = omega (arith, g (2 * suc k), g (2 * suc k + 1))

    body : (l : List ℕ) → Bytes l → (i : ℕ) → Bytes (drop i l)
    body l g i j = rw get_or-drop (g (i + j))

    go : Dec (k < n) → listed (words_of b n) k < 0x1_0000
    go (yes l) = rw (tab-at (λ m. word_at (body_of b) (suc m)) n k 0 l) (small (body_of b) (body b h 3))
    go (no l) =
        let past : length (words_of b n) ≤ k = omega (arith, tab-length (λ m. word_at (body_of b) (suc m)) n) in
        rw (get_or-eq_default (words_of b n) 0 past) (lit< tt)

-- a block of these bytes is accepted with its first word and its words exactly where it has the format
module _ (b : List ℕ) (bytes : Bytes b) where
  pub accepted-with : (first : ℕ) (words : List ℕ) → ((read_block b ≡ Ok (block_of first (length words))) × (words ≡ words_of b (length words))) ↔ IsBlock b first words
  accepted-with first words = (λ e. to e, λ k. from k)
    where
      to : (read_block b ≡ Ok (block_of first (length words))) × (words ≡ words_of b (length words)) → IsBlock b first words
      to e =
          let t = (taken-exactly b first (length words)).0 e.0 in
          record {
            bytes = formed b bytes first (length words) t ∙ ap (block_bytes first) (sym e.1);
            some = t.counted.some;
            few = t.counted.few;
            among = t.among;
            each = λ k. subst (λ (l : List ℕ). listed l k < 0x1_0000) (sym e.1) (word_small b bytes (length words) k);
          }

      from : IsBlock b first words → (read_block b ≡ Ok (block_of first (length words))) × (words ≡ words_of b (length words))
      from k = (
        (taken-exactly b first (length words)).1 (taken-if b first words k),
        ext_get_or 0 words (words_of b (length words)) (sym (tab-length (λ m. word_at (body_of b) (suc m)) (length words))) (λ i l.
            sym (tab-at (λ m. word_at (body_of b) (suc m)) (length words) i 0 l ∙ words_are b first words k i)),
      )

  -- so it is accepted exactly where there are such a first word and such words
  pub accepted-exactly : (block_refusal b ≡ accepted) ↔ ((first : ℕ) × (words : List ℕ) × IsBlock b first words)
  accepted-exactly = (λ e. to (read_block b) refl e, λ k. ap verdict_of ((accepted-with k.0 k.1).1 k.2).0)
    where
      to : (k : Result Block Refusal) → read_block b ≡ k → block_refusal b ≡ accepted → (first : ℕ) × (words : List ℕ) × IsBlock b first words
      to (Ok k) e a =
          let n = k.count in
          let long : n ≡ length (words_of b n) = sym (tab-length (λ m. word_at (body_of b) (suc m)) n) in
          (k.first, words_of b n, (accepted-with k.first (words_of b n)).0 (e ∙ ap (λ (m : ℕ). Ok (block_of k.first m)) long, ap (words_of b) long))
      to (Err why) e a = absurd (refused-accepted (sym (ap verdict_of e) ∙ a))
