-- Stores into the words of segments: past a prefix, among the words that are 0, and where a segment is cut in two or two become
-- one. Assumes nothing.
use Prim.Native.Nat.{ℕ, zero, suc, ◌+◌, ◌-◌, ◌*◌, ◌≤◌, ◌<◌}
use mathlib.Core.Path.{◌≡◌, refl, sym, ◌∙◌}
use mathlib.Core.List.{List, [], ◌∷◌, ◌++◌, append_assoc}
use mathlib.Core.Logic.{⊎_elim}
use native.Mathlib.Omega.{arith}
use native.Mathlib.Nat.{add-zero, eq-or-lt_of_le}
use lib.ListN.{length, replicate, get_or, set, length-append, length-replicate, replicate-append-replicate}
use lib.Seq.{set_at, get_or_at}
use borrow.Author.Tests.{lt-ltb, le-ltb}
use Rattle.manager.specs.Map.{words_of}
use Rattle.manager.proofs.Laws.Map.{length_words}
use Rattle.segments.specs.MapWords.{cutting}

-- a store past a prefix
pub set_past : (p q : List ℕ) (j m v : ℕ) → m ≡ length p + j → set (p ++ q) m v ≡ p ++ set q j v
set_past [] q j m v e = let z : m ≡ j = omega arith in rw z
set_past (x ∷ p) q j m v e = let z : m ≡ suc (length p + j) = omega arith in rw (z, set_past p q j (length p + j) v refl)

-- a store among words 0
set_zero : (k m n v : ℕ) (t : List ℕ) → n ≡ k + suc m → set (replicate n 0 ++ t) k v ≡ replicate k 0 ++ (v ∷ (replicate m 0 ++ t))
set_zero zero m n v t e = let z : n ≡ suc m = omega arith in rw z
set_zero (suc k) m n v t e = let z : n ≡ suc (k + suc m) = omega arith in rw (z, set_zero k m (k + suc m) v t refl)

-- another mark, or another number, in a segment's first word
pub set_mark : (n a b : ℕ) (t : List ℕ) → 1 ≤ n → set (words_of n a ++ t) 0 (n * 2 + b) ≡ words_of n b ++ t
set_mark zero a b t o = absurd (omega arith)
set_mark (suc n) a b t o = refl

-- a segment cut in two, of which the second is free
cut_words : (k m n a c : ℕ) (t : List ℕ) → 1 ≤ k → 1 ≤ m → n ≡ k + m
    → set (set (words_of n a ++ t) 0 (k * 2 + c)) k (m * 2) ≡ words_of k c ++ (words_of m 0 ++ t)
cut_words zero m n a c t hk hm e = absurd (omega arith)
cut_words (suc k) zero n a c t hk hm e = absurd (omega arith)
cut_words (suc k) (suc m) n a c t hk hm e =
    let z : n ≡ suc (k + suc m) = omega arith in
    rw (z, set_zero k m (k + suc m) (suc m * 2) t refl, add-zero (suc m * 2))

-- two segments become one
pub join_words : (n m a b c : ℕ) (t : List ℕ) → 1 ≤ n → 1 ≤ m → set (set (words_of n a ++ (words_of m b ++ t)) 0 ((n + m) * 2 + c)) n 0 ≡ words_of (n + m) c ++ t
join_words zero m a b c t hn hm = absurd (omega arith)
join_words (suc n) zero a b c t hn hm = absurd (omega arith)
join_words (suc n) (suc m) a b c t hn hm =
    let z : suc n + suc m ≡ suc (n + suc m) = omega arith in
    rw (z, set_at (replicate n 0) (suc m * 2 + b) (replicate m 0 ++ t) 0 n (length-replicate n 0), ← replicate-append-replicate {A = ℕ} n (suc m) 0, append_assoc (replicate n 0) (replicate (suc m) 0) t)

-- the stores of `cut`
module _ (i pages k mark : ℕ) (ws : List ℕ) where
  pub cutting_part : k < pages → set (set ws i (k * 2 + mark)) (i + k) ((pages - k) * 2) ≡ cutting i pages k mark ws
  unfolding cutting
  cutting_part l = rw (lt-ltb k pages l)

  pub cutting_whole : pages ≤ k → set ws i (k * 2 + mark) ≡ cutting i pages k mark ws
  unfolding cutting
  cutting_whole l = rw (le-ltb k pages l)

-- words that have a segment of n pages, marked or not, behind a prefix
module _ (p t ws : List ℕ) (n mark i : ℕ) (x : ws ≡ p ++ (words_of n mark ++ t)) (e : length p ≡ i) where
  pub word_at : 1 ≤ n → get_or ws i 0 ≡ n * 2 + mark
  word_at h = rw x (go n h)
    where
      go : (n : ℕ) → 1 ≤ n → get_or (p ++ (words_of n mark ++ t)) i 0 ≡ n * 2 + mark
      go zero h = absurd (omega arith)
      go (suc n) h = get_or_at p (suc n * 2 + mark) (replicate n 0 ++ t) 0 i e

  pub words_in_lem : i + (n + length t) ≡ length ws
  words_in_lem = rw x (simp (length-append, length_words) (omega arith))

  -- the first k of its pages are a segment of their own, and the others a free one
  pub cutting_words : (k c : ℕ) → 1 ≤ k → k ≤ n → cutting i n k c ws ≡ p ++ (words_of k c ++ (words_of (n - k) 0 ++ t))
  cutting_words k c o l = ⊎_elim whole part (eq-or-lt_of_le l)
    where
      whole : k ≡ n → cutting i n k c ws ≡ p ++ (words_of k c ++ (words_of (n - k) 0 ++ t))
      whole q =
          let z : k - k ≡ 0 = omega arith in
          sym (cutting_whole i n k c ws (omega arith))
          ∙ rw (x, ← q, z, set_past p (words_of k mark ++ t) 0 i (k * 2 + c) (omega arith), set_mark k mark c t o)

      part : k < n → cutting i n k c ws ≡ p ++ (words_of k c ++ (words_of (n - k) 0 ++ t))
      part q =
          sym (cutting_part i n k c ws q)
          ∙ rw (
            x,
            set_past p (words_of n mark ++ t) 0 i (k * 2 + c) (omega arith),
            set_past p (set (words_of n mark ++ t) 0 (k * 2 + c)) k (i + k) ((n - k) * 2) (omega arith),
            cut_words k (n - k) n mark c t o (omega arith) (omega arith),
          )
