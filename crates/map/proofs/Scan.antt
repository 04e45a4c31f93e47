-- A scan of a map's words, one by one: each word that is not 0 starts a segment, held where it is odd, and adds its pages to the page
-- number; a word 0 adds none. `at_page` is what a function says of the held segment that starts at page p. Assumes nothing.
use Prim.Native.Nat.{ℕ, zero, suc, ◌+◌, ◌/◌, ◌%◌, ◌<◌}
use mathlib.Core.Path.{◌≡◌, refl, ap}
use mathlib.Core.Bool.{Bool, true, false, cond, ◌||◌}
use mathlib.Core.List.{List, [], ◌∷◌}
use native.Mathlib.Nat.{add-zero}
use native.Mathlib.Omega.{arith}
use borrow.Author.Tests.{eq-eqb, ne_eqb, eqb-true}
use lib.Dec.{eqb}
use Rattle.manager.specs.Lists.{any}
use Rattle.manager.proofs.Laws.Map.{decode_skip}
use Rattle.manager.specs.Map.{Segment, free, held, is_held, is_held_segment, decode}
use Rattle.manager.specs.Kind.{held_from}

-- one word: odd, even, 0
pub decode_held : (w : ℕ) (ws : List ℕ) → w % 2 ≡ 1 → decode (w ∷ ws) ≡ held (w / 2) ∷ decode ws
unfolding decode
decode_held w ws h = rw (ne_eqb w 0 (λ e. omega arith), eq-eqb (w % 2) 1 h)

pub decode_free : (w : ℕ) (ws : List ℕ) → (w % 2 ≡ 1 → ⊥) → (w ≡ 0 → ⊥) → decode (w ∷ ws) ≡ free (w / 2) ∷ decode ws
unfolding decode
decode_free w ws h k = rw (ne_eqb w 0 k, ne_eqb (w % 2) 1 h)

-- a segment is held where a word is odd
pub held_words : (ws : List ℕ) → any is_held_segment (decode ws) ≡ any is_held ws
unfolding decode any
held_words [] = refl
held_words (w ∷ ws) = go (eqb w 0) (is_held w) refl refl (held_words ws)
  where
    go : (z h : Bool) → eqb w 0 ≡ z → is_held w ≡ h → any is_held_segment (decode ws) ≡ any is_held ws
        → any is_held_segment (cond z (decode ws) (cond h (held (w / 2)) (free (w / 2)) ∷ decode ws)) ≡ (h || any is_held ws)
    go true true e g r = let a = eqb-true w 0 e in let b = eqb-true (w % 2) 1 g in absurd (omega arith)
    go true false e g r = r
    go false true e g r = refl
    go false false e g r = r

-- what a function g says of the held segment that starts at page p, from its pages and the segments behind it; 0 where none starts there
unfoldable pub at_page : (ℕ → List Segment → ℕ) → ℕ → ℕ → List Segment → ℕ
at_page g p q [] = 0
at_page g p q (free n ∷ s) = at_page g p (q + n) s
at_page g p q (held n ∷ s) = cond (eqb q p) (g n s) (at_page g p (q + n) s)

abbrev pub pages : ℕ → List Segment → ℕ
pages n s = n

pub held_is : (p q : ℕ) (s : List Segment) → at_page pages p q s ≡ held_from p q s
unfolding at_page held_from
held_is p q [] = refl
held_is p q (free n ∷ s) = held_is p (q + n) s
held_is p q (held n ∷ s) = ap (cond (eqb q p) n) (held_is p (q + n) s)

module _ (g : ℕ → List Segment → ℕ) (p : ℕ) where
  -- no segment starts at a page that is passed
  pub past : (q : ℕ) (s : List Segment) → p < q → at_page g p q s ≡ 0
  unfolding at_page
  past q [] h = refl
  past q (free n ∷ s) h = past (q + n) s (omega arith)
  past q (held n ∷ s) h = rw (ne_eqb q p (λ e. omega arith)) (past (q + n) s (omega arith))

  -- a word that does not start the segment sought adds its pages
  pub word_held : (q w : ℕ) (ws : List ℕ) → w % 2 ≡ 1 → (q ≡ p → ⊥)
      → at_page g p q (decode (w ∷ ws)) ≡ at_page g p (q + w / 2) (decode ws)
  unfolding at_page
  word_held q w ws h k = rw (decode_held w ws h, ne_eqb q p k)

  pub word_hit : (q w : ℕ) (ws : List ℕ) → w % 2 ≡ 1 → q ≡ p → at_page g p q (decode (w ∷ ws)) ≡ g (w / 2) (decode ws)
  unfolding at_page
  word_hit q w ws h k = rw (decode_held w ws h, eq-eqb q p k)

  pub word_free : (q w : ℕ) (ws : List ℕ) → (w % 2 ≡ 1 → ⊥)
      → at_page g p q (decode (w ∷ ws)) ≡ at_page g p (q + w / 2) (decode ws)
  unfolding at_page
  word_free q zero ws h = rw (decode_skip 0 ws refl, add-zero q)
  word_free q (suc w) ws h = rw (decode_free (suc w) ws h (λ e. omega arith))
