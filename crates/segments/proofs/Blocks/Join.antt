-- Two halves put together. A half is wholly free exactly where its first word is 2 x its pages; where both are, the first word of the block
-- is 2 x the pages of both, and the word between them 0. Assumes nothing.
use Prim.Native.Nat.{ℕ, ◌+◌, ◌*◌, ◌/◌, ◌≤◌}
use mathlib.Core.Path.{◌≡◌, refl, sym, ap, ◌∙◌}
use mathlib.Core.Bool.{Bool, true, false, ◌&&◌, and-false}
use mathlib.Core.List.{List, [], ◌∷◌, ◌++◌, append-nil}
use native.Mathlib.Omega.{arith}
use native.Mathlib.Nat.{add-zero}
use lib.ListN.{length, get_or, set, take, drop, length-drop, take-append-drop}
use lib.Seq.{length-take-le, get_or-take, get_or-drop}
use Rattle.manager.specs.Map.{Segment, free, words_of, draw, decode, tiled, total}
use Rattle.manager.specs.Halves.{is_free, join}
use Rattle.manager.proofs.Laws.Map.{redraw, total_decoded, walk_start, walk_end, next_here, says_free, draw_append}
use Rattle.manager.proofs.Laws.Halves.Cut.{free_is}
use Rattle.segments.proofs.Words.{word_at, join_words}

-- ---- a block of n pages that is wholly free

module _ (ws : List ℕ) (n : ℕ) (ok : tiled ws ≡ true) (long : length ws ≡ n) (o : 1 ≤ n) where
  free_words : decode ws ≡ free n ∷ [] → ws ≡ words_of n 0
  unfolding draw
  free_words e = sym (redraw ws ok) ∙ ap draw e ∙ append-nil (words_of n 0)

  -- by its first word
  first_free : get_or ws 0 0 ≡ n * 2 → decode ws ≡ free n ∷ []
  first_free e =
      let h = walk_start ws ok in
      let p : get_or ws 0 0 / 2 ≡ n = omega arith in
      says_free ws 0 h (omega arith) (omega arith)
      ∙ ap (λ (s : List Segment). free (get_or ws 0 0 / 2) ∷ s) (walk_end ws (0 + get_or ws 0 0 / 2) (next_here ws 0 h (omega arith)) (omega arith))
      ∙ ap (λ (k : ℕ). free k ∷ []) p

  free_first : is_free (decode ws) ≡ true → get_or ws 0 0 ≡ n * 2
  free_first e =
      let x : decode ws ≡ free n ∷ [] = free_is (decode ws) e ∙ ap (λ (k : ℕ). free k ∷ []) (total_decoded ws ok ∙ long) in
      word_at [] [] ws n 0 0 (free_words x ∙ sym (append-nil (words_of n 0))) refl o ∙ add-zero (n * 2)

  -- and where that is another
  other_first : (get_or ws 0 0 ≡ n * 2 → ⊥) → is_free (decode ws) ≡ false
  other_first ne = go (is_free (decode ws)) refl
    where
      go : (b : Bool) → is_free (decode ws) ≡ b → b ≡ false
      go true e = absurd (ne (free_first e))
      go false e = refl

both_free : (h : ℕ) → draw (join (free h ∷ []) (free h ∷ [])) ≡ words_of (h + h) 0 ++ []
unfolding join is_free total draw
both_free h = let z : h + 0 ≡ h = omega arith in rw z

-- ---- TWO HALVES OF h PAGES

module _ (ws : List ℕ) (h : ℕ) (o : 1 ≤ h) (long : length ws ≡ h + h) (tl : tiled (take h ws) ≡ true) (th : tiled (drop h ws) ≡ true) where
  abbrev low : List Segment
  low = decode (take h ws)

  abbrev high : List Segment
  high = decode (drop h ws)

  low_long : length (take h ws) ≡ h
  low_long = length-take-le h ws (omega arith)

  high_long : length (drop h ws) ≡ h
  high_long = omega (arith, length-drop h ws)

  low_word : get_or (take h ws) 0 0 ≡ get_or ws 0 0
  low_word = get_or-take h ws 0 0 (omega arith)

  high_word : get_or (drop h ws) 0 0 ≡ get_or ws h 0
  high_word = get_or-drop h ws 0 0 ∙ rw add-zero

  -- not both wholly free: they stay
  apart : (is_free low && is_free high) ≡ false → ws ≡ draw (join low high)
  unfolding join
  apart e =
      rw e
      (sym (take-append-drop h ws)
      ∙ sym (ap (λ (u : List ℕ). u ++ drop h ws) (redraw (take h ws) tl))
      ∙ sym (ap (λ (u : List ℕ). draw low ++ u) (redraw (drop h ws) th))
      ∙ sym (draw_append low high))

  pub join_held_low : (get_or ws 0 0 ≡ h * 2 → ⊥) → ws ≡ draw (join low high)
  join_held_low ne = apart (rw (other_first (take h ws) h tl low_long o (λ e. ne (sym low_word ∙ e))))

  pub join_held_high : (get_or ws h 0 ≡ h * 2 → ⊥) → ws ≡ draw (join low high)
  join_held_high ne = apart (rw (other_first (drop h ws) h th high_long o (λ e. ne (sym high_word ∙ e))) (and-false (is_free low)))

  -- both wholly free: they are one
  pub join_free : get_or ws 0 0 ≡ h * 2 → get_or ws h 0 ≡ h * 2 → set (set ws 0 (h * 2 * 2)) h 0 ≡ draw (join low high)
  join_free e f =
      let a : low ≡ free h ∷ [] = first_free (take h ws) h tl low_long o (low_word ∙ e) in
      let b : high ≡ free h ∷ [] = first_free (drop h ws) h th high_long o (high_word ∙ f) in
      let x : ws ≡ words_of h 0 ++ (words_of h 0 ++ []) =
      sym (take-append-drop h ws)
      ∙ ap (λ (u : List ℕ). u ++ drop h ws) (free_words (take h ws) h tl low_long o a)
      ∙ ap (λ (u : List ℕ). words_of h 0 ++ u) (free_words (drop h ws) h th high_long o b ∙ sym (append-nil (words_of h 0))) in
      let v : h * 2 * 2 ≡ (h + h) * 2 + 0 = omega arith in
      let y : draw (join low high) ≡ words_of (h + h) 0 ++ [] = rw (a, b) (both_free h) in
      ap (λ (u : List ℕ). set (set u 0 (h * 2 * 2)) h 0) x ∙ rw v (join_words h h 0 0 0 [] o o) ∙ sym y

pub ruleset joining = (join_held_low, join_held_high, join_free)
