-- The held segment at a page, in the segments and in the words: the map before it, its pages, and what stands behind it; and the words
-- after it has taken in a free follower. Assumes nothing.
use Prim.Native.Nat.{ℕ, zero, suc, ◌+◌, ◌-◌, ◌*◌, ◌%◌, ◌≤◌, ◌<◌}
use mathlib.Core.Path.{◌≡◌, refl, sym, ap, ◌∙◌}
use mathlib.Core.Bool.{true}
use mathlib.Core.List.{List, [], ◌∷◌, ◌++◌, append_assoc}
use native.Mathlib.Omega.{arith}
use lib.ListN.{length, get_or, set, length-append}
use Rattle.manager.specs.Map.{Segment, free, held, words_of, draw, decode, sound_map, total}
use Rattle.manager.proofs.Laws.Map.{Sized, sound_tiled, redraw, draw_append, draw_cons, length_draw, length_words}
use Rattle.manager.proofs.Laws.Apart.{Well, well_sized, well_decoded, well_at}
use Rattle.manager.specs.Kind.{held_from}
use Rattle.manager.specs.Paged.{apart, free+, held+, lead, rest, reach_from, change_from}
use Rattle.manager.proofs.Laws.Paged.{onto, onto_last, spot, held_at_lem, reach_at, change_at, free_none}
use Rattle.segments.specs.MapWords.{Extends}
use Rattle.segments.proofs.Words.{word_at, words_in_lem, set_past, join_words}

-- a map without a free start
pub apart_rest : (s : List Segment) → Well true s → lead s ≡ 0 → rest s ≡ s
unfolding lead rest
apart_rest [] w e = refl
apart_rest (free n ∷ s) w e = absurd (omega (arith, w.0))
apart_rest (held n ∷ s) w e = refl

held_some : (k : ℕ) (s : List Segment) → 1 ≤ k → held+ k s ≡ held k ∷ s
held_some zero s o = absurd (omega arith)
held_some (suc k) s o = refl

-- what stands behind a segment: nothing, a held segment, or a free one
pub data Follower (post : List Segment) (ws : List ℕ) (next : ℕ) : Type 0 where
  none : length ws ≡ next → lead post ≡ 0 → Follower post ws next
  kept : next < length ws → get_or ws next 0 % 2 ≡ 1 → lead post ≡ 0 → Follower post ws next
  joins : get_or ws next 0 ≡ lead post * 2 + 0 → 1 ≤ lead post → next + lead post ≤ length ws → draw post ≡ words_of (lead post) 0 ++ draw (rest post) → Follower post ws next

follower : (f ws : List ℕ) (next : ℕ) (post : List Segment) → ws ≡ f ++ draw post → length f ≡ next → Well true post → Follower post ws next
unfolding lead rest draw
follower f ws next [] x e w = none (rw x (simp length-append (omega arith))) refl
follower f ws next (held n ∷ s) x e w =
    kept (omega (arith, words_in_lem f (draw s) ws n 1 next x e, w.0)) (omega (arith, word_at f (draw s) ws n 1 next x e w.0)) refl
follower f ws next (free n ∷ s) x e w = joins (word_at f (draw s) ws n 0 next x e w.0) w.0 (omega (arith, words_in_lem f (draw s) ws n 0 next x e)) refl

-- the held segment at page p, in the segments and in the words
pub record Stands (p : ℕ) (ws : List ℕ) : Type 0 where
  pub pre : List Segment
  pub pages : ℕ
  pub post : List Segment
  pub says : decode ws ≡ pre ++ (held pages ∷ post)
  pub well : Well true (pre ++ (held pages ∷ post))
  pub page : total pre ≡ p
  pub words : ws ≡ draw pre ++ (words_of pages 1 ++ draw post)

pub stands : (p : ℕ) (ws : List ℕ) → sound_map apart ws ≡ true → 1 ≤ held_from p 0 (decode ws) → Stands p ws
stands p ws ok l =
    let h = spot p 0 (decode ws) l in
    record {
      pre = h.pre;
      pages = h.pages;
      post = h.post;
      says = h.is;
      well = rw h.is at (well_decoded ws ok);
      page = omega (arith, h.page);
      words = sym (redraw ws (sound_tiled apart ws ok)) ∙ ap draw h.is ∙ draw_append h.pre (held h.pages ∷ h.post) ∙ ap (λ (u : List ℕ). draw h.pre ++ u) (draw_cons (held h.pages) h.post);
    }

module _ (p : ℕ) (ws : List ℕ) (h : Stands p ws) where
  sized : Sized (h.pre ++ (held h.pages ∷ h.post))
  sized = well_sized true (h.pre ++ (held h.pages ∷ h.post)) h.well

  pub some : 1 ≤ h.pages
  some = (well_at true h.pre (held h.pages) h.post h.well).0

  pub post_well : Well true h.post
  post_well = (well_at true h.pre (held h.pages) h.post h.well).1

  pub pre_long : length (draw h.pre) ≡ p
  pre_long = length_draw h.pre ∙ h.page

  pub word_is : get_or ws p 0 ≡ h.pages * 2 + 1
  word_is = word_at (draw h.pre) (draw h.post) ws h.pages 1 p h.words pre_long some

  pub within : p + (h.pages + length (draw h.post)) ≡ length ws
  within = words_in_lem (draw h.pre) (draw h.post) ws h.pages 1 p h.words pre_long

  pub held_is : held_from p 0 (decode ws) ≡ h.pages
  held_is = ap (held_from p 0) h.says ∙ held_at_lem p 0 0 h.pre h.pages h.post sized (omega (arith, h.page))

  pub reach_is : reach_from p 0 (decode ws) ≡ h.pages + lead h.post
  reach_is = ap (reach_from p 0) h.says ∙ reach_at p 0 0 h.pre h.pages h.post sized (omega (arith, h.page))

  pub change_is : (k : ℕ) → change_from p k 0 (decode ws) ≡ onto h.pre (held+ k (free+ (h.pages + lead h.post - k) (rest h.post)))
  change_is k = ap (change_from p k 0) h.says ∙ change_at p k 0 h.pre h.pages h.post sized (omega (arith, h.page))

  -- with k pages held, the map before stays
  pub resize_is : (k : ℕ) → 1 ≤ k → change_from p k 0 (decode ws) ≡ h.pre ++ (held k ∷ free+ (h.pages + lead h.post - k) (rest h.post))
  unfolding onto
  resize_is k o =
      let t = free+ (h.pages + lead h.post - k) (rest h.post) in
      change_is k
      ∙ ap (onto h.pre) (held_some k t o)
      ∙ onto_last true h.pre (held k) (held h.pages) t h.post refl h.well

  -- with the most that it can have
  pub grown : change_from p (h.pages + lead h.post) 0 (decode ws) ≡ h.pre ++ (held (h.pages + lead h.post) ∷ rest h.post)
  grown =
      let z : h.pages + lead h.post - (h.pages + lead h.post) ≡ 0 = omega arith in
      resize_is (h.pages + lead h.post) (omega (arith, some))
      ∙ rw (z, free_none (rest h.post))

  grown_words : draw (h.pre ++ (held (h.pages + lead h.post) ∷ rest h.post)) ≡ draw h.pre ++ (words_of (h.pages + lead h.post) 1 ++ draw (rest h.post))
  grown_words =
      draw_append h.pre (held (h.pages + lead h.post) ∷ rest h.post)
      ∙ ap (λ (u : List ℕ). draw h.pre ++ u) (draw_cons (held (h.pages + lead h.post)) (rest h.post))

  pub behind : Follower h.post ws (p + h.pages)
  behind =
      follower (draw h.pre ++ words_of h.pages 1) ws (p + h.pages) h.post
      (h.words ∙ sym (append_assoc (draw h.pre) (words_of h.pages 1) (draw h.post)))
      (simp (length-append, length_words) (omega (arith, pre_long)))
      post_well

  -- nothing to take in
  pub alone : sound_map apart ws ≡ true → lead h.post ≡ 0 → Extends p ws h.pages ws
  alone ok e =
      let r : h.pages + lead h.post ≡ h.pages = omega arith in
      let g : change_from p h.pages 0 (decode ws) ≡ h.pre ++ (held h.pages ∷ rest h.post) = rw r at grown in
      record {
        pages = sym (reach_is ∙ r);
        words = sym (ap draw (g ∙ rw (apart_rest h.post post_well e) (sym h.says)) ∙ redraw ws (sound_tiled apart ws ok));
      }

  -- a free follower
  pub takes_in : (w : ℕ) → w ≡ h.pages + lead h.post → 1 ≤ lead h.post → draw h.post ≡ words_of (lead h.post) 0 ++ draw (rest h.post)
      → Extends p ws w (set (set ws p (w * 2 + 1)) (p + h.pages) 0)
  takes_in w e o x =
      let n = h.pages in
      let m = lead h.post in
      let f = draw h.pre in
      let t = draw (rest h.post) in
      let y : ws ≡ f ++ (words_of n 1 ++ (words_of m 0 ++ t)) = h.words ∙ ap (λ (u : List ℕ). f ++ (words_of n 1 ++ u)) x in
      let z : set (set ws p ((n + m) * 2 + 1)) (p + n) 0 ≡ f ++ (words_of (n + m) 1 ++ t) = rw (
        y,
        set_past f (words_of n 1 ++ (words_of m 0 ++ t)) 0 p ((n + m) * 2 + 1) (omega (arith, pre_long)),
        set_past f (set (words_of n 1 ++ (words_of m 0 ++ t)) 0 ((n + m) * 2 + 1)) n (p + n) 0 (omega (arith, pre_long)),
        join_words n m 1 0 1 t some o,
      ) in
      record { pages = e ∙ sym reach_is; words = rw e (z ∙ sym (ap draw grown ∙ grown_words)) }
