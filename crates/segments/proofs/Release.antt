-- Freeing a held segment that has no free follower: the segment before it is found, and the free pages join it where it is free. Assumes
-- nothing.
use Prim.Native.Nat.{ℕ, ◌+◌, ◌-◌, ◌*◌, ◌/◌, ◌%◌, ◌≤◌, ◌<◌}
use mathlib.Core.Path.{◌≡◌, refl, sym, ap, ◌∙◌}
use mathlib.Core.Bool.{Bool, true, false}
use mathlib.Core.List.{List, [], ◌∷◌, ◌++◌, append_assoc}
use native.Mathlib.Omega.{arith}
use lib.ListN.{length, get_or, set}
use lib.Dec.{eqb}
use borrow.Author.Tests.{eq-eqb, ne_eqb}
use Rattle.manager.specs.Map.{Segment, free, held, is_held_segment, size_of, words_of, draw, decode, total}
use Rattle.manager.proofs.Laws.Map.{mark_of, draw_append, draw_cons, length_draw, total_append, total_cons}
use Rattle.manager.proofs.Laws.Apart.{Well, well_at}
use Rattle.manager.specs.Kind.{held_from}
use Rattle.manager.specs.Paged.{apart, free+, lead, rest, reach_from, change_from}
use Rattle.manager.proofs.Laws.Paged.{onto, onto_append, onto_last, free_join, well_rest}
use Rattle.segments.specs.MapWords.{IsHeldAt, before_from}
use Rattle.segments.proofs.Words.{word_at, set_past, set_mark, join_words}
use Rattle.segments.proofs.Take.{draw_free}
use Rattle.segments.proofs.Stands.{Stands, stands, apart_rest, some, post_well, pre_long, word_is, within, held_is, reach_is, change_is}

-- ---- the segment before

-- r is the page of the last segment of `pre`, or q where there is none
data Behind (pre : List Segment) (at q r : ℕ) : Type 0 where
  first : pre ≡ [] → r ≡ q → Behind pre at q r
  after : (front : List Segment) (g : Segment) → pre ≡ front ++ (g ∷ []) → at + total front ≡ r → Behind pre at q r

behind_past : (g : Segment) (pre : List Segment) (at q r : ℕ) → Behind pre (at + size_of g) at r → Behind (g ∷ pre) at q r
unfolding total
behind_past g pre at q r (first e f) = after [] g (ap (λ (t : List Segment). g ∷ t) e) (omega arith)
behind_past g pre at q r (after front h e f) = after (g ∷ front) h (ap (λ (t : List Segment). g ∷ t) e) (omega (arith, total_cons g front))

before_at : (p q at : ℕ) (b : Bool) (pre : List Segment) (n : ℕ) (post : List Segment) → Well b (pre ++ (held n ∷ post)) → at + total pre ≡ p
    → Behind pre at q (before_from p q at (pre ++ (held n ∷ post)))
unfolding before_from total
before_at p q at b [] n post w e = rw (eq-eqb at p (omega arith)) (first refl refl)
before_at p q at b (g ∷ pre) n post w e =
    let ne : eqb at p ≡ false = ne_eqb at p (λ x. omega (arith, total_cons g pre, w.0)) in
    rw ne (behind_past g pre at q (before_from p at (at + size_of g) (pre ++ (held n ∷ post))) (before_at p at (at + size_of g) (is_held_segment g) pre n post w.2 (omega (arith, total_cons g pre))))

-- ---- the tests of `release`

-- free pages in place of a held segment that has no free follower
module _ (p : ℕ) (ws : List ℕ) (h : Stands p ws) (z : lead h.post ≡ 0) where
  post_apart : rest h.post ≡ h.post
  post_apart = apart_rest h.post (post_well p ws h) z

  freed_is : change_from p 0 0 (decode ws) ≡ onto h.pre (free+ h.pages h.post)
  freed_is = let e : h.pages + lead h.post - 0 ≡ h.pages = omega arith in change_is p ws h 0 ∙ rw (e, post_apart)

  post_held : Well false h.post
  post_held = rw post_apart at (well_rest h.post (post_well p ws h))

  -- no free segment before: its mark goes
  marked : set ws p (h.pages * 2) ≡ draw h.pre ++ draw (free+ h.pages h.post)
  marked =
      let v : h.pages * 2 + 0 ≡ h.pages * 2 = omega arith in
      rw (h.words, set_past (draw h.pre) (words_of h.pages 1 ++ draw h.post) 0 p (h.pages * 2) (omega (arith, pre_long p ws h)), ← v, set_mark h.pages 1 0 (draw h.post) (some p ws h), draw_free h.pages h.post post_held)

  alone_first : h.pre ≡ [] → set ws p (h.pages * 2) ≡ draw (change_from p 0 0 (decode ws))
  unfolding onto draw
  alone_first e = marked ∙ rw (freed_is, e)

  module _ (front : List Segment) (g : Segment) (e : h.pre ≡ front ++ (g ∷ [])) where
    front_well : Well true (front ++ (g ∷ held h.pages ∷ h.post))
    front_well = rw (append_assoc front (g ∷ []) (held h.pages ∷ h.post)) at (rw e at h.well)

    freed_last : change_from p 0 0 (decode ws) ≡ front ++ onto (g ∷ []) (free+ h.pages h.post)
    freed_last =
        freed_is
        ∙ ap (λ (u : List Segment). onto u (free+ h.pages h.post)) e
        ∙ onto_append front (g ∷ []) (free+ h.pages h.post)
        ∙ onto_last true front g g (free+ h.pages h.post) (held h.pages ∷ h.post) refl front_well

    g_some : 1 ≤ size_of g
    g_some = (well_at true front g (held h.pages ∷ h.post) front_well).0

    -- a held one stays
    alone_held : onto (g ∷ []) (free+ h.pages h.post) ≡ g ∷ free+ h.pages h.post → set ws p (h.pages * 2) ≡ draw (change_from p 0 0 (decode ws))
    alone_held o =
        marked
        ∙ sym (draw_append h.pre (free+ h.pages h.post))
        ∙ ap draw (ap (λ (u : List Segment). u ++ free+ h.pages h.post) e ∙ append_assoc front (g ∷ []) (free+ h.pages h.post) ∙ sym (freed_last ∙ ap (λ (u : List Segment). front ++ u) o))

    -- all the words from it on
    from_words : ws ≡ draw front ++ (words_of (size_of g) (mark_of g) ++ (words_of h.pages 1 ++ draw h.post))
    from_words =
        sym (draw_append h.pre (held h.pages ∷ h.post) ∙ ap (λ (u : List ℕ). draw h.pre ++ u) (draw_cons (held h.pages) h.post) ∙ sym h.words)
        ∙ ap draw (ap (λ (u : List Segment). u ++ (held h.pages ∷ h.post)) e ∙ append_assoc front (g ∷ []) (held h.pages ∷ h.post))
        ∙ draw_append front (g ∷ held h.pages ∷ h.post)
        ∙ ap (λ (u : List ℕ). draw front ++ u) (draw_cons g (held h.pages ∷ h.post) ∙ ap (λ (u : List ℕ). words_of (size_of g) (mark_of g) ++ u) (draw_cons (held h.pages) h.post))

    from_page : total front + size_of g ≡ p
    unfolding total
    from_page = omega (arith, ap total e, total_append front (g ∷ []), total_cons g [], h.page)

-- the words with free segments of j and m pages, of which the second was held
module _ (p q : ℕ) (ws f t : List ℕ) (j m : ℕ) (x : ws ≡ f ++ (words_of j 0 ++ (words_of m 1 ++ t))) (e : length f ≡ q) (d : p ≡ q + j) (oj : 1 ≤ j) (om : 1 ≤ m) where
  joined : set (set ws q (get_or ws q 0 + m * 2)) p 0 ≡ f ++ (words_of (j + m) 0 ++ t)
  joined =
      let v : get_or ws q 0 + m * 2 ≡ (j + m) * 2 + 0 = omega (arith, word_at f (words_of m 1 ++ t) ws j 0 q x e oj) in
      rw (
        v,
        x,
        d,
        set_past f (words_of j 0 ++ (words_of m 1 ++ t)) 0 q ((j + m) * 2 + 0) (omega arith),
        set_past f (set (words_of j 0 ++ (words_of m 1 ++ t)) 0 ((j + m) * 2 + 0)) j (q + j) 0 (omega arith),
        join_words j m 0 1 0 t oj om,
      )

-- what `release` needs, where the segment has so many pages and no free follower, and the one before it stands at page q
pub record Released (p q pages : ℕ) (ws : List ℕ) : Type 0 where
  pub before_in : q < length ws
  pub room : p + pages ≤ length ws
  pub some : 1 ≤ pages
  pub sum : get_or ws q 0 % 2 ≡ 0 → get_or ws q 0 / 2 + pages ≤ length ws
  pub join : get_or ws q 0 % 2 ≡ 0 → set (set ws q (get_or ws q 0 + pages * 2)) p 0 ≡ draw (change_from p 0 0 (decode ws))
  pub mark : (get_or ws q 0 % 2 ≡ 0 → ⊥) → set ws p (pages * 2) ≡ draw (change_from p 0 0 (decode ws))

module _ (p q : ℕ) (ws : List ℕ) (h : Stands p ws) (z : lead h.post ≡ 0) where
  room_is : p + h.pages ≤ length ws
  room_is = omega (arith, within p ws h)

  release_from : Behind h.pre 0 p q → Released p q h.pages ws
  unfolding onto
  release_from (first e f) =
      let odd : get_or ws q 0 ≡ h.pages * 2 + 1 = rw f (word_is p ws h) in
      record {
        before_in = omega (arith, room_is, some p ws h);
        room = room_is;
        some = some p ws h;
        sum = λ m. absurd (omega arith);
        join = λ m. absurd (omega arith);
        mark = λ m. alone_first p ws h z e;
      }
  release_from (after front (held j) e f) =
      let x = from_words p ws h z front (held j) e in
      let l : length (draw front) ≡ q = omega (arith, length_draw front) in
      let odd : get_or ws q 0 ≡ j * 2 + 1 = word_at (draw front) (words_of h.pages 1 ++ draw h.post) ws j 1 q x l (g_some p ws h z front (held j) e) in
      record {
        before_in = omega (arith, room_is, some p ws h, from_page p ws h z front (held j) e);
        room = room_is;
        some = some p ws h;
        sum = λ m. absurd (omega arith);
        join = λ m. absurd (omega arith);
        mark = λ m. alone_held p ws h z front (held j) e refl;
      }
  release_from (after front (free j) e f) =
      let x = from_words p ws h z front (free j) e in
      let l : length (draw front) ≡ q = omega (arith, length_draw front) in
      let oj = g_some p ws h z front (free j) e in
      let even : get_or ws q 0 ≡ j * 2 + 0 = word_at (draw front) (words_of h.pages 1 ++ draw h.post) ws j 0 q x l oj in
      let d : p ≡ q + j = omega (arith, from_page p ws h z front (free j) e) in
      record {
        before_in = omega (arith, room_is, some p ws h);
        room = room_is;
        some = some p ws h;
        sum = λ m. omega (arith, room_is);
        join = λ m.
            joined p q ws (draw front) (draw h.post) j h.pages x l d oj (some p ws h)
            ∙ sym (ap draw (freed_last p ws h z front (free j) e ∙ ap (λ (u : List Segment). front ++ u) (free_join j h.pages h.post))
            ∙ draw_append front (free+ (j + h.pages) h.post)
            ∙ ap (λ (u : List ℕ). draw front ++ u) (draw_free (j + h.pages) h.post (post_held p ws h z)));
        mark = λ m. absurd (m (omega arith));
      }

  pub release_here : q ≡ before_from p p 0 (decode ws) → Released p q h.pages ws
  release_here e =
      release_from
      (rw (e, h.says) (before_at p p 0 true h.pre h.pages h.post h.well (omega (arith, h.page))))

module _ {p : ℕ} {ws : List ℕ} (at : IsHeldAt apart p ws) (z : reach_from p 0 (decode ws) ≡ held_from p 0 (decode ws)) where
  abbrev before : ℕ
  before = before_from p p 0 (decode ws)

  abbrev pages : ℕ
  pages = held_from p 0 (decode ws)

  released : Released p before pages ws
  released =
      let h = stands p ws at.sound at.held in
      rw (sym (held_is p ws h)) at (release_here p before ws h (omega (arith, reach_is p ws h, held_is p ws h)) refl)

  pub before_in : before < length ws
  before_in = released.before_in

  pub held_in : p + pages ≤ length ws
  held_in = released.room

  pub before_sum : get_or ws before 0 % 2 ≡ 0 → get_or ws before 0 / 2 + pages ≤ length ws
  before_sum = released.sum

  module _ (q n : ℕ) (eq : q ≡ before) (en : n ≡ pages) where
    pub before_joins : get_or ws q 0 % 2 ≡ 0 → set (set ws q (get_or ws q 0 + n * 2)) p 0 ≡ draw (change_from p 0 0 (decode ws))
    before_joins m = rw (eq, en) (released.join (rw eq at m))

    pub freed_alone : (get_or ws q 0 % 2 ≡ 0 → ⊥) → set ws p (n * 2) ≡ draw (change_from p 0 0 (decode ws))
    freed_alone m = rw en (released.mark (rw eq at m))

pub ruleset releasing = (before_in, held_in, before_sum, before_joins, freed_alone)
