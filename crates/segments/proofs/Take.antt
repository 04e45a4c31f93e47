-- What a get does to the words: the free segment that the search finds is cut before the first page on the alignment, and again behind the
-- pages that are held. Assumes nothing.
use Rattle.std.specs.Prelude.{None, Some}
use Prim.Native.Nat.{ℕ, zero, suc, ◌+◌, ◌-◌, ◌*◌, ◌/◌, ◌≤◌}
use mathlib.Core.Path.{◌≡◌, refl, sym, ap, ◌∙◌}
use mathlib.Core.Bool.{Bool, true, false, cond}
use mathlib.Core.List.{List, [], ◌∷◌, ◌++◌, append_assoc}
use native.Mathlib.Omega.{arith}
use native.Mathlib.Nat.{add-zero}
use lib.Dec.{eqb, leb, ltb}
use lib.ListN.{length, get_or, set, length-append, length-set}
use borrow.Author.Tests.{leb-true, eq-eqb, ne_eqb}
use Rattle.arith.specs.Round.{align_up}
use Rattle.arith.proofs.Laws.Round.{align_ge}
use Rattle.manager.specs.Map.{Segment, free, held, size_of, words_of, draw, decode, tiled, sound_map, total}
use Rattle.manager.proofs.Laws.Map.{Sized, sized_decoded, sound_tiled, redraw, draw_append, draw_cons, length_draw, length_words, total_cons}
use Rattle.manager.proofs.Laws.Apart.{Well, well_decoded, well_at, well_after}
use Rattle.manager.specs.Kind.{on_place, allocate}
use Rattle.manager.specs.Paged.{apart, free+, room_from, paged, place_from}
use Rattle.manager.proofs.Laws.Paged.{room_in, first_fit, fit_is, take_none, free_none, free_front, well_free}
use Rattle.manager.specs.declared.Need.{Need}
use Rattle.segments.specs.MapWords.{cutting, taking, segment_from, HasRoom}
use Rattle.segments.proofs.Words.{word_at, words_in_lem, cutting_words}

-- free pages before a map that does not start with a free segment
pub draw_free : (m : ℕ) (s : List Segment) → Well false s → draw (free+ m s) ≡ words_of m 0 ++ draw s
draw_free zero s w = ap draw (free_none s)
draw_free (suc m) s w = ap draw (free_front (suc m) s w (omega arith)) ∙ draw_cons (free (suc m)) s

-- ---- the free segment that a get takes pages of, and the page that it takes

abbrev pub gap_at : Need → ℕ → ℕ → ℕ
gap_at w first i = align_up w.every (first + i) - (first + i)

module _ (w : Need) (first : ℕ) where
  placed : (at : ℕ) (s : List Segment) → place_from w (first + at) s ≡ on_place (segment_from w first at s) (λ i. Some (align_up w.every (first + i))) None
  unfolding place_from segment_from
  placed at [] = refl
  placed at (held n ∷ s) = let e : first + at + n ≡ first + (at + n) = omega arith in rw e (placed (at + n) s)
  placed at (free n ∷ s) =
      let e : first + at + n ≡ first + (at + n) = omega arith in
      rw e (go (leb w.pages (room_from w.every (first + at) n)) (placed (at + n) s))
    where
      go : (b : Bool) → place_from w (first + (at + n)) s ≡ on_place (segment_from w first (at + n) s) (λ i. Some (align_up w.every (first + i))) None
          → cond b (Some (align_up w.every (first + at))) (place_from w (first + (at + n)) s)
          ≡ on_place (cond b (Some at) (segment_from w first (at + n) s)) (λ i. Some (align_up w.every (first + i))) None
      go true h = refl
      go false h = h

  -- the map before it, its pages, and the map behind it; the pages that are taken lie in it
  record Found (at i : ℕ) (s : List Segment) : Type 0 where
    pre : List Segment
    pages : ℕ
    post : List Segment
    is : s ≡ pre ++ (free pages ∷ post)
    page : at + total pre ≡ i
    room : w.pages ≤ room_from w.every (first + i) pages
    gives : first_fit w (first + at) s
        ≡ pre ++ free+ (gap_at w first i) (held w.pages ∷ free+ (first + i + pages - (align_up w.every (first + i) + w.pages)) post)

  past : {at i : ℕ} {s : List Segment} (g : Segment) → first_fit w (first + at) (g ∷ s) ≡ g ∷ first_fit w (first + (at + size_of g)) s
      → Found (at + size_of g) i s → Found at i (g ∷ s)
  past {at} {i} {s} g e h =
      record {
        pre = g ∷ h.pre;
        pages = h.pages;
        post = h.post;
        is = ap (λ (t : List Segment). g ∷ t) h.is;
        page = omega (arith, h.page, total_cons g h.pre);
        room = h.room;
        gives = e ∙ ap (λ (t : List Segment). g ∷ t) h.gives;
      }

  found : (at : ℕ) (s : List Segment) (i : ℕ) → segment_from w first at s ≡ Some i → Found at i s
  unfolding segment_from first_fit total
  found at [] i e = absurd (let z : ◌≡◌ {A = ℕ} 0 1 = cc in omega arith)
  found at (held n ∷ s) i e =
      let f : first + at + n ≡ first + (at + n) = omega arith in
      past (held n) (rw f) (found (at + n) s i e)
  found at (free n ∷ s) i e = go (leb w.pages (room_from w.every (first + at) n)) refl (λ e'. found (at + n) s i e')
    where
      go : (b : Bool) → leb w.pages (room_from w.every (first + at) n) ≡ b → (segment_from w first (at + n) s ≡ Some i → Found (at + n) i s)
          → Found at i (free n ∷ s)
      go true f ih =
          let a : Some at ≡ Some i = rw f at e in
          let q : at ≡ i = cc in
          record {
            pre = [];
            pages = n;
            post = s;
            is = refl;
            page = add-zero at ∙ q;
            room = rw (← q) (leb-true w.pages (room_from w.every (first + at) n) f);
            gives = rw (← q, f);
          }
      go false f ih =
          let z : first + at + n ≡ first + (at + n) = omega arith in
          past (free n) (rw (f, z)) (ih (rw f at e))

-- ---- its words

-- a free segment of n pages behind a prefix: cut, and cut again
module _ (p t ws : List ℕ) (n i gap k : ℕ) (x : ws ≡ p ++ (words_of n 0 ++ t)) (e : length p ≡ i) (o : 1 ≤ k) (l : gap + k ≤ n) where
  taking_words : get_or ws i 0 / 2 ≡ n → taking i gap k ws ≡ p ++ (words_of gap 0 ++ (words_of k 1 ++ (words_of (n - gap - k) 0 ++ t)))
  unfolding taking
  taking_words v = rw v (go gap refl)
    where
      go : (g : ℕ) → gap ≡ g
          → cond (eqb gap 0) (cutting i n k 1 ws) (cutting (i + gap) (n - gap) k 1 (cutting i n gap 0 ws))
          ≡ p ++ (words_of gap 0 ++ (words_of k 1 ++ (words_of (n - gap - k) 0 ++ t)))
      go zero q =
          let b : n - 0 ≡ n = omega arith in
          rw (q, b) (cutting_words p t ws n 0 i x e k 1 o (omega arith))
      go (suc g) q =
          let y : cutting i n gap 0 ws ≡ (p ++ words_of gap 0) ++ (words_of (n - gap) 0 ++ t) =
          cutting_words p t ws n 0 i x e gap 0 (omega arith) (omega arith) ∙ sym (append_assoc p (words_of gap 0) (words_of (n - gap) 0 ++ t)) in
          let z : length (p ++ words_of gap 0) ≡ i + gap = length-append p (words_of gap 0) ∙ rw (length_words gap 0, e) in
          rw (ne_eqb gap 0 (λ z. omega arith))
          (cutting_words (p ++ words_of gap 0) t (cutting i n gap 0 ws) (n - gap) 0 (i + gap) y z k 1 o (omega arith)
          ∙ append_assoc p (words_of gap 0) (words_of k 1 ++ (words_of (n - gap - k) 0 ++ t)))

-- the stores of `take_at`
module _ (i gap k : ℕ) (ws : List ℕ) (pages : ℕ) (e : pages ≡ get_or ws i 0 / 2) where
  pub taking_low : gap ≡ 0 → (out : List ℕ) → out ≡ cutting i pages k 1 ws → out ≡ taking i gap k ws
  unfolding taking
  taking_low z out x = rw (eq-eqb gap 0 z, ← e) x

  pub taking_high : (gap ≡ 0 → ⊥) → (mid out : List ℕ) → mid ≡ cutting i pages gap 0 ws → out ≡ cutting (i + gap) (pages - gap) k 1 mid
      → out ≡ taking i gap k ws
  unfolding taking
  taking_high z mid out y x = rw (ne_eqb gap 0 z, ← e, ← y) x

-- a cut keeps the number of words
pub cut_long : (i pages k mark : ℕ) (ws out : List ℕ) → out ≡ cutting i pages k mark ws → length out ≡ length ws
unfolding cutting
cut_long i pages k mark ws out x = ap length x ∙ go (ltb k pages)
  where
    go : (b : Bool) → length (cond b (set (set ws i (k * 2 + mark)) (i + k) ((pages - k) * 2)) (set ws i (k * 2 + mark))) ≡ length ws
    go true = simp length-set refl
    go false = simp length-set refl

sized_behind : (a b : List Segment) → Sized (a ++ b) → Sized b
sized_behind [] b z = z
sized_behind (g ∷ a) b z = sized_behind a b z.1

-- the segment that the search finds has room
pub has_room : (w : Need) (first i : ℕ) (ws : List ℕ) → tiled ws ≡ true → Some i ≡ segment_from w first 0 (decode ws) → HasRoom w first ws i
has_room w first i ws ok e =
    let h = found w first 0 (decode ws) i (sym e) in
    let x : ws ≡ draw h.pre ++ (words_of h.pages 0 ++ draw h.post) =
    sym (redraw ws ok) ∙ ap draw h.is ∙ draw_append h.pre (free h.pages ∷ h.post) ∙ ap (λ (u : List ℕ). draw h.pre ++ u) (draw_cons (free h.pages) h.post) in
    let l : length (draw h.pre) ≡ i = omega (arith, length_draw h.pre, h.page) in
    let o : 1 ≤ h.pages = (sized_behind h.pre (free h.pages ∷ h.post) (rw h.is at (sized_decoded ws ok))).0 in
    let c : get_or ws i 0 / 2 ≡ h.pages = omega (arith, word_at (draw h.pre) (draw h.post) ws h.pages 0 i x l o) in
    record {
      within = omega (arith, words_in_lem (draw h.pre) (draw h.post) ws h.pages 0 i x l);
      room = λ k. omega (arith, room_in w.every (first + i) h.pages w.pages k h.room, align_ge w.every (first + i));
      place = e;
    }

-- WHERE THE SEARCH FINDS THE SEGMENT AT PAGE i: the page that is taken, what stands there, and the words after it is taken
pub record Took (w : Need) (first i : ℕ) (ws : List ℕ) : Type 0 where
  pub place : Some (first + i + gap_at w first i) ≡ place_from w first (decode ws)
  pub held : taking i (gap_at w first i) w.pages ws ≡ draw (allocate paged w first (decode ws))

pub took : (w : Need) (first i : ℕ) (ws : List ℕ) → sound_map apart ws ≡ true → 1 ≤ w.pages → Some i ≡ segment_from w first 0 (decode ws) → Took w first i ws
took w first i ws ok o e =
    let h = found w first 0 (decode ws) i (sym e) in
    let k = w.pages in
    let gap = gap_at w first i in
    let up = align_ge w.every (first + i) in
    let a : align_up w.every (first + i) ≡ first + i + gap = omega arith in
    let p = draw h.pre in
    let t = draw h.post in
    let n = h.pages in
    let f : first + 0 ≡ first = add-zero first in
    let r : gap + k ≤ n = omega (arith, room_in w.every (first + i) n k o h.room) in
    let b : first + i + n - (align_up w.every (first + i) + k) ≡ n - gap - k = omega arith in
    let v : Well false h.post = (well_at true h.pre (free n) h.post (rw h.is at (well_decoded ws ok))).1 in
    let u : Well false (held k ∷ free+ (n - gap - k) h.post) = (o, refl, well_free (n - gap - k) h.post (well_after false h.post v)) in
    let l : length p ≡ i = omega (arith, length_draw h.pre, h.page) in
    let x : ws ≡ p ++ (words_of n 0 ++ t) =
    sym (redraw ws (sound_tiled apart ws ok)) ∙ ap draw h.is ∙ draw_append h.pre (free n ∷ h.post) ∙ ap (λ (u : List ℕ). p ++ u) (draw_cons (free n) h.post) in
    let c : get_or ws i 0 / 2 ≡ n = omega (arith, word_at p t ws n 0 i x l (omega arith)) in
    let y : draw (allocate paged w first (decode ws)) ≡ p ++ (words_of gap 0 ++ (words_of k 1 ++ (words_of (n - gap - k) 0 ++ t))) =
    ap draw (fit_is w first (decode ws) o ∙ rw (f, b) at h.gives)
    ∙ draw_append h.pre (free+ gap (held k ∷ free+ (n - gap - k) h.post))
    ∙ ap (λ (u : List ℕ). p ++ u)
    (draw_free gap (held k ∷ free+ (n - gap - k) h.post) u
    ∙ ap (λ (u : List ℕ). words_of gap 0 ++ u)
    (draw_cons (held k) (free+ (n - gap - k) h.post) ∙ ap (λ (u : List ℕ). words_of k 1 ++ u) (draw_free (n - gap - k) h.post v))) in
    record {
      place = sym (rw (f, ← e, a) at (placed w first 0 (decode ws)));
      held = taking_words p t ws n i gap k x l o r c ∙ sym y;
    }

-- with the gap that a call gave
module _ (w : Need) (first i : ℕ) (ws : List ℕ) (t : Took w first i ws) (gap : ℕ) (e : gap ≡ gap_at w first i) where
  pub page_is : Some (first + i + gap) ≡ place_from w first (decode ws)
  page_is = rw e t.place

  pub words_are : (out : List ℕ) → out ≡ taking i gap w.pages ws → out ≡ draw (allocate paged w first (decode ws))
  words_are out x = x ∙ rw e t.held

-- where nothing is found, nothing changes
pub untaken : (ws : List ℕ) (w : Need) (first : ℕ) → sound_map apart ws ≡ true → None ≡ segment_from w first 0 (decode ws)
    → (None ≡ place_from w first (decode ws)) × (ws ≡ draw (allocate paged w first (decode ws)))
untaken ws w first ok e =
    let z : place_from w first (decode ws) ≡ None = rw (add-zero first, ← e) at (placed w first 0 (decode ws)) in
    (sym z, sym (ap draw (take_none w first (decode ws) z) ∙ redraw ws (sound_tiled apart ws ok)))
