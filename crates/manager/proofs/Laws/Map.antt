-- A tiled map's words and its segments say the same: drawing and reading are inverse, and a map is tiled exactly where each of its
-- segments has a page. How the segments stand, which is each kind's own, is not asked for: so these laws are for maps of every kind.
-- All by one induction over the words, or over the segments. Assumes nothing.
use Prim.Native.Nat.{ℕ, zero, suc, ◌+◌, ◌-◌, ◌*◌, ◌/◌, ◌%◌, ◌≤◌, ◌<◌, zero-le}
use mathlib.Core.Path.{◌≡◌, refl, sym, ap, ◌∙◌}
use mathlib.Core.Bool.{Bool, true, false, cond}
use mathlib.Core.List.{List, [], ◌∷◌, ◌++◌, append_assoc}
use native.Mathlib.Omega.{arith}
use native.Mathlib.Numerals.{add-one, sub-one}
use lib.ListN.{length, replicate, get_or, drop, length-append, length-replicate, length-drop}
use lib.Seq.{drop-cons, drop-drop, drop-length}
use lib.Dec.{eqb, leb}
use borrow.Author.Tests.{leb-true, le-leb, eqb-true, ne_eqb}
use Rattle.arith.proofs.Laws.Layout.{both_true}
use Rattle.manager.specs.Map.{size_of, Segment, free, held, is_held_segment, words_of, draw, is_held, segment_of, decode, tiled_from, tiled, sound_map, total}

abbrev pub bit : Bool → ℕ
bit true = 1
bit false = 0

abbrev pub mark_of : Segment → ℕ
mark_of g = bit (is_held_segment g)

-- each segment has a page
abbrev pub Sized : List Segment → Type 0
Sized [] = Unit {0}
Sized (g ∷ s) = (1 ≤ size_of g) × Sized s

-- the word of a segment's first page
pub draw_cons : (g : Segment) (s : List Segment) → draw (g ∷ s) ≡ words_of (size_of g) (mark_of g) ++ draw s
unfolding draw
draw_cons (free n) s = refl
draw_cons (held n) s = refl

pub total_cons : (g : Segment) (s : List Segment) → total (g ∷ s) ≡ size_of g + total s
unfolding total
total_cons (free n) s = refl
total_cons (held n) s = refl

-- drawings and totals of lists put together
pub draw_append : (s t : List Segment) → draw (s ++ t) ≡ draw s ++ draw t
unfolding draw
draw_append [] t = refl
draw_append (g ∷ s) t =
    draw_cons g (s ++ t)
    ∙ ap (λ (l : List ℕ). words_of (size_of g) (mark_of g) ++ l) (draw_append s t)
    ∙ sym (append_assoc (words_of (size_of g) (mark_of g)) (draw s) (draw t))
    ∙ ap (λ (l : List ℕ). l ++ draw t) (sym (draw_cons g s))

pub total_append : (s t : List Segment) → total (s ++ t) ≡ total s + total t
unfolding total
total_append [] t = omega arith
total_append (g ∷ s) t = omega (arith, total_cons g (s ++ t), total_cons g s, total_append s t)

pub length_words : (n mark : ℕ) → length (words_of n mark) ≡ n
length_words zero mark = refl
length_words (suc n) mark = ap suc (length-replicate n 0)

-- a word for each page
pub length_draw : (s : List Segment) → length (draw s) ≡ total s
unfolding draw total
length_draw [] = refl
length_draw (free n ∷ s) = simp (length-append, length_words, length_draw s)
length_draw (held n ∷ s) = simp (length-append, length_words, length_draw s)

-- ---- what a word says

bit_held : (w : ℕ) → bit (is_held w) ≡ w % 2
bit_held w = go (w % 2) (omega arith)
  where
    go : (m : ℕ) → m < 2 → bit (eqb m 1) ≡ m
    go zero h = refl
    go (suc zero) h = refl
    go (suc (suc m)) h = absurd (omega arith)

words_of_lem : (w : ℕ) → 2 ≤ w → words_of (w / 2) (bit (is_held w)) ≡ w ∷ replicate (w / 2 - 1) 0
words_of_lem w h = go (w / 2) refl
  where
    go : (n : ℕ) → w / 2 ≡ n → words_of n (bit (is_held w)) ≡ w ∷ replicate (n - 1) 0
    go zero e = absurd (omega arith)
    go (suc n) e =
        let v : suc n * 2 + bit (is_held w) ≡ w = omega (arith, bit_held w) in
        rw (v, sub-one)

pub size_of_lem : (w : ℕ) → size_of (segment_of w) ≡ w / 2
size_of_lem w = go (is_held w)
  where
    go : (b : Bool) → size_of (cond b (held (w / 2)) (free (w / 2))) ≡ w / 2
    go true = refl
    go false = refl

pub held_of : (w : ℕ) → is_held_segment (segment_of w) ≡ is_held w
held_of w = go (is_held w)
  where
    go : (b : Bool) → is_held_segment (cond b (held (w / 2)) (free (w / 2))) ≡ b
    go true = refl
    go false = refl

pub not_zero : (w : ℕ) → 1 ≤ w → eqb w 0 ≡ false
not_zero w h = ne_eqb w 0 (λ e. omega arith)

-- what a tiled map's first word gives, and a word within a segment
pub head_parts : (w : ℕ) (ws : List ℕ) → tiled_from 0 (w ∷ ws) ≡ true → (2 ≤ w) × (tiled_from (w / 2 - 1) ws ≡ true)
unfolding tiled_from
head_parts w ws e = let p = both_true (leb 2 w) (tiled_from (w / 2 - 1) ws) e in (leb-true 2 w p.0, p.1)

pub rest_parts : (due : ℕ) (w : ℕ) (ws : List ℕ) → tiled_from (suc due) (w ∷ ws) ≡ true → (w ≡ 0) × (tiled_from due ws ≡ true)
unfolding tiled_from
rest_parts due w ws e = let p = both_true (eqb w 0) (tiled_from due ws) e in (eqb-true w 0 p.0, p.1)

pub no_end : (due : ℕ) → tiled_from (suc due) [] ≡ true → ⊥
unfolding tiled_from
no_end due e = let z : ◌≡◌ {A = ℕ} 0 1 = cc in omega arith

-- reading past a word
pub decode_start : (w : ℕ) (ws : List ℕ) → 1 ≤ w → decode (w ∷ ws) ≡ segment_of w ∷ decode ws
unfolding decode
decode_start w ws h = rw (not_zero w h)

pub decode_skip : (w : ℕ) (ws : List ℕ) → w ≡ 0 → decode (w ∷ ws) ≡ decode ws
unfolding decode
decode_skip w ws e = rw e

-- drawing what a word says
draw_start : (w : ℕ) (s : List Segment) → 2 ≤ w → draw (segment_of w ∷ s) ≡ w ∷ (replicate (w / 2 - 1) 0 ++ draw s)
draw_start w s h =
    let e : words_of (size_of (segment_of w)) (mark_of (segment_of w)) ≡ words_of (w / 2) (bit (is_held w)) = rw (size_of_lem w, held_of w) in
    draw_cons (segment_of w) s ∙ ap (λ (t : List ℕ). t ++ draw s) (e ∙ words_of_lem w h)

-- ---- from words to segments

-- the words are the drawing of what they say
redraw_from : (due : ℕ) (ws : List ℕ) → tiled_from due ws ≡ true → ws ≡ replicate due 0 ++ draw (decode ws)
unfolding decode draw
redraw_from zero [] e = refl
redraw_from (suc due) [] e = absurd (no_end due e)
redraw_from zero (w ∷ ws) e =
    let p = head_parts w ws e in
    let big : 2 ≤ w = p.0 in
    ap (λ (t : List ℕ). w ∷ t) (redraw_from (w / 2 - 1) ws p.1)
    ∙ sym (draw_start w (decode ws) big)
    ∙ ap draw (sym (decode_start w ws (omega arith)))
redraw_from (suc due) (w ∷ ws) e =
    let p = rest_parts due w ws e in
    rw p.0 (ap (λ (t : List ℕ). 0 ∷ t) (redraw_from due ws p.1))

-- each segment that they say has a page
sized_start : (w : ℕ) (s : List Segment) → 2 ≤ w → Sized s → Sized (segment_of w ∷ s)
sized_start w s h v = rw (size_of_lem w) (omega arith, v)

sized_from : (due : ℕ) (ws : List ℕ) → tiled_from due ws ≡ true → Sized (decode ws)
unfolding decode
sized_from zero [] e = tt
sized_from (suc due) [] e = absurd (no_end due e)
sized_from zero (w ∷ ws) e =
    let p = head_parts w ws e in
    rw (decode_start w ws (omega (arith, p.0))) (sized_start w (decode ws) p.0 (sized_from (w / 2 - 1) ws p.1))
sized_from (suc due) (w ∷ ws) e =
    let p = rest_parts due w ws e in
    rw p.0 (sized_from due ws p.1)

-- ---- from segments to words

is_held_lem : (n : ℕ) (h : Bool) → is_held (n * 2 + bit h) ≡ h
is_held_lem n true = let e : (n * 2 + 1) % 2 ≡ 1 = omega arith in rw e
is_held_lem n false = let e : (n * 2 + 0) % 2 ≡ 0 = omega arith in rw e

has_pages : (n : ℕ) (h : Bool) → (n * 2 + bit h) / 2 ≡ n
has_pages n true = omega arith
has_pages n false = omega arith

segment_is : (g : Segment) → segment_of (size_of g * 2 + mark_of g) ≡ g
segment_is (free n) = rw (is_held_lem n false, has_pages n false)
segment_is (held n) = rw (is_held_lem n true, has_pages n true)

past_zeros : (n : ℕ) (t : List ℕ) → decode (replicate n 0 ++ t) ≡ decode t
unfolding decode
past_zeros zero t = refl
past_zeros (suc n) t = past_zeros n t

tiled_zeros : (n : ℕ) (t : List ℕ) → tiled_from n (replicate n 0 ++ t) ≡ tiled_from 0 t
unfolding tiled_from
tiled_zeros zero t = refl
tiled_zeros (suc n) t = tiled_zeros n t

-- the words of one segment, before others
decode_words : (n : ℕ) (h : Bool) (t : List ℕ) → 1 ≤ n → decode (words_of n (bit h) ++ t) ≡ segment_of (n * 2 + bit h) ∷ decode t
decode_words zero h t o = absurd (omega arith)
decode_words (suc n) h t o =
    decode_start (suc n * 2 + bit h) (replicate n 0 ++ t) (omega arith)
    ∙ ap (λ (s : List Segment). segment_of (suc n * 2 + bit h) ∷ s) (past_zeros n t)

tiled_words : (n : ℕ) (h : Bool) (t : List ℕ) → 1 ≤ n → tiled_from 0 (words_of n (bit h) ++ t) ≡ tiled_from 0 t
unfolding tiled_from
tiled_words zero h t o = absurd (omega arith)
tiled_words (suc n) h t o =
    rw (le-leb 2 (suc n * 2 + bit h) (omega arith), has_pages (suc n) h, sub-one) (tiled_zeros n t)

tiled_from_lem : (s : List Segment) → Sized s → tiled_from 0 (draw s) ≡ true
unfolding tiled_from draw
tiled_from_lem [] w = refl
tiled_from_lem (g ∷ s) w =
    ap (tiled_from 0) (draw_cons g s)
    ∙ tiled_words (size_of g) (is_held_segment g) (draw s) w.0
    ∙ tiled_from_lem s w.1

-- ---- of whole maps: THE LAWS

-- drawing what a tiled map says gives its words
pub redraw : (ws : List ℕ) → tiled ws ≡ true → draw (decode ws) ≡ ws
unfolding tiled
redraw ws e = sym (redraw_from 0 ws e)

-- reading a drawing of segments gives them
pub reread : (s : List Segment) → Sized s → decode (draw s) ≡ s
unfolding decode draw
reread [] w = refl
reread (g ∷ s) w =
    ap decode (draw_cons g s)
    ∙ decode_words (size_of g) (is_held_segment g) (draw s) w.0
    ∙ rw (segment_is g) (ap (λ (t : List Segment). g ∷ t) (reread s w.1))

-- a tiled map's segments have pages, and a drawing of such is tiled
pub sized_decoded : (ws : List ℕ) → tiled ws ≡ true → Sized (decode ws)
unfolding tiled
sized_decoded ws e = sized_from 0 ws e

pub tiled_drawn : (s : List Segment) → Sized s → tiled (draw s) ≡ true
unfolding tiled
tiled_drawn s w = tiled_from_lem s w

-- its segments have a page for each word
pub total_decoded : (ws : List ℕ) → tiled ws ≡ true → total (decode ws) ≡ length ws
total_decoded ws e = sym (length_draw (decode ws)) ∙ ap length (redraw ws e)

-- SOUND MAPS: tiled, by segments that stand as their kind says; and a drawing of such is sound
module _ (proper : List Segment → Bool) where
  pub sound_tiled : (ws : List ℕ) → sound_map proper ws ≡ true → tiled ws ≡ true
  unfolding sound_map
  sound_tiled ws e = (both_true (tiled ws) (proper (decode ws)) e).0

  pub sound_proper : (ws : List ℕ) → sound_map proper ws ≡ true → proper (decode ws) ≡ true
  unfolding sound_map
  sound_proper ws e = (both_true (tiled ws) (proper (decode ws)) e).1

  pub sound_drawn : (s : List Segment) → Sized s → proper s ≡ true → sound_map proper (draw s) ≡ true
  unfolding sound_map
  sound_drawn s w e = rw (tiled_drawn s w, reread s w) e

-- ---- a walk from segment to segment along the words

-- past the words that end a segment
skip : (due : ℕ) (ws : List ℕ) → tiled_from due ws ≡ true
    → (due ≤ length ws) × (tiled_from 0 (drop due ws) ≡ true) × (decode (drop due ws) ≡ decode ws)
skip zero ws e = (zero-le, e, refl)
skip (suc due) [] e = absurd (no_end due e)
skip (suc due) (w ∷ ws) e =
    let p = rest_parts due w ws e in
    let q = skip due ws p.1 in
    (omega arith, q.1, q.2 ∙ sym (decode_skip w ws p.0))

-- a segment, or the map's end, starts at page i
pub record Here (ws : List ℕ) (i : ℕ) : Type 0 where
  pub within : i ≤ length ws
  pub ok : tiled_from 0 (drop i ws) ≡ true

-- what stands there, and where the next one starts
pub record Step (ws : List ℕ) (i w : ℕ) : Type 0 where
  pub big : 2 ≤ w
  pub next : Here ws (i + w / 2)
  pub says : decode (drop i ws) ≡ segment_of w ∷ decode (drop (i + w / 2) ws)

pub walk_start : (ws : List ℕ) → tiled ws ≡ true → Here ws 0
unfolding tiled
walk_start ws e = record { within = zero-le; ok = e }

pub walk_step : (ws : List ℕ) (i : ℕ) → Here ws i → i < length ws → Step ws i (get_or ws i 0)
walk_step ws i h lt =
    let w = get_or ws i 0 in
    let cut : drop i ws ≡ w ∷ drop (i + 1) ws = rw (add-one, drop-cons ws i 0) in
    let p = head_parts w (drop (i + 1) ws) (rw cut at h.ok) in
    let q = skip (w / 2 - 1) (drop (i + 1) ws) p.1 in
    let big : 2 ≤ w = p.0 in
    let e : i + 1 + (w / 2 - 1) ≡ i + w / 2 = omega arith in
    let d : drop (w / 2 - 1) (drop (i + 1) ws) ≡ drop (i + w / 2) ws = drop-drop (w / 2 - 1) (i + 1) ws ∙ rw e in
    record {
      big = big;
      next = record { within = omega (arith, length-drop (i + 1) ws, q.0); ok = rw d at q.1 };
      says = ap decode cut ∙ decode_start w (drop (i + 1) ws) (omega arith) ∙ ap (λ (t : List Segment). segment_of w ∷ t) (sym q.2 ∙ ap decode d);
    }

pub walk_end : (ws : List ℕ) (i : ℕ) → Here ws i → length ws ≤ i → decode (drop i ws) ≡ []
unfolding decode
walk_end ws i h l = let e : i ≡ length ws = omega (arith, h.within) in rw (e, drop-length)

-- the segment of a word, by its mark
free_word : (w : ℕ) → w % 2 ≡ 0 → segment_of w ≡ free (w / 2)
free_word w e = rw e

held_word_lem : (w : ℕ) → (w % 2 ≡ 0 → ⊥) → segment_of w ≡ held (w / 2)
held_word_lem w ne = let e : w % 2 ≡ 1 = omega arith in rw e

-- a place of the walk, what stands there, and the next
module _ (ws : List ℕ) (i : ℕ) (h : Here ws i) (l : i < length ws) where
  pub says_free : get_or ws i 0 % 2 ≡ 0 → decode (drop i ws) ≡ free (get_or ws i 0 / 2) ∷ decode (drop (i + get_or ws i 0 / 2) ws)
  says_free e = (walk_step ws i h l).says ∙ ap (λ (g : Segment). g ∷ decode (drop (i + get_or ws i 0 / 2) ws)) (free_word (get_or ws i 0) e)

  pub says_held : (get_or ws i 0 % 2 ≡ 0 → ⊥) → decode (drop i ws) ≡ held (get_or ws i 0 / 2) ∷ decode (drop (i + get_or ws i 0 / 2) ws)
  says_held e = (walk_step ws i h l).says ∙ ap (λ (g : Segment). g ∷ decode (drop (i + get_or ws i 0 / 2) ws)) (held_word_lem (get_or ws i 0) e)

  pub next_here : Here ws (i + get_or ws i 0 / 2)
  next_here = (walk_step ws i h l).next

  pub next_in : i + get_or ws i 0 / 2 ≤ length ws
  next_in = next_here.within

  pub next_past : i < i + get_or ws i 0 / 2
  next_past = omega (arith, (walk_step ws i h l).big)
