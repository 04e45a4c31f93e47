-- In a tiled map a word is odd exactly where a held segment starts, and its page is the word's place: so one word says what a scan of the
-- words before it finds (`one_word`). Assumes nothing.
use Prim.Native.Nat.{ℕ, zero, suc, ◌+◌, ◌-◌, ◌*◌, ◌/◌, ◌%◌, ◌≤◌, ◌<◌}
use mathlib.Core.Path.{◌≡◌, refl, sym, ap, ◌∙◌}
use mathlib.Core.Bool.{Bool, true, false, cond, not, ◌&&◌}
use mathlib.Core.List.{List, [], ◌∷◌}
use native.Mathlib.Omega.{arith}
use borrow.Author.Tests.{eq-eqb, ne_eqb, eqb-true, eqb-false, leb-true, leb-false}
use lib.Dec.{eqb, leb}
use lib.ListN.{length, get_or}
use Rattle.std.specs.Prelude.{Option, None, Some}
use Rattle.manager.specs.Lists.{any}
use Rattle.manager.proofs.Laws.Map.{head_parts, rest_parts, no_end, decode_start, decode_skip, size_of_lem, total_cons, total_decoded, sized_decoded, redraw, Sized, sound_tiled, sound_proper}
use Rattle.manager.proofs.Laws.Kinds.{Keeps, keeps}
use Rattle.manager.specs.Map.{Segment, free, segment_of, is_held, is_held_segment, draw, decode, tiled_from, tiled, sound_map, total}
use Rattle.manager.specs.Kind.{Kind, held_from}
use Rattle.manager.specs.Record.{region_of}
use Rattle.manager.specs.Region.{kind, layout_of, pages_of, first_page_of, map_words, segments, held_at, any_held}
use Rattle.manager.specs.Sound.{sound}
use Rattle.manager.specs.Sound.{Sited}
use Rattle.manager.proofs.Laws.Sound.{sited, tiled_map, map_long}
use Rattle.manager.specs.declared.Manager.{Manager}
use Rattle.arith.specs.declared.Layout.{Layout}
use Rattle.manager.specs.declared.Region.{Region}
use Rattle.map.specs.Word.{held_word, held_word_at, some_pages, one_free}
use Rattle.std.proofs.lemmas.Option.{none-some, same_Some}
use Rattle.map.proofs.Scan.{at_page, pages, held_is, past, word_held, word_hit, word_free}

-- a word that is said or not
pub said_some : (x : ℕ) → x % 2 ≡ 1 → 1 < x → Some (x / 2) ≡ some_pages (cond (is_held x) (x / 2) 0)
said_some x h l = rw (eq-eqb (x % 2) 1 h, ne_eqb (x / 2) 0 (λ e. omega arith))

pub said_small : (x : ℕ) → x ≤ 1 → None ≡ some_pages (cond (is_held x) (x / 2) 0)
said_small x h = go (is_held x)
  where
    go : (b : Bool) → None ≡ some_pages (cond b (x / 2) 0)
    go true = rw (eq-eqb (x / 2) 0 (omega arith))
    go false = refl

pub said_free : (x : ℕ) → (x % 2 ≡ 1 → ⊥) → None ≡ some_pages (cond (is_held x) (x / 2) 0)
said_free x h = rw (ne_eqb (x % 2) 1 h)

pub ruleset says_pages = (said_some, said_small, said_free)

-- pages that are said are some
pub said_is : (n : ℕ) (o : Option ℕ) → o ≡ some_pages n → (k : ℕ) → o ≡ Some k → (k ≡ n) × (n ≡ 0 → ⊥)
said_is n o q k p = go (eqb n 0) refl (sym q ∙ p)
  where
    go : (b : Bool) → eqb n 0 ≡ b → cond b None (Some n) ≡ Some k → (k ≡ n) × (n ≡ 0 → ⊥)
    go true e x = absurd (none-some k x)
    go false e x = (sym (same_Some n k x), eqb-false n 0 e)

pub said_none : (n : ℕ) → some_pages n ≡ None → 1 ≤ n → ⊥
said_none n x l = none-some n (sym x ∙ rw (ne_eqb n 0 (λ e. omega arith)))

none_here : (i k : ℕ) → held_word [] k ≡ at_page pages (i + k) (i + 0) (decode [])
unfolding at_page decode
none_here i zero = refl
none_here i (suc k) = refl

-- one word, and those behind it: a word 0 within a segment, or the first of a segment
module _ (w : ℕ) (ws : List ℕ) (i : ℕ) where
  inner_here : (due : ℕ) → w ≡ 0 → held_word (w ∷ ws) 0 ≡ at_page pages (i + 0) (i + suc due) (decode (w ∷ ws))
  inner_here due e =
      rw e (sym (ap (at_page pages (i + 0) (i + suc due)) (decode_skip 0 ws refl) ∙ past pages (i + 0) (i + suc due) (decode ws) (omega arith)))

  inner_next : (due k : ℕ) → w ≡ 0 → held_word ws k ≡ at_page pages (suc i + k) (suc i + due) (decode ws)
      → held_word (w ∷ ws) (suc k) ≡ at_page pages (i + suc k) (i + suc due) (decode (w ∷ ws))
  inner_next due k e h =
      let a : suc i + k ≡ i + suc k = omega arith in
      let b : suc i + due ≡ i + suc due = omega arith in
      (rw (a, b) at h) ∙ ap (at_page pages (i + suc k) (i + suc due)) (sym (decode_skip w ws e))

  module _ (big : 2 ≤ w) where
    first_here : (b : Bool) → is_held w ≡ b → cond b (w / 2) 0 ≡ at_page pages (i + 0) (i + 0) (decode (w ∷ ws))
    first_here true e = sym (word_hit pages (i + 0) (i + 0) w ws (eqb-true (w % 2) 1 e) refl)
    first_here false e =
        sym
        (word_free pages (i + 0) (i + 0) w ws (eqb-false (w % 2) 1 e)
        ∙ past pages (i + 0) (i + 0 + w / 2) (decode ws) (omega arith))

    first_by : (b : Bool) (k : ℕ) → is_held w ≡ b → at_page pages (i + suc k) (i + 0 + w / 2) (decode ws) ≡ at_page pages (i + suc k) (i + 0) (decode (w ∷ ws))
    first_by true k e = sym (word_held pages (i + suc k) (i + 0) w ws (eqb-true (w % 2) 1 e) (λ x. omega arith))
    first_by false k e = sym (word_free pages (i + suc k) (i + 0) w ws (eqb-false (w % 2) 1 e))

    first_next : (k : ℕ) → held_word ws k ≡ at_page pages (suc i + k) (suc i + (w / 2 - 1)) (decode ws)
        → held_word (w ∷ ws) (suc k) ≡ at_page pages (i + suc k) (i + 0) (decode (w ∷ ws))
    first_next k h =
        let a : suc i + k ≡ i + suc k = omega arith in
        let b : suc i + (w / 2 - 1) ≡ i + 0 + w / 2 = omega arith in
        (rw (a, b) at h) ∙ first_by (is_held w) k refl

-- the word at place k of the words from word i on, of which the first `due` belong to a segment that was begun
told : (due : ℕ) (ws : List ℕ) (i k : ℕ) → tiled_from due ws ≡ true → held_word ws k ≡ at_page pages (i + k) (i + due) (decode ws)
told zero [] i k e = none_here i k
told (suc due) [] i k e = absurd (no_end due e)
told (suc due) (w ∷ ws) i zero e = inner_here w ws i due (rest_parts due w ws e).0
told (suc due) (w ∷ ws) i (suc k) e =
    let p = rest_parts due w ws e in
    inner_next w ws i due k p.0 (told due ws (suc i) k p.1)
told zero (w ∷ ws) i zero e = first_here w ws i (head_parts w ws e).0 (is_held w) refl
told zero (w ∷ ws) i (suc k) e =
    let p = head_parts w ws e in
    first_next w ws i p.0 k (told (w / 2 - 1) ws (suc i) k p.1)

-- of a map that starts at page `first`
pub one_word : (ws : List ℕ) (first k : ℕ) → tiled ws ≡ true → held_word ws k ≡ held_from (first + k) first (decode ws)
unfolding tiled
one_word ws first k e =
    let b : first + 0 ≡ first = omega arith in
    (rw b at (told 0 ws first k e)) ∙ held_is (first + k) first (decode ws)

-- no segment starts before the first page
before_first : (p first : ℕ) (s : List Segment) → p < first → held_from p first s ≡ 0
before_first p first s h = sym (held_is p first s) ∙ past pages p first s h

-- a region whose map is sound: the word of a page says the segment that starts there
pub held_of : (m : List ℕ) (r : Region) → Sited m r → (l : Layout) → l ≡ layout_of r → (a n : ℕ) → n ≡ held_word_at m l r.page a → n ≡ held_at m r a
held_of m r s l el a n en = en ∙ rw (el, ne_eqb r.page 0 (λ z. omega (arith, z, s.laid.page_low))) (starts (eqb (a % r.page) 0))
  where
    reads : (b : Bool) → leb (first_page_of r) (a / r.page) ≡ b
        → cond b (held_word (map_words m r) (a / r.page - first_page_of r)) 0 ≡ held_from (a / r.page) (first_page_of r) (segments m r)
    reads true e =
        let h = leb-true (first_page_of r) (a / r.page) e in
        let x : first_page_of r + (a / r.page - first_page_of r) ≡ a / r.page = omega arith in
        rw x at (one_word (map_words m r) (first_page_of r) (a / r.page - first_page_of r) (tiled_map m r s))
    reads false e = sym (before_first (a / r.page) (first_page_of r) (segments m r) (leb-false (first_page_of r) (a / r.page) e))

    starts : (b : Bool) → cond (b && leb (first_page_of r) (a / r.page)) (held_word (map_words m r) (a / r.page - first_page_of r)) 0
        ≡ cond b (held_from (a / r.page) (first_page_of r) (segments m r)) 0
    starts true = reads (leb (first_page_of r) (a / r.page)) refl
    starts false = refl

-- NOTHING HELD, in a map of every kind: its first word says a free segment of all n pages. One that does leaves no page for another
sized_none : (s : List Segment) → Sized s → total s ≡ 0 → s ≡ []
sized_none [] w e = refl
sized_none (g ∷ s) w e = absurd (omega (arith, w.0, total_cons g s))

free_first : (w : ℕ) (ws : List ℕ) → tiled (w ∷ ws) ≡ true → w ≡ 2 * suc (length ws) → any is_held_segment (decode (w ∷ ws)) ≡ false
unfolding tiled any
free_first w ws e h =
    let d : decode (w ∷ ws) ≡ segment_of w ∷ decode ws = decode_start w ws (omega arith) in
    let z : Sized (segment_of w ∷ decode ws) = rw d at (sized_decoded (w ∷ ws) e) in
    let t : total (segment_of w ∷ decode ws) ≡ suc (length ws) = rw d at (total_decoded (w ∷ ws) e) in
    let n : decode ws ≡ [] = sized_none (decode ws) z.1 (omega (arith, total_cons (segment_of w) (decode ws), size_of_lem w)) in
    let f : is_held w ≡ false = ne_eqb (w % 2) 1 (λ x. omega arith) in
    rw (d, n, f)

none_first : (K : Kind) → Keeps K → (w : ℕ) (ws : List ℕ) → sound_map K.proper (w ∷ ws) ≡ true → any is_held_segment (decode (w ∷ ws)) ≡ false
    → w ≡ 2 * suc (length ws)
unfolding draw
none_first K keeps w ws e h =
    let t = sound_tiled K.proper (w ∷ ws) e in
    let n : total (decode (w ∷ ws)) ≡ suc (length ws) = total_decoded (w ∷ ws) t in
    let o = keeps.none_held (decode (w ∷ ws)) (omega arith) (record { sized = sized_decoded (w ∷ ws) t; proper = sound_proper K.proper (w ∷ ws) e }) h in
    let d : draw (free (suc (length ws)) ∷ []) ≡ w ∷ ws = ap (λ (k : ℕ). draw (free k ∷ [])) (sym n) ∙ ap draw (sym o) ∙ redraw (w ∷ ws) t in
    let f : suc (length ws) * 2 + 0 ≡ w = ap (λ (l : List ℕ). get_or l 0 0) d in
    omega arith

first_says : (K : Kind) → Keeps K → (ws : List ℕ) → sound_map K.proper ws ≡ true → 1 ≤ length ws
    → any is_held_segment (decode ws) ≡ not (eqb (get_or ws 0 0) (2 * length ws))
first_says K keeps [] e h = absurd (omega arith)
first_says K keeps (w ∷ ws) e h = go (eqb w (2 * suc (length ws))) refl (any is_held_segment (decode (w ∷ ws))) refl
  where
    go : (b : Bool) → eqb w (2 * suc (length ws)) ≡ b → (c : Bool) → any is_held_segment (decode (w ∷ ws)) ≡ c → c ≡ not b
    go true f c x = sym x ∙ free_first w ws (sound_tiled K.proper (w ∷ ws) e) (eqb-true w (2 * suc (length ws)) f)
    go false f true x = refl
    go false f false x = absurd (eqb-false w (2 * suc (length ws)) f (none_first K keeps w ws e x))

-- a region whose map is sound
pub free_of : (m : List ℕ) (r : Region) → Sited m r → (l : Layout) → l ≡ layout_of r → (b : Bool) → b ≡ one_free m l → not b ≡ any_held m r
free_of m r s l el b eb =
    let n : length (map_words m r) ≡ pages_of r = map_long m r s.laid in
    let t : one_free m l ≡ eqb (get_or (map_words m r) 0 0) (2 * length (map_words m r)) = rw (el, n) in
    ap not (eb ∙ t) ∙ sym (first_says (kind r) (keeps r.order) (map_words m r) s.sound (omega (arith, n, s.laid.some)))

-- A LIVE REGION OF A SOUND RECORD
module _ (m : List ℕ) (d : Manager) (id : ℕ) (e : sound m d ≡ true) (r : Region) (er : r ≡ region_of d id) (n : r.name ≡ 0 → ⊥) (l : Layout) (el : l ≡ layout_of r) where
  live : Sited m r
  live = rw er (sited m d id e (rw (← er) (ne_eqb r.name 0 n)))

  pub held_told : (a k : ℕ) → k ≡ held_word_at m l r.page a → k ≡ held_at m r a
  held_told = held_of m r live l el

  pub free_told : (b : Bool) → b ≡ one_free m l → not b ≡ any_held m r
  free_told = free_of m r live l el
