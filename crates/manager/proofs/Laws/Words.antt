-- Which words a store changes: a run of words stored, a region's map drawn anew, and queues served. Serving draws the map again and
-- again; it stays in the map's words because the segments that are read off a drawn map have as many pages as those drawn. And it stays
-- out of every other region's map, since the areas share no byte. Assumes nothing.
use mathlib.Core.Path.{◌≡◌, refl, sym, ap, ◌∙◌}
use mathlib.Core.Bool.{Bool}
use mathlib.Core.List.{List, [], ◌∷◌, ◌++◌}
use mathlib.Core.Logic.{inl, inr}
use Prim.Native.Nat.{ℕ, zero, suc, ◌+◌, ◌*◌, ◌/◌, ◌≤◌, ◌<◌}
use native.Mathlib.Omega.{arith}
use lib.ListN.{length, get_or, take, drop, set, replicate, length-take, length-drop}
use lib.Seq.{sets, length-sets, get_or-set_other, get_or-take, get_or-drop, ext_get_or}
use Rattle.arith.proofs.Laws.Layout.{map_ge, count_map, count_end}
use Rattle.arith.specs.Layout.{map_start, page_count}
use Rattle.manager.specs.Record.{region_of}
use Rattle.manager.specs.Map.{Segment, is_held_segment, size_of, words_of, draw, segment_of, decode, total}
use Rattle.manager.proofs.Laws.Map.{mark_of, bit, draw_cons, total_cons, size_of_lem, not_zero, length_draw}
use Rattle.manager.specs.Kind.{allocate}
use Rattle.manager.proofs.Laws.Kinds.{keeps}
use Rattle.manager.specs.Queue.{dequeue}
use Rattle.manager.proofs.Laws.Appended.{by_case}
use Rattle.manager.specs.Region.{kind, pages_of, first_page_of, map_at, map_words, segments, with_segments}
use Rattle.manager.specs.Serve.{serve}
use Rattle.manager.specs.Sound.{Laid, Sited}
use Rattle.manager.specs.Words.{OneOf, MapWord, Only}
use Rattle.manager.proofs.Laws.Sound.{read_with_lem, total_segments}
use Rattle.manager.proofs.Laws.Areas.{Clear, area_for}
use Rattle.manager.proofs.Laws.Serve.{first_need, by_queue}
use Rattle.manager.specs.declared.Manager.{Manager}
use Rattle.manager.specs.declared.Region.{Region}

-- nothing is written
pub unchanged : {W : ℕ → Type 0} {m : List ℕ} → Only W m m
unchanged = record { size = refl; same = λ j h. refl }

-- a change of fewer words
pub only_wider : {W X : ℕ → Type 0} {m m' : List ℕ} → ((j : ℕ) → W j → X j) → Only W m m' → Only X m m'
only_wider f o = record { size = o.size; same = λ j h. o.same j (λ x. h (f j x)) }

pub only_then : {W : ℕ → Type 0} {m m' m'' : List ℕ} → Only W m m' → Only W m' m'' → Only W m m''
only_then p q = record { size = q.size ∙ p.size; same = λ j h. q.same j h ∙ p.same j h }

-- A RUN OF WORDS STORED
stored_same : (m : List ℕ) (b : ℕ) (ws : List ℕ) (j : ℕ) → ¬ OneOf b (length ws) j → get_or (sets m b ws) j 0 ≡ get_or m j 0
stored_same m b [] j h = refl
stored_same m b (w ∷ ws) j h =
    stored_same (set m b w) (suc b) ws j (λ x. h (omega arith, omega arith))
    ∙ get_or-set_other m b j w 0 (λ e. h (omega arith, omega arith))

pub stored : (m : List ℕ) (b : ℕ) (ws : List ℕ) → Only (OneOf b (length ws)) m (sets m b ws)
stored m b ws = record { size = length-sets m b ws; same = stored_same m b ws }

-- A MAP DRAWN with as many pages as the region has
pub drawn_only : (m : List ℕ) (r : Region) (t : List Segment) → total t ≡ pages_of r → Only (MapWord r) m (with_segments m r t)
drawn_only m r t e =
    let n : length (draw t) ≡ pages_of r = length_draw t ∙ e in
    record {
      size = length-sets m (map_at r) (draw t);
      same = λ j h. stored_same m (map_at r) (draw t) j (λ x. h (x.0, omega arith));
    }

-- the segments read off drawn words have the pages of those drawn
decode_zeros : (n : ℕ) (ws : List ℕ) → decode (replicate n 0 ++ ws) ≡ decode ws
unfolding decode
decode_zeros zero ws = refl
decode_zeros (suc n) ws = decode_zeros n ws

total_words : (n mark : ℕ) (ws : List ℕ) → mark ≤ 1 → total (decode (words_of n mark ++ ws)) ≡ n + total (decode ws)
unfolding decode
total_words zero mark ws h = omega arith
total_words (suc n) mark ws h =
    let w = suc n * 2 + mark in
    rw (not_zero w (omega arith), decode_zeros n ws) (omega (arith, total_cons (segment_of w) (decode ws), size_of_lem w))

mark_most : (b : Bool) → bit b ≤ 1
mark_most b = by_case b (λ x. bit x ≤ 1) (λ e. omega arith) (λ e. omega arith)

total_drawn : (t : List Segment) → total (decode (draw t)) ≡ total t
unfolding draw decode total
total_drawn [] = refl
total_drawn (g ∷ t) =
    ap (λ (ws : List ℕ). total (decode ws)) (draw_cons g t)
    ∙ omega (arith, total_words (size_of g) (mark_of g) (draw t) (mark_most (is_held_segment g)), total_drawn t, total_cons g t)

-- a region whose map lies in the memory and has all its pages: so it stays, whatever is drawn with as many pages
pub record Mapped (m : List ℕ) (r : Region) : Type 0 where
  pub laid : Laid m r
  pub pages : total (segments m r) ≡ pages_of r

pub sited_mapped : (m : List ℕ) (r : Region) → Sited m r → Mapped m r
sited_mapped m r s = record { laid = s.laid; pages = total_segments m r s }

pub drawn_mapped : (m : List ℕ) (r : Region) → Mapped m r → (t : List Segment) → total t ≡ pages_of r → Mapped (with_segments m r t) r
drawn_mapped m r s t e =
    let n = length-sets m (map_at r) (draw t) in
    record {
      laid = record {
        words = omega (arith, n, s.laid.words);
        inside = omega (arith, n, s.laid.inside);
        page_low = s.laid.page_low;
        page_high = s.laid.page_high;
        some = s.laid.some;
      };
      pages = ap (λ (ws : List ℕ). total (decode ws)) (read_with_lem m r s.laid t e) ∙ total_drawn t ∙ e;
    }

-- A QUEUE SERVED: each turn draws the map again
pub served_only : (m : List ℕ) (d : Manager) (id : ℕ) → Mapped m (region_of d id) → Only (MapWord (region_of d id)) m (serve m d id).memory
unfolding dequeue
served_only m d id =
    by_queue id (λ m d s. Mapped m (region_of d id) → Only (MapWord (region_of d id)) m s.memory) (λ m d v. unchanged)
    (λ m d h a s next v.
    let r = region_of d id in
    let g = allocate (kind r) (first_need d id) (first_page_of r) (segments m r) in
    let t : total g ≡ pages_of r = (keeps r.order).total_take (first_need d id) (first_page_of r) (segments m r) ∙ v.pages in
    only_then (drawn_only m r g t) (next (drawn_mapped m r v g t)))
    m d

-- ---- A MAP RESTS ON ITS WORDS

-- a part of the memory, by its words
part_same : (n b : ℕ) (m m' : List ℕ) → length m' ≡ length m → ((k : ℕ) → b ≤ k → k < b + n → get_or m' k 0 ≡ get_or m k 0)
    → take n (drop b m') ≡ take n (drop b m)
part_same n b m m' e h =
    ext_get_or 0 (take n (drop b m')) (take n (drop b m)) (simp (length-take, length-drop, e))
    (λ i l. let u : i < n = omega (arith, length-take n (drop b m'), l) in
    get_or-take n (drop b m') i 0 u ∙ get_or-drop b m' i 0
    ∙ h (b + i) (omega arith) (omega arith)
    ∙ sym (get_or-take n (drop b m) i 0 u ∙ get_or-drop b m i 0))

pub map_same : (m m' : List ℕ) (r : Region) → length m' ≡ length m
    → ((w : ℕ) → map_at r ≤ w → w < map_at r + pages_of r → get_or m' w 0 ≡ get_or m w 0) → map_words m' r ≡ map_words m r
map_same m m' r e h = part_same (pages_of r) (map_at r) m m' e h

-- a word of the map lies inside the area
pub map_within : (allowed : ℕ → Bool) (start bytes page : ℕ) → 0 < page → 1 ≤ page_count allowed start bytes page → (w : ℕ) → map_start start / 4 ≤ w
    → w < map_start start / 4 + page_count allowed start bytes page
    → (start ≤ 4 * w) × (4 * w + 4 ≤ start + bytes)
map_within allowed start bytes page hp some w l h =
    let e : 4 * (map_start start / 4) ≡ map_start start = omega arith in
    (omega (arith, e, map_ge start), omega (arith, e, count_map allowed start bytes page hp, count_end allowed start bytes page hp some))

-- so a change of another region's map leaves it as it was
module _ (m : List ℕ) (r x : Region) (laid : Laid m x) (other : Laid m r) (clear : Clear (area_for r) (area_for x)) (m' : List ℕ) (only : Only (MapWord r) m m') where
  no_word : (j : ℕ) → MapWord x j → ¬ MapWord r j
  no_word j w v = apart clear (within x laid j w) (within r other j v)
    where
      within : (y : Region) → Laid m y → (j : ℕ) → MapWord y j → (y.start ≤ 4 * j) × (4 * j + 4 ≤ y.start + y.length)
      within y s j w = map_within (kind y).allowed y.start y.length y.page (omega (arith, s.page_low)) s.some j w.0 w.1

      apart : Clear (area_for r) (area_for x) → (x.start ≤ 4 * j) × (4 * j + 4 ≤ x.start + x.length)
          → (r.start ≤ 4 * j) × (4 * j + 4 ≤ r.start + r.length) → ⊥
      apart (inl h) a b = omega (arith, a.0, b.1)
      apart (inr h) a b = omega (arith, a.1, b.0)

  pub other_map : map_words m' x ≡ map_words m x
  other_map = map_same m m' x only.size (λ j l h. only.same j (no_word j (l, h)))

  pub other_laid : Laid m' x
  other_laid =
      record {
        words = omega (arith, only.size, laid.words);
        inside = omega (arith, only.size, laid.inside);
        page_low = laid.page_low;
        page_high = laid.page_high;
        some = laid.some;
      }
