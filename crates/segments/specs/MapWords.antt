-- What the private functions on a region's map do. Assumes nothing.
use Rattle.std.specs.Prelude.{ℕ, Bool, true, ◌+◌, ◌-◌, ◌*◌, ◌/◌, ◌≡◌, ◌≤◌, cond, List, [], ◌∷◌, length, get_or, set, eqb, leb, ltb, Option, None, Some}
use Rattle.arith.specs.Round.{align_up}
use Rattle.manager.specs.Map.{Segment, free, held, decode, draw, sound_map, size_of}
use Rattle.manager.specs.Kind.{held_from}
use Rattle.manager.specs.Paged.{apart, room_from, reach_from, change_from}
use Rattle.manager.specs.Halves.{FreeAt, smallest, place_block}
use Rattle.manager.specs.declared.Need.{Need}
use Rattle.map.specs.declared.walk.Segment.{Segment as Placed}

-- the words of the map of a region: sound, and no more than a region has pages
pub record IsMap (proper : List Segment → Bool) (ws : List ℕ) : Type 0 where
  pub sound : sound_map proper ws ≡ true
  pub short : length ws ≤ 16384

-- such words, in which a held segment starts at page p
pub record IsHeldAt (proper : List Segment → Bool) (p : ℕ) (ws : List ℕ) : Type 0 where
  pub sound : sound_map proper ws ≡ true
  pub short : length ws ≤ 16384
  pub held : 1 ≤ held_from p 0 (decode ws)

-- the words where of a segment of so many pages at page i the first k are one, so marked, and the others a free one
unfoldable pub cutting : ℕ → ℕ → ℕ → ℕ → List ℕ → List ℕ
cutting i pages k mark ws = cond (ltb k pages) (set (set ws i (k * 2 + mark)) (i + k) ((pages - k) * 2)) (set ws i (k * 2 + mark))

-- the words where of the free segment at page i k pages are held, from `gap` pages behind its first one on: it is cut there, and again
-- behind them
unfoldable pub taking : ℕ → ℕ → ℕ → List ℕ → List ℕ
taking i gap k ws =
    let pages = get_or ws i 0 / 2 in
    cond (eqb gap 0) (cutting i pages k 1 ws) (cutting (i + gap) (pages - gap) k 1 (cutting i pages gap 0 ws))

-- the page, counted in the map from `at` on, of the free segment that a get takes pages of; the map's first page is page `first`
unfoldable pub segment_from : Need → ℕ → ℕ → List Segment → Option ℕ
segment_from w first at [] = None
segment_from w first at (held n ∷ s) = segment_from w first (at + n) s
segment_from w first at (free n ∷ s) =
    cond (leb w.pages (room_from w.every (first + at) n)) (Some at) (segment_from w first (at + n) s)

-- the segment at page i is that one, and it has the pages of the need from the first one on the alignment on
pub record HasRoom (n : Need) (first : ℕ) (ws : List ℕ) (i : ℕ) : Type 0 where
  pub within : i + get_or ws i 0 / 2 ≤ length ws
  pub room : 1 ≤ n.pages → align_up n.every (first + i) - (first + i) + n.pages ≤ get_or ws i 0 / 2
  pub place : Some i ≡ segment_from n first 0 (decode ws)

-- the page of the segment before the one at page p, where the map starts at page `at` behind a segment at page q
unfoldable pub before_from : ℕ → ℕ → ℕ → List Segment → ℕ
before_from p q at [] = q
before_from p q at (g ∷ s) = cond (eqb at p) q (before_from p at (at + size_of g) s)

-- the words of a region's map in which the held segment at page p has so many pages and no free follower, and stands behind the segment at page q
pub record IsLastHeld (p q pages : ℕ) (ws : List ℕ) : Type 0 where
  pub at : IsHeldAt apart p ws
  pub all : pages ≡ held_from p 0 (decode ws)
  pub reach : reach_from p 0 (decode ws) ≡ held_from p 0 (decode ws)
  pub before : q ≡ before_from p p 0 (decode ws)

-- the held segment at page p has the most that it can have: so many pages, and the words are then these
pub record Extends (p : ℕ) (ws : List ℕ) (k : ℕ) (out : List ℕ) : Type 0 where
  pub pages : k ≡ reach_from p 0 (decode ws)
  pub words : out ≡ draw (change_from p k 0 (decode ws))

-- of the free blocks that have k pages or more this is one of the smallest, and the lowest of those
pub record IsSmallest (k : ℕ) (ws : List ℕ) (b : Placed) : Type 0 where
  pub within : b.at + b.pages ≤ length ws
  pub there : FreeAt (decode ws) 0 b.at b.pages
  pub enough : k ≤ b.pages
  pub pages : b.pages ≡ smallest k (decode ws)
  pub place : Some b.at ≡ place_block k 0 (decode ws)
