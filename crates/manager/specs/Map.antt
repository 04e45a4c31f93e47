-- Rules 4: a region's map as segments, the words that draw it, and what a sound map is. Assumes nothing.
use Rattle.std.specs.Prelude.{ℕ, zero, suc, ◌+◌, ◌-◌, ◌*◌, ◌/◌, ◌%◌, max, Bool, true, false, cond, ◌&&◌, List, [], ◌∷◌, ◌++◌, replicate, eqb, leb}

-- a segment: so many free pages, or so many held ones
pub data Segment : Type 0 where
  free : ℕ → Segment
  held : ℕ → Segment

abbrev pub is_held_segment : Segment → Bool
is_held_segment (free n) = false
is_held_segment (held n) = true

-- the words of n pages that are one segment: 2 x its pages, plus the mark, in the first; 0 in the others
abbrev pub words_of : ℕ → ℕ → List ℕ
words_of zero mark = []
words_of (suc n) mark = (suc n * 2 + mark) ∷ replicate n 0

-- the words of a map: a held segment is marked with 1
unfoldable pub draw : List Segment → List ℕ
draw [] = []
draw (free n ∷ s) = words_of n 0 ++ draw s
draw (held n ∷ s) = words_of n 1 ++ draw s

abbrev pub is_held : ℕ → Bool
is_held w = eqb (w % 2) 1

-- the segment that starts with a word
abbrev pub segment_of : ℕ → Segment
segment_of w = cond (is_held w) (held (w / 2)) (free (w / 2))

-- the segments that the words say: each word that is not 0 starts one
unfoldable pub decode : List ℕ → List Segment
decode [] = []
decode (w ∷ ws) = cond (eqb w 0) (decode ws) (segment_of w ∷ decode ws)

-- words that segments fill, from within one: first `due` words 0, which end it, and then whole segments, each of at least a page
unfoldable pub tiled_from : ℕ → List ℕ → Bool
tiled_from zero [] = true
tiled_from (suc due) [] = false
tiled_from zero (w ∷ ws) = leb 2 w && tiled_from (w / 2 - 1) ws
tiled_from (suc due) (w ∷ ws) = eqb w 0 && tiled_from due ws

-- Map: its segments fill its pages, and all words but their first ones are 0
unfoldable pub tiled : List ℕ → Bool
tiled ws = tiled_from 0 ws

-- a sound one is tiled, by segments that stand as a kind of region lets them stand
unfoldable pub sound_map : (List Segment → Bool) → List ℕ → Bool
sound_map proper ws = tiled ws && proper (decode ws)

-- the sizes of the free segments and of the held ones, and how many pages a map has
unfoldable pub free_sizes : List Segment → List ℕ
free_sizes [] = []
free_sizes (free n ∷ s) = n ∷ free_sizes s
free_sizes (held n ∷ s) = free_sizes s

unfoldable pub held_sizes : List Segment → List ℕ
held_sizes [] = []
held_sizes (free n ∷ s) = held_sizes s
held_sizes (held n ∷ s) = n ∷ held_sizes s

unfoldable pub largest_of : List ℕ → ℕ
largest_of [] = 0
largest_of (n ∷ ns) = max n (largest_of ns)

unfoldable pub sum_of : List ℕ → ℕ
sum_of [] = 0
sum_of (n ∷ ns) = n + sum_of ns

unfoldable pub total : List Segment → ℕ
total [] = 0
total (free n ∷ s) = n + total s
total (held n ∷ s) = n + total s

-- the pages of a segment
abbrev pub size_of : Segment → ℕ
size_of (free n) = n
size_of (held n) = n
