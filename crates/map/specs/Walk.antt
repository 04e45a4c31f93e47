-- The segments of a map as a walk gives them: each with the place of its word. Assumes nothing.
use Rattle.std.specs.Prelude.{ℕ, ◌+◌, List, [], ◌∷◌}
use Rattle.manager.specs.Map.{size_of, is_held_segment}
use Rattle.manager.specs.Map.{Segment as Described}
use Rattle.map.specs.declared.walk.Segment.{Segment}

-- the segment whose word is at a place
abbrev pub placed_at : ℕ → Described → Segment
placed_at at g = record { at = at; pages = size_of g; held = is_held_segment g }

-- segments, the first of which starts at a place
unfoldable pub placed : ℕ → List Described → List Segment
placed at [] = []
placed at (g ∷ s) = placed_at at g ∷ placed (at + size_of g) s
