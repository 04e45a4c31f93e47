-- The maps of a region of pages: in a sound one each segment has a page and no two free ones adjoin. `Well` says so of a list behind a
-- segment that is held or not, so that an induction over the list carries it. Assumes nothing.
use Prim.Native.Nat.{ℕ, ◌≤◌}
use mathlib.Core.Path.{◌≡◌, refl, sym, ap, ◌∙◌}
use mathlib.Core.Bool.{Bool, true, ◌&&◌, ◌||◌}
use mathlib.Core.List.{List, [], ◌∷◌, ◌++◌}
use Rattle.manager.specs.Lists.{adjacent}
use Rattle.manager.specs.Map.{Segment, is_held_segment, size_of, draw, decode, sound_map}
use Rattle.manager.specs.Paged.{apart, one_held}
use Rattle.arith.proofs.Laws.Layout.{both_true}
use Rattle.manager.proofs.Laws.Map.{Sized, sized_decoded, sound_tiled, sound_proper, sound_drawn}

-- no two free segments adjoin, behind one that is held or not
unfoldable pub apart_from : Bool → List Segment → Bool
apart_from before [] = true
apart_from before (g ∷ s) = (before || is_held_segment g) && apart_from (is_held_segment g) s

apart_behind : (g : Segment) (s : List Segment) → adjacent one_held (g ∷ s) ≡ apart_from (is_held_segment g) s
unfolding adjacent apart_from
apart_behind g [] = refl
apart_behind g (h ∷ s) = ap (λ (b : Bool). one_held g h && b) (apart_behind h s)

-- a map's first segment is as behind a held one
pub apart_is : (s : List Segment) → apart s ≡ apart_from true s
unfolding apart adjacent apart_from
apart_is [] = refl
apart_is (g ∷ s) = apart_behind g s

-- a well-formed list behind a segment that is held or not
abbrev pub Well : Bool → List Segment → Type 0
Well before [] = Unit {0}
Well before (g ∷ s) = (1 ≤ size_of g) × ((before || is_held_segment g) ≡ true) × Well (is_held_segment g) s

pub well_sized : (before : Bool) (s : List Segment) → Well before s → Sized s
well_sized before [] w = tt
well_sized before (g ∷ s) w = (w.0, well_sized (is_held_segment g) s w.2)

well_apart : (before : Bool) (s : List Segment) → Well before s → apart_from before s ≡ true
unfolding apart_from
well_apart before [] w = refl
well_apart before (g ∷ s) w = rw w.1 (well_apart (is_held_segment g) s w.2)

well_made : (before : Bool) (s : List Segment) → Sized s → apart_from before s ≡ true → Well before s
unfolding apart_from
well_made before [] z e = tt
well_made before (g ∷ s) z e =
    let p = both_true (before || is_held_segment g) (apart_from (is_held_segment g) s) e in
    (z.0, p.0, well_made (is_held_segment g) s z.1 p.1)

-- behind a held segment anything well formed may stand
pub well_after : (before : Bool) (s : List Segment) → Well before s → Well true s
well_after before [] w = tt
well_after before (g ∷ s) w = (w.0, refl, w.2)

-- a segment somewhere in one, with what is behind it
pub well_at : (before : Bool) (s : List Segment) (g : Segment) (t : List Segment) → Well before (s ++ (g ∷ t)) → (1 ≤ size_of g) × Well (is_held_segment g) t
well_at before [] g t w = (w.0, w.2)
well_at before (f ∷ s) g t w = well_at (is_held_segment f) s g t w.2

-- ---- of whole maps

-- what a well-formed list has of a sound map: its segments stand as those of a region of pages
pub well_proper : (s : List Segment) → Well true s → apart s ≡ true
well_proper s w = apart_is s ∙ well_apart true s w

pub well_made_of : (s : List Segment) → Sized s → apart s ≡ true → Well true s
well_made_of s z e = well_made true s z (sym (apart_is s) ∙ e)

-- a sound map's segments are well formed, and a drawing of such is sound
pub well_decoded : (ws : List ℕ) → sound_map apart ws ≡ true → Well true (decode ws)
well_decoded ws e = well_made_of (decode ws) (sized_decoded ws (sound_tiled apart ws e)) (sound_proper apart ws e)

pub well_drawn : (s : List Segment) → Well true s → sound_map apart (draw s) ≡ true
well_drawn s w = sound_drawn apart s (well_sized true s w) (well_proper s w)
