-- The two walks over a map of a region of pages: what each finds among the segments in their places. By induction over them. Assumes nothing.
use Rattle.std.proofs.Common.{◌≡◌, ℕ, ◌+◌, Bool, true, false, cond, not, ◌&&◌, nat_eq, List, [], ◌∷◌, length, Option, None, Some, refl, ap, take, one-add}
use Rattle.std.specs.List.{prefix_len, last_or}
use Rattle.std.specs.Option.{option_map_or}
use lib.Dec.{leb}
use Rattle.manager.specs.Map.{free, held, decode, tiled, size_of}
use Rattle.manager.specs.Map.{Segment as Described}
use Rattle.manager.specs.Paged.{room_from}
use Rattle.manager.specs.declared.Need.{Need}
use Rattle.map.specs.Walk.{placed, placed_at}
use Rattle.map.specs.declared.walk.Segment.{Segment}
use Rattle.map.proofs.Walked.{EndBy, placed_end}
use Rattle.segments.specs.MapWords.{segment_from, before_from}

-- ---- the lowest free segment that has the pages of a need

abbrev placing_in : Need → ℕ → List Segment → Option ℕ
placing_in n first [] = None
placing_in n first (x ∷ xs) = cond (not x.held && leb n.pages (room_from n.every (first + x.at) x.pages)) (Some x.at) (placing_in n first xs)

placing_lem : (n : Need) (first at : ℕ) (s : List Described) → placing_in n first (placed at s) ≡ segment_from n first at s
unfolding placed segment_from
placing_lem n first at [] = refl
placing_lem n first at (held m ∷ s) = placing_lem n first (at + m) s
placing_lem n first at (free m ∷ s) =
    ap (λ (o : Option ℕ). cond (leb n.pages (room_from n.every (first + at) m)) (Some at) o) (placing_lem n first (at + m) s)

-- the search has the segments xs left
pub record Placing (ws : List ℕ) (first : ℕ) (n : Need) (xs : List Segment) : Type 0 where
  pub ends : EndBy (length ws) xs
  pub same : placing_in n first xs ≡ segment_from n first 0 (decode ws)

pub place_start : (ws : List ℕ) (first : ℕ) (n : Need) (xs : List Segment) → tiled ws ≡ true → xs ≡ placed 0 (decode ws) → Placing ws first n xs
place_start ws first n xs ok e = rw e (record { ends = placed_end ws ok; same = placing_lem n first 0 (decode ws) })

-- ---- the segment before the one at page p

abbrev page_of : ℕ → Option Segment → ℕ
page_of q o = option_map_or (λ (x : Segment). x.at) o q

abbrev before : ℕ → List Segment → List Segment
before p xs = take (prefix_len (λ (x : Segment). not (nat_eq x.at p)) xs) xs

-- the walk goes on, or ends here
before_step : (p : ℕ) (t : Bool) (k : ℕ) (x : Segment) (xs : List Segment) (o : Option Segment) (r : ℕ)
    → page_of p (last_or (Some x) (take k xs)) ≡ r
    → page_of p (last_or o (take (cond (not t) (1 + k) 0) (x ∷ xs))) ≡ cond t (page_of p o) r
before_step p true k x xs o r e = refl
before_step p false k x xs o r e = rw one-add e

last_before : (p at : ℕ) (s : List Described) (o : Option Segment) → page_of p (last_or o (before p (placed at s))) ≡ before_from p (page_of p o) at s
unfolding placed before_from
last_before p at [] o = refl
last_before p at (g ∷ s) o =
    before_step p (nat_eq at p) _ _ (placed (at + size_of g) s) o _ (last_before p (at + size_of g) s (Some (placed_at at g)))

pub previous_page : (p : ℕ) (s : List Described) (xs : List Segment) → xs ≡ before p (placed 0 s) → page_of p (last_or None xs) ≡ before_from p p 0 s
previous_page p s xs e = rw e (last_before p 0 s None)
