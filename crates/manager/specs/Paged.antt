-- Rules 5.1 to 5.3: how a region of pages places, frees and resizes segments. Assumes nothing.
use Rattle.std.specs.Prelude.{ℕ, zero, suc, ◌+◌, ◌-◌, Bool, true, cond, ◌&&◌, ◌||◌, List, [], ◌∷◌, eqb, leb, Option, None, Some}
use Rattle.manager.specs.Lists.{adjacent}
use Rattle.arith.specs.Round.{align_up}
use Rattle.arith.specs.Layout.{any_number}
use Rattle.manager.specs.Map.{Segment, free, held, is_held_segment}
use Rattle.manager.specs.Kind.{Kind}
use Rattle.manager.specs.declared.Need.{Need}

-- Map: no two free segments adjoin
abbrev pub one_held : Segment → Segment → Bool
one_held g h = is_held_segment g || is_held_segment h

unfoldable pub apart : List Segment → Bool
apart s = adjacent one_held s

-- m free pages in front of a map: none for 0, and joined to a free segment that the map starts with
unfoldable pub free+ : ℕ → List Segment → List Segment
free+ zero s = s
free+ (suc m) [] = free (suc m) ∷ []
free+ (suc m) (free n ∷ s) = free (suc m + n) ∷ s
free+ (suc m) (held n ∷ s) = free (suc m) ∷ held n ∷ s

-- k held pages in front of a map: none for 0
abbrev pub held+ : ℕ → List Segment → List Segment
held+ zero s = s
held+ (suc k) s = held (suc k) ∷ s

-- the pages of the free segment that a map starts with (0: it starts with none), and the map behind it
unfoldable pub lead : List Segment → ℕ
lead [] = 0
lead (free n ∷ s) = n
lead (held n ∷ s) = 0

unfoldable pub rest : List Segment → List Segment
rest [] = []
rest (free n ∷ s) = s
rest (held n ∷ s) = held n ∷ s

-- of n pages from page `at` on, so many from the first multiple of `every` on; all of them where that is 0
abbrev pub room_from : ℕ → ℕ → ℕ → ℕ
room_from zero at n = n
room_from (suc every) at n = at + n - align_up (suc every) at

-- Get: "the lowest fitting address wins". The lowest page on the alignment from which on a free segment has the pages, where the map starts
-- at page `at`
unfoldable pub place_from : Need → ℕ → List Segment → Option ℕ
place_from w at [] = None
place_from w at (held n ∷ s) = place_from w (at + n) s
place_from w at (free n ∷ s) =
    cond (leb w.pages (room_from w.every at n)) (Some (align_up w.every at)) (place_from w (at + n) s)

-- k pages from page p on are held, where they lie in a free segment: what it has before them and behind them stays free
unfoldable pub occupy_from : ℕ → ℕ → ℕ → List Segment → List Segment
occupy_from p k at [] = []
occupy_from p k at (held n ∷ s) = held n ∷ occupy_from p k (at + n) s
occupy_from p k at (free n ∷ s) =
    cond (leb at p && leb (p + k) (at + n)) (free+ (p - at) (held k ∷ free+ (at + n - (p + k)) s)) (free n ∷ occupy_from p k (at + n) s)

-- the most that the held segment at page p can have: its own pages and those of an adjoining free follower
unfoldable pub reach_from : ℕ → ℕ → List Segment → ℕ
reach_from p at [] = 0
reach_from p at (free n ∷ s) = reach_from p (at + n) s
reach_from p at (held n ∷ s) = cond (eqb at p) (n + lead s) (reach_from p (at + n) s)

-- Return and Resize: the held segment at page p has k pages from now on (0: it is returned), of its own and of the low end of a
-- free follower; what it no longer has is free, and joined to its free neighbours
unfoldable pub change_from : ℕ → ℕ → ℕ → List Segment → List Segment
change_from p k at [] = []
change_from p k at (free n ∷ s) = free+ n (change_from p k (at + n) s)
change_from p k at (held n ∷ s) = cond (eqb at p) (held+ k (free+ (n + lead s - k) (rest s))) (held n ∷ change_from p k (at + n) s)

abbrev pub paged : Kind
paged =
    record {
      rounded = λ k. k;
      allowed = any_number;
      aligns = λ alignment. true;
      proper = apart;
      place = place_from;
      occupy = occupy_from;
      can_have = λ p k at s. leb k (reach_from p at s);
      change = change_from;
    }
