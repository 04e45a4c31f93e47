-- WRONG HALVES: the managers 67 to 75, each of which is wrong about where a block by halves is placed, how it is cut or joined, or which map is
-- sound. Those that show along a list of calls don't meet demand 3; those that take damaged records for sound don't meet demand 1. Assumes
-- nothing.
use mathlib.Core.Path.{refl}
use mathlib.Core.Bool.{Bool, true, false, cond}
use mathlib.Core.List.{List, [], ◌∷◌, ◌++◌}
use Prim.Native.Nat.{ℕ, zero, suc, ◌+◌, ◌-◌, ◌*◌, ◌/◌, ◌^◌}
use lib.Dec.{eqb, leb, ltb}
use Rattle.arith.specs.Power.{level}
use Rattle.manager.specs.Record.{region_of, with_region}
use Rattle.manager.specs.Result.{done}
use Rattle.manager.specs.Map.{Segment, free, held, total, sum_of}
use Rattle.manager.specs.Kind.{on_place}
use Rattle.manager.specs.Paged.{place_from, change_from}
use Rattle.manager.specs.Halves.{low_of, high_of, is_whole, smallest, occupy_block, join}
use Rattle.manager.specs.Region.{first_page_of, address_of, page_at, segments, with_segments, pages_asked, need_of, placed, frees, helds}
use Rattle.manager.specs.Serve.{serve, from_served}
use Rattle.manager.specs.Regions.{information_of, informed}
use Rattle.manager.specs.Status.{number_of}
use Rattle.manager.specs.Perform.{Implementation, perform, asked}
use Rattle.manager.specs.declared.Manager.{Manager}
use Rattle.manager.specs.declared.Call.TheVariants.{CreateRegion, GetSegment, RegionInformation}
use Rattle.manager.specs.declared.Order.TheVariants.{Fifo, HalvesFifo}
use Rattle.manager.specs.declared.Wait.TheVariants.{No}
use Rattle.trace.specs.Trace.{Ask, call}
use Rattle.trace.specs.Claims.{Demand3}
use Rattle.effects.specs.Effects.{Demand1}
use Rattle.refuted.proofs.Refute.{differs, passes_unsound}
use Rattle.refuted.proofs.Calls.{get, return, resize, everything}
use Rattle.refuted.proofs.Wrong.{segment_get, segment_return, segment_resize, region_information_lem, answering, but}
use Rattle.refuted.proofs.Effects.{reached}

-- a region of 8 pages of 16 bytes by halves, from 48 to 175, and its information
abbrev create : Ask
create = call (CreateRegion 1 4 172 16 HalvesFifo)

abbrev information : Ask
information = call (RegionInformation 1)

-- four blocks of two pages, of which the two in the middle come back: they adjoin, and are not halves of one block
abbrev parted : List Ask
parted = create ∷ get 32 ∷ get 32 ∷ get 32 ∷ get 32 ∷ return 80 ∷ return 112 ∷ []

-- ---- WHERE A GET IS PLACED, AND HOW IT IS CUT

-- 67. THE LOWEST BLOCK THAT IS LARGE ENOUGH SERVES, not the smallest
abbrev lowest_serves : Implementation
lowest_serves =
    but segment_get 0 λ m d c a.
    let r = region_of d (asked c).id in
    let w = need_of r (asked c).number 0 in
    on_place (place_from w (first_page_of r) (segments m r))
    (λ p. done (with_segments m r (occupy_block p w.pages (first_page_of r) (segments m r))) d (address_of r p)) a

not_lowest_serves : ¬ Demand3 lowest_serves
unfolding everything
not_lowest_serves = differs lowest_serves (create ∷ get 64 ∷ get 16 ∷ return 48 ∷ get 16 ∷ []) refl

-- 68. THE HIGH HALF GOES ON
abbrev carve_up : ℕ → ℕ → ℕ → List Segment
carve_up zero k b = held b ∷ []
carve_up (suc j) k b = cond (leb b k) (held b ∷ []) (free (b - b / 2) ∷ carve_up j k (b / 2))

abbrev occupy_up : ℕ → ℕ → ℕ → List Segment → List Segment
occupy_up p k at [] = []
occupy_up p k at (held n ∷ s) = held n ∷ occupy_up p k (at + n) s
occupy_up p k at (free n ∷ s) = cond (eqb at p) (carve_up (level n) k n ++ s) (free n ∷ occupy_up p k (at + n) s)

abbrev high_goes_on : Implementation
high_goes_on =
    but segment_get 0 λ m d c a.
    let r = region_of d (asked c).id in
    let w = need_of r (asked c).number 0 in
    let k = w.pages in
    let s = segments m r in
    on_place (placed m r w) (λ p. done (with_segments m r (occupy_up p k (first_page_of r) s)) d (address_of r (p + smallest k s - k))) a

not_high_goes_on : ¬ Demand3 high_goes_on
unfolding everything
not_high_goes_on = differs high_goes_on (create ∷ get 16 ∷ []) refl

-- 69. A SIZE THAT IS A POWER OF TWO ALREADY IS ROUNDED TO THE NEXT
abbrev rounds_on : Implementation
rounds_on =
    but segment_get 0 λ m d c a.
    let r = region_of d (asked c).id in
    perform m d (GetSegment (asked c).id ((pages_asked r (asked c).number + 1) * r.page) 0 No 0 0 0)

not_rounds_on : ¬ Demand3 rounds_on
unfolding everything
not_rounds_on = differs rounds_on (create ∷ get 128 ∷ []) refl

-- ---- HOW A RETURNED BLOCK JOINS

-- 70. IT JOINS EVERY FREE NEIGHBOUR, its other half or not
abbrev joins_neighbours : Implementation
joins_neighbours =
    but segment_return 0 λ m d c a.
    let r = region_of d (asked c).id in
    from_served 0 (serve (with_segments m r (change_from (page_at r (asked c).number) 0 (first_page_of r) (segments m r))) d (asked c).id)

not_joins_neighbours : ¬ Demand3 joins_neighbours
unfolding everything
not_joins_neighbours = differs joins_neighbours (parted ++ (information ∷ [])) refl

-- 71. IT JOINS ITS OTHER HALF ONCE, and what they make joins no other
abbrev join_here : Bool → List Segment → List Segment → List Segment
join_here true s t = join s t
join_here false s t = s ++ t

abbrev release_once : ℕ → ℕ → ℕ → List Segment → List Segment
release_once zero p at s = free (total s) ∷ []
release_once (suc j) p at s =
    let l = low_of (2 ^ j) s in
    let h = high_of (2 ^ j) s in
    cond (is_whole s) (free (total s) ∷ [])
    (cond (ltb p (at + 2 ^ j)) (join_here (is_whole l) (release_once j p at l) h) (join_here (is_whole h) l (release_once j p (at + 2 ^ j) h)))

abbrev joins_once : Implementation
joins_once =
    but segment_return 0 λ m d c a.
    let r = region_of d (asked c).id in
    let s = segments m r in
    from_served 0 (serve (with_segments m r (release_once (level (total s)) (page_at r (asked c).number) (first_page_of r) s)) d (asked c).id)

not_joins_once : ¬ Demand3 joins_once
unfolding everything
not_joins_once = differs joins_once (create ∷ get 16 ∷ get 16 ∷ return 48 ∷ return 64 ∷ get 128 ∷ []) refl

-- ---- RESIZE AND INFORMATION

-- 72. A RESIZE TO FEWER PAGES SUCCEEDS, and the block stays as it was
abbrev shrinks : Implementation
shrinks =
    but segment_resize 13 λ m d c a.
    let r = region_of d (asked c).id in
    cond (leb (pages_asked r (asked c).number) (a.value / r.page)) (done m d a.value) a

not_shrinks : ¬ Demand3 shrinks
unfolding everything
not_shrinks = differs shrinks (create ∷ get 64 ∷ resize 48 16 ∷ []) refl

-- 73. INFORMATION COUNTS FREE BLOCKS THAT ADJOIN AS ONE
abbrev counts_runs : Implementation
counts_runs =
    but region_information_lem 0 λ m d c a.
    let r = region_of d (asked c).id in
    informed m d (information_of r.page (sum_of (frees m r) ∷ []) (helds m r))

not_counts_runs : ¬ Demand3 counts_runs
unfolding everything
not_counts_runs = differs counts_runs (parted ++ (information ∷ [])) refl

-- ---- WHICH MAP IS SOUND

-- the record with region 1 of another order
abbrev ordered : Manager → Manager
ordered d =
    let r = region_of d 1 in
    with_region d 0 (record { name = r.name; generation = r.generation; start = r.start; length = r.length; page = r.page; order = Fifo })

-- 74. A BLOCK THAT IS NOT AT A MULTIPLE OF ITS LENGTH IS TAKEN FOR SOUND: the map is checked as one of pages
abbrev misplaced_sound : Implementation
misplaced_sound = answering λ m d c a. cond (eqb (number_of a.status) 25) (perform m (ordered d) c) a

not_misplaced_sound : ¬ Demand1 misplaced_sound
unfolding everything
not_misplaced_sound =
    let s = reached (create ∷ []) in
    let m = with_segments s.memory (region_of s.manager 1) (held 1 ∷ held 2 ∷ held 1 ∷ held 4 ∷ []) in
    passes_unsound misplaced_sound m s.manager (RegionInformation 1) refl refl

-- 75. TWO FREE HALVES OF ONE BLOCK ARE TAKEN FOR SOUND, as if they were that block
abbrev mended : List ℕ → Manager → List ℕ
mended m d = let r = region_of d 1 in with_segments m r (join (low_of 4 (segments m r)) (high_of 4 (segments m r)))

abbrev free_halves_sound : Implementation
free_halves_sound = answering λ m d c a. cond (eqb (number_of a.status) 25) (perform (mended m d) d c) a

not_free_halves_sound : ¬ Demand1 free_halves_sound
unfolding everything
not_free_halves_sound =
    let s = reached (create ∷ []) in
    let m = with_segments s.memory (region_of s.manager 1) (free 4 ∷ free 4 ∷ []) in
    passes_unsound free_halves_sound m s.manager (RegionInformation 1) refl refl
