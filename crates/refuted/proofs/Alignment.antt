-- WRONG ALIGNMENTS: the managers 84 to 98, each of which is wrong about which alignments a get may ask for, which page it takes then, what is
-- left of the free segment, or what a waiter keeps. Those that show along a list of calls don't meet demand 3; those that take damaged records
-- for sound don't meet demand 1. Assumes nothing.
use Rattle.std.specs.Prelude.{Option, None}
use mathlib.Core.Path.{◌≡◌, refl, ap}
use mathlib.Core.Bool.{Bool, cond, not, ◌&&◌, ◌||◌}
use mathlib.Core.List.{List, [], ◌∷◌}
use Prim.Native.Nat.{ℕ, ◌+◌}
use native.Mathlib.Omega.{arith}
use lib.ListN.{get_or, set}
use lib.Dec.{eqb, leb}
use Rattle.arith.specs.Round.{round_up}
use Rattle.manager.specs.Status.{number_of}
use Rattle.manager.specs.Record.{no_region, no_waiter, slot_of, region_of, with_queue}
use Rattle.manager.specs.Result.{refused, done}
use Rattle.manager.specs.Lists.{every}
use Rattle.manager.specs.Map.{Segment, free, held}
use Rattle.manager.specs.Kind.{on_place}
use Rattle.manager.specs.Paged.{place_from, occupy_from}
use Rattle.manager.specs.Region.{by_halves, first_page_of, map_at, address_of, segments, with_segments, is_alignment, need_of, servable}
use Rattle.manager.specs.Perform.{Implementation, perform, asked}
use Rattle.manager.specs.declared.Manager.{Manager}
use Rattle.manager.specs.declared.Region.{Region}
use Rattle.manager.specs.declared.Waiter.{Waiter}
use Rattle.manager.specs.declared.Need.{Need}
use Rattle.manager.specs.declared.Call.{Call}
use Rattle.manager.specs.declared.Call.TheVariants.{CreateRegion, GetSegment, RegionInformation}
use Rattle.manager.specs.declared.Order.TheVariants.{Fifo, HalvesFifo}
use Rattle.manager.specs.declared.Wait.TheVariants.{No}
use Rattle.manager.specs.declared.Status.TheVariants.{InvalidSize, NotDefined, Unsatisfied}
use Rattle.trace.specs.Trace.{Ask, call}
use Rattle.trace.specs.Claims.{Demand3, waiters_for, waiters_of}
use Rattle.trace.specs.Queue.{insert_by, insert_all, waits_in}
use Rattle.effects.specs.Effects.{Demand1}
use Rattle.refuted.proofs.Refute.{differs, claimed, passes_unsound}
use Rattle.refuted.proofs.Calls.{get, get_on_lem, wait_on, return, everything}
use Rattle.refuted.proofs.Wrong.{segment_get, segment_return, answering, but, leaving, keeping}
use Rattle.refuted.proofs.Effects.{reached}

-- a region of 8 pages of 16 bytes, from 48 to 175, and one by halves
abbrev create : Ask
create = call (CreateRegion 1 4 172 16 Fifo)

abbrev create_halves : Ask
create_halves = call (CreateRegion 1 4 172 16 HalvesFifo)

-- the region of a call, and what it asks for
abbrev region_in : Manager → Call → Region
region_in d c = region_of d (asked c).id

abbrev need_in : Manager → Call → Need
need_in d c = need_of (region_in d c) (asked c).number (asked c).alignment

-- ---- WHICH PAGE IS TAKEN, AND WHAT IS LEFT

-- 84. THE PAGE'S NUMBER IN THE REGION IS A MULTIPLE, and not its address
abbrev by_number : Implementation
by_number =
    but segment_get 0 λ m d c a.
    let r = region_in d c in
    let w = need_in d c in
    on_place (place_from w 0 (segments m r)) (λ p. done (with_segments m r (occupy_from p w.pages 0 (segments m r))) d (address_of r (first_page_of r + p))) a

not_by_number : ¬ Demand3 by_number
unfolding everything
not_by_number = differs by_number (create ∷ get_on_lem 32 16 ∷ []) refl

-- 85. THE ROOM LEFT BEFORE IT IS MARKED HELD
abbrev holding : Segment → Segment
holding (free n) = held n
holding (held n) = held n

abbrev first_held : List Segment → List Segment
first_held [] = []
first_held (g ∷ s) = holding g ∷ s

abbrev room_held : Implementation
room_held = but segment_get 0 λ m d c a. let r = region_in d c in leaving a (with_segments a.memory r (first_held (segments a.memory r)))

not_room_held : ¬ Demand3 room_held
unfolding everything
not_room_held = differs room_held (create ∷ get_on_lem 32 16 ∷ get 16 ∷ []) refl

-- 86. THE ROOM LEFT BEFORE IT IS LOST: no word says it
abbrev room_lost : Implementation
room_lost = but segment_get 0 λ m d c a. leaving a (set a.memory (map_at (region_in d c)) 0)

not_room_lost : ¬ Demand3 room_lost
unfolding everything
not_room_lost = differs room_lost (create ∷ get_on_lem 32 16 ∷ get 16 ∷ []) refl

-- 87. ONLY THE LOWEST FREE SEGMENT THAT HAS THE PAGES IS LOOKED AT, on the alignment or not
abbrev first_long : ℕ → Need → ℕ → List Segment → Option ℕ
first_long k w at [] = None
first_long k w at (held n ∷ s) = first_long k w (at + n) s
first_long k w at (free n ∷ s) = cond (leb k n) (place_from w at (free n ∷ [])) (first_long k w (at + n) s)

abbrev lowest_only : Implementation
lowest_only =
    but segment_get 0 λ m d c a.
    let r = region_in d c in
    on_place (first_long (need_in d c).pages (need_in d c) (first_page_of r) (segments m r)) (λ p. a) (refused m d Unsatisfied)

not_lowest_only : ¬ Demand3 lowest_only
unfolding everything
not_lowest_only = differs lowest_only (create ∷ get 16 ∷ get 16 ∷ return 48 ∷ get_on_lem 32 16 ∷ []) refl

-- ---- WHICH ALIGNMENTS, AND WHAT COULD BE SERVED

-- 88. ONE THAT IS NO MULTIPLE OF THE PAGE SIZE IS ROUNDED UP
abbrev rounds : Implementation
rounds =
    but segment_get 8 λ m d c a.
    perform m d (GetSegment (asked c).id (asked c).number (round_up (asked c).alignment (region_in d c).page) No 0 0 0)

not_rounds : ¬ Demand3 rounds
unfolding everything
not_rounds = differs rounds (create ∷ get_on_lem 24 16 ∷ []) refl

-- 89. 8 IS TESTED WITH WHAT IS FREE NOW
abbrev too_large_now : Implementation
too_large_now = but segment_get 13 λ m d c a. refused m d InvalidSize

not_too_large_now : ¬ Demand3 too_large_now
unfolding everything
not_too_large_now = differs too_large_now (create ∷ get 32 ∷ get_on_lem 128 48 ∷ get_on_lem 128 16 ∷ []) refl

-- 90. 8 IS TESTED WITHOUT THE ALIGNMENT: what the region with nothing held could serve elsewhere only is 13, or waits for ever
abbrev too_large_anywhere : Implementation
too_large_anywhere =
    but segment_get 8 λ m d c a.
    let r = region_in d c in
    cond (servable r (need_of r (asked c).number 0)) (refused m d Unsatisfied) a

not_too_large_anywhere : ¬ Demand3 too_large_anywhere
unfolding everything
not_too_large_anywhere = differs too_large_anywhere (create ∷ get_on_lem 128 64 ∷ []) refl

-- ---- BY HALVES

-- 91. 11 COMES BEFORE 4: the region in the slot is asked, whose id is another
abbrev undefined_first : Implementation
undefined_first =
    but segment_get 4 λ m d c a.
    cond (by_halves (get_or d.regions (slot_of (asked c).id) no_region).order && not (eqb (asked c).alignment 0)) (refused m d NotDefined) a

not_undefined_first : ¬ Demand3 undefined_first
unfolding everything
not_undefined_first = differs undefined_first (create_halves ∷ call (GetSegment 17 16 16 No 0 0 0) ∷ []) refl

-- 92. THE ALIGNMENT IS NOT READ: 11 never comes
abbrev unread : Implementation
unread = but segment_get 11 λ m d c a. perform m d (GetSegment (asked c).id (asked c).number 0 No 0 0 0)

not_unread : ¬ Demand3 unread
unfolding everything
not_unread = differs unread (create_halves ∷ get_on_lem 16 16 ∷ []) refl

-- 93. ONE THAT NO REGION ALLOWS IS 8 THERE TOO
abbrev size_first : Implementation
size_first = but segment_get 11 λ m d c a. cond (is_alignment (region_in d c).page (asked c).alignment) a (refused m d InvalidSize)

not_size_first : ¬ Demand3 size_first
unfolding everything
not_size_first = differs size_first (create_halves ∷ get_on_lem 24 16 ∷ []) refl

-- ---- WHAT A WAITER KEEPS

-- the record with no alignment kept
abbrev forgotten : List Waiter → List Waiter
forgotten [] = []
forgotten (w ∷ ws) =
    record { task = w.task; region = w.region; size = w.size; alignment = 0; priority = w.priority; ticks = w.ticks } ∷ forgotten ws

abbrev unaligned : Manager → Manager
unaligned d = with_queue d (forgotten d.waiters)

-- page 48 is held, and all behind it; a task waits for a multiple of 32, and page 48 comes back
abbrev waiting : List Ask
waiting = create ∷ get 16 ∷ get 112 ∷ wait_on 32 1 16 0 ∷ return 48 ∷ []

-- 94. IT IS FORGOTTEN AT SERVING
abbrev served_anywhere : Implementation
served_anywhere = but segment_return 0 λ m d c a. perform m (unaligned d) c

not_served_anywhere : ¬ Demand3 served_anywhere
unfolding everything
not_served_anywhere = differs served_anywhere waiting refl

-- 95. IT IS NOT KEPT
abbrev waits_anywhere : Implementation
waits_anywhere = but segment_get 255 λ m d c a. keeping a (unaligned a.manager)

not_waits_anywhere : ¬ Demand3 waits_anywhere
unfolding everything
not_waits_anywhere = differs waits_anywhere waiting refl

-- 98. ONE OF JUST THE PAGE SIZE IS KEPT AS 0: no reply shows it, the queue does
abbrev keeps_zero : Implementation
keeps_zero = but segment_get 255 λ m d c a. cond (eqb (asked c).alignment (region_in d c).page) (keeping a (unaligned a.manager)) a

not_keeps_zero : ¬ Demand3 keeps_zero
unfolding everything waiters_for waiters_of insert_all insert_by waits_in
not_keeps_zero h =
    let c = (claimed keeps_zero h (create ∷ get 128 ∷ wait_on 16 1 16 0 ∷ [])).region 1 _ refl in
    let x : ◌≡◌ {A = ℕ} 0 16 = ap (λ (ws : List Waiter). (get_or ws 0 no_waiter).alignment) c.queue in
    omega arith

-- ---- WHICH RECORDS ARE SOUND

-- the record with another alignment and size of its first waiter
abbrev changed : ℕ → ℕ → Manager → Manager
changed alignment size d =
    let w = get_or d.waiters 0 no_waiter in
    with_queue d
    (set d.waiters 0 (record { task = w.task; region = w.region; size = size; alignment = alignment; priority = w.priority; ticks = w.ticks }))

-- 96. A WAITER'S ALIGNMENT IS NOT CHECKED: one of no multiple is taken for sound
abbrev any_sound : Implementation
any_sound = answering λ m d c a. cond (eqb (number_of a.status) 25) (perform m (unaligned d) c) a

not_any_sound : ¬ Demand1 any_sound
unfolding everything
not_any_sound =
    let s = reached waiting in
    passes_unsound any_sound s.memory (changed 24 16 s.manager) (RegionInformation 1) refl refl

-- 97. ITS SIZE IS CHECKED WITHOUT THE ALIGNMENT: one that the region with nothing held could serve elsewhere only is taken for sound
abbrev allowed : Manager → Waiter → Bool
allowed d w = eqb w.task 0 || is_alignment (region_of d w.region).page w.alignment

abbrev elsewhere_sound : Implementation
elsewhere_sound = answering λ m d c a. cond (eqb (number_of a.status) 25 && every (allowed d) d.waiters) (perform m (unaligned d) c) a

not_elsewhere_sound : ¬ Demand1 elsewhere_sound
unfolding everything
not_elsewhere_sound =
    let s = reached waiting in
    passes_unsound elsewhere_sound s.memory (changed 128 64 s.manager) (RegionInformation 1) refl refl
