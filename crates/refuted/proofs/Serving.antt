-- WRONG SERVING: the managers 57 to 66, each of which is wrong about who is served after a resize or a tick, or in which order. Those that
-- show along a list of calls don't meet demand 3. The others show at once where a first waiter stands beside room, which no list reaches: a
-- sound record has him put into the queue by hand, and one call over it refutes demand 1 or demand 2. Assumes nothing.
use mathlib.Core.Path.{refl}
use mathlib.Core.Bool.{Bool, cond, ◌&&◌}
use mathlib.Core.List.{List, [], ◌∷◌, ◌++◌}
use Prim.Native.Nat.{ℕ, zero, suc, ◌+◌, ◌*◌}
use lib.ListN.{length, drop}
use lib.Dec.{eqb}
use Rattle.manager.specs.Lists.{any}
use Rattle.manager.specs.Record.{slots, region_of}
use Rattle.manager.specs.Region.{pages_asked}
use Rattle.manager.specs.Queue.{enqueue, leaving, after_tick}
use Rattle.manager.specs.Regions.{region_id}
use Rattle.manager.specs.Serve.{Served, quiet, behind, serve, serve_slot, serve_all, serve_after, from_served}
use Rattle.manager.specs.Perform.{Implementation, perform, asked}
use Rattle.manager.specs.declared.Manager.{Manager}
use Rattle.manager.specs.declared.Call.TheVariants.{CreateRegion, GetSegment, ReturnSegment, ResizeSegment, Tick}
use Rattle.manager.specs.declared.Order.TheVariants.{Fifo}
use Rattle.manager.specs.declared.Wait.TheVariants.{No, Yes}
use Rattle.manager.specs.declared.Status.TheVariants.{Unsatisfied}
use Rattle.trace.specs.Trace.{Ask, call}
use Rattle.trace.specs.Claims.{Demand3}
use Rattle.effects.specs.Effects.{Demand1}
use Rattle.refuted.proofs.Refute.{differs, refuses_otherwise, tells_again, Demand2, performs_otherwise}
use Rattle.refuted.proofs.Calls.{create, get, wait, return, resize, clock, everything}
use Rattle.refuted.proofs.Wrong.{segment_resize, clock_tick, but, noticing, keeping, emptied}
use Rattle.refuted.proofs.Effects.{reached, whole}

-- ---- LISTS, AND RECORDS

-- the first waiter asks for three pages and has one tick, the second asks for one; then one page comes free
abbrev blocked : List Ask
blocked = get 64 ∷ get 128 ∷ wait 1 192 1 ∷ wait 2 64 0 ∷ return 64 ∷ []

-- a waiter put into the queue of region id, beside room
abbrev besides : Manager → ℕ → ℕ → ℕ → ℕ → Manager
besides d id task size ticks = enqueue d (record { task = task; region = id; size = size; alignment = 0; priority = 1; ticks = ticks })

-- two regions of 6 pages of 16 bytes, at 32 and at 160
abbrev two : List Ask
two = call (CreateRegion 1 4 124 16 Fifo) ∷ call (CreateRegion 2 128 128 16 Fifo) ∷ []

abbrev get_in : ℕ → ℕ → Ask
get_in id size = call (GetSegment id size 0 No 0 0 0)

abbrev wait_in : ℕ → ℕ → ℕ → ℕ → Ask
wait_in id task size ticks = call (GetSegment id size 0 Yes task 1 ticks)

-- in each of them as above: the first of two waiters is sent away at the next tick, and the second fits then
abbrev blocked_in : ℕ → ℕ → ℕ → List Ask
blocked_in id task last =
    get_in id 80 ∷ get_in id 16 ∷ wait_in id task 32 1 ∷ wait_in id (task + 1) 16 0 ∷ call (ReturnSegment id last) ∷ []

-- ---- ALONG A LIST

-- 57. GRANTS COME BEFORE TIME-OUTS
abbrev grants_first : Implementation
grants_first = but clock_tick 0 λ m d c a. let ns = leaving d.waiters in noticing a (drop (length ns) a.notices ++ ns)

not_grants_first : ¬ Demand3 grants_first
unfolding everything
not_grants_first = differs grants_first (create ∷ blocked ++ (clock ∷ [])) refl

-- 58. A TICK SERVES NOBODY, as it did before request 3
abbrev tick_serves_nobody : Implementation
tick_serves_nobody = but clock_tick 0 λ m d c a. from_served 0 (behind (leaving d.waiters) (quiet m (after_tick d)))

not_tick_serves_nobody : ¬ Demand3 tick_serves_nobody
unfolding everything
not_tick_serves_nobody = differs tick_serves_nobody (create ∷ blocked ++ (clock ∷ [])) refl

-- 59. A RESIZE SERVES NOBODY, as it did before request 3
abbrev resize_serves_nobody : Implementation
resize_serves_nobody = but segment_resize 0 λ m d c a. keeping (perform m (emptied d) c) d

not_resize_serves_nobody : ¬ Demand3 resize_serves_nobody
unfolding everything
not_resize_serves_nobody = differs resize_serves_nobody (create ∷ get 192 ∷ wait 1 64 0 ∷ resize 64 128 ∷ []) refl

-- 60. THE HIGHEST SLOT IS SERVED FIRST
abbrev serve_down : ℕ → List ℕ → Manager → Served
serve_down zero m d = quiet m d
serve_down (suc i) m d = let s = serve_slot m d i in behind s.notices (serve_down i s.memory s.manager)

abbrev highest_first : Implementation
highest_first = but clock_tick 0 λ m d c a. from_served 0 (behind (leaving d.waiters) (serve_down slots m (after_tick d)))

not_highest_first : ¬ Demand3 highest_first
unfolding everything
not_highest_first = differs highest_first (two ++ (blocked_in 1 1 112 ++ (blocked_in 2 3 240 ++ (clock ∷ [])))) refl

-- ---- WHERE A FIRST WAITER STANDS BESIDE ROOM

-- 61. ONLY THE REGIONS THAT LOST A WAITER ARE SERVED
abbrev lost : Manager → ℕ → Bool
lost d i = any (λ w. eqb w.ticks 1 && eqb w.region (region_id d i)) d.waiters

abbrev serve_lost : Manager → ℕ → ℕ → List ℕ → Manager → Served
serve_lost old zero i m d = quiet m d
serve_lost old (suc n) i m d =
    let s = cond (lost old i) (serve_slot m d i) (quiet m d) in
    behind s.notices (serve_lost old n (suc i) s.memory s.manager)

abbrev losers_only : Implementation
losers_only = but clock_tick 0 λ m d c a. from_served 0 (behind (leaving d.waiters) (serve_lost d slots 0 m (after_tick d)))

not_losers_only : ¬ Demand2 losers_only
unfolding everything
not_losers_only =
    let s = reached (two ++ (get_in 1 16 ∷ get_in 2 96 ∷ wait_in 2 2 16 1 ∷ [])) in
    performs_otherwise losers_only s.memory (besides s.manager 1 1 16 0) Tick refl

-- 62. A TICK WITHOUT TIME-OUTS SERVES
abbrev tick_always_serves : Implementation
tick_always_serves = but clock_tick 0 λ m d c a. from_served 0 (behind (leaving d.waiters) (serve_all m (after_tick d)))

not_tick_always_serves : ¬ Demand2 tick_always_serves
unfolding everything
not_tick_always_serves =
    let s = reached (create ∷ get 64 ∷ []) in
    performs_otherwise tick_always_serves s.memory (besides s.manager 1 1 64 0) Tick refl

-- 63. WHO IS SENT AWAY IS SERVED TOO: a second notice for one task
abbrev sent_and_served : Implementation
sent_and_served = but clock_tick 0 λ m d c a. let ns = leaving d.waiters in from_served 0 (behind ns (serve_after ns m d))

not_sent_and_served : ¬ Demand1 sent_and_served
unfolding everything
not_sent_and_served =
    let s = reached (create ∷ get 64 ∷ []) in
    tells_again sent_and_served s.memory (besides s.manager 1 1 64 1) Tick (whole refl refl refl) refl

-- 64. A REFUSED RESIZE SERVES
abbrev refused_serves : Implementation
refused_serves =
    but segment_resize 13 λ m d c a.
    let s = serve m d (asked c).id in
    record { memory = s.memory; status = Unsatisfied; value = a.value; information = a.information; notices = s.notices; manager = s.manager }

not_refused_serves : ¬ Demand1 refused_serves
unfolding everything
not_refused_serves =
    let s = reached (create ∷ get 64 ∷ get 64 ∷ []) in
    refuses_otherwise refused_serves s.memory (besides s.manager 1 1 64 0) (ResizeSegment 1 64 128) (λ a. length a.notices) refl refl

-- 65. A RESIZE THAT KEEPS THE PAGE COUNT SERVES NOBODY
abbrev same_serves_nobody : Implementation
same_serves_nobody =
    but segment_resize 0 λ m d c a.
    let r = region_of d (asked c).id in
    cond (eqb (pages_asked r (asked c).number * r.page) a.value) (keeping (perform m (emptied d) c) d) a

not_same_serves_nobody : ¬ Demand2 same_serves_nobody
unfolding everything
not_same_serves_nobody =
    let s = reached (create ∷ get 64 ∷ []) in
    performs_otherwise same_serves_nobody s.memory (besides s.manager 1 1 64 0) (ResizeSegment 1 64 60) refl

-- 66. A RESIZE GROWS AFTER IT HAS SERVED: its pages are lent by then
abbrev grows_late : Implementation
grows_late =
    but segment_resize 0 λ m d c a.
    let s = serve m d (asked c).id in
    keeping (noticing (perform s.memory (emptied s.manager) c) s.notices) s.manager

not_grows_late : ¬ Demand2 grows_late
unfolding everything
not_grows_late =
    let s = reached (create ∷ get 64 ∷ []) in
    performs_otherwise grows_late s.memory (besides s.manager 1 1 64 0) (ResizeSegment 1 64 192) refl
