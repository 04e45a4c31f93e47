-- WRONG ANSWERS: the managers 1 to 31, 49, 55 and 56, each of which breaks one rule (those that it shuts out by name and those of its slips
-- among them), and for each a list of calls of which the last is not answered as the receipts say. So none of them meets demand 3. The
-- managers 32 to 46, which don't meet demand 1, are in Effects; those that are wrong about ids are in Ids, and about serving in Serving. Assumes nothing.
use mathlib.Core.Path.{refl}
use mathlib.Core.Bool.{Bool, true, cond, not, ◌&&◌}
use mathlib.Core.List.{List, [], ◌∷◌, reverse}
use Prim.Native.Nat.{ℕ, zero, suc, ◌+◌, ◌-◌, ◌*◌, ◌/◌, ◌%◌}
use lib.ListN.{get_or}
use lib.Seq.{sets}
use lib.Dec.{eqb, leb}
use Rattle.arith.specs.Layout.{most_pages}
use Rattle.manager.specs.Record.{no_waiter, slot_of, region_of, partition_of, with_region, with_partition}
use Rattle.manager.specs.Result.{refused, done}
use Rattle.manager.specs.Map.{Segment, free_sizes, sum_of, total}
use Rattle.manager.specs.Kind.{allocate}
use Rattle.manager.specs.Paged.{place_from, paged}
use Rattle.manager.specs.Region.{first_page_of, address_of, page_at, map_at, segments, with_segments, held_at, pages_of, pages_asked, need_of, placed, taken}
use Rattle.manager.specs.Queue.{enqueue, dequeue}
use Rattle.manager.specs.Kind.{on_place}
use Rattle.manager.specs.Partition.{set_before, link}
use Rattle.manager.specs.Regions.{informed}
use Rattle.manager.specs.Access.{read_segment, write_segment}
use Rattle.manager.specs.Perform.{Implementation, perform, asked}
use Rattle.manager.specs.declared.Need.{Need}
use Rattle.manager.specs.declared.Region.{Region}
use Rattle.manager.specs.declared.Partition.{Partition}
use Rattle.manager.specs.declared.Notice.{Notice}
use Rattle.manager.specs.declared.Call.TheVariants.{CreateRegion, GetSegment, ReturnSegment, SegmentSize, ResizeSegment, RegionInformation}
use Rattle.manager.specs.declared.Order.TheVariants.{Fifo, Priority}
use Rattle.manager.specs.declared.Wait.TheVariants.{Yes}
use Rattle.manager.specs.declared.Status.TheVariants.{InvalidName, InvalidAddress, InvalidSize, ResourceInUse, Unsatisfied, InternalError}
use Rattle.trace.specs.Trace.{Ask, call, read, write}
use Rattle.trace.specs.Claims.{Demand3}
use Rattle.refuted.proofs.Refute.{differs}
use Rattle.refuted.proofs.Calls.{create, create_uneven, get, wait, return, ident, delete, clock, divide, buffer, back, everything}
use Rattle.refuted.proofs.Wrong.{region_create, region_ident, region_delete, segment_get, segment_return, segment_resize, region_information_lem, buffer_get, buffer_return, clock_tick, answering, but, valued, noticing, keeping, emptied}

-- 1. EVERY CALL IS REFUSED WITH 13, creates included
abbrev refuses_all : Implementation
refuses_all = answering λ m d c a. refused m d Unsatisfied

not_refuses_all : ¬ Demand3 refuses_all
unfolding everything
not_refuses_all = differs refuses_all (create ∷ []) refl

-- 2. EVERY GET THAT SHOULD SUCCEED IS REFUSED WITH 13
abbrev refuses_gets : Implementation
refuses_gets = but segment_get 0 λ m d c a. refused m d Unsatisfied

not_refuses_gets : ¬ Demand3 refuses_gets
unfolding everything
not_refuses_gets = differs refuses_gets (create ∷ get 64 ∷ []) refl

-- 3. ONE ADDRESS FOR ALL: a get answers the region's first page, with the memory as it should be
abbrev one_address : Implementation
one_address =
    but segment_get 0 λ m d c a.
    let r = region_of d (asked c).id in
    valued a (address_of r (first_page_of r))

not_one_address : ¬ Demand3 one_address
unfolding everything
not_one_address = differs one_address (create ∷ get 64 ∷ get 64 ∷ []) refl

-- 4. THE LAST FIT, from its high end: the map read backwards
abbrev last_place : List Segment → Need → ℕ
last_place s w = on_place (place_from w 0 (reverse s)) (λ p. total s - w.pages - p) 0

abbrev last_fit : Implementation
last_fit =
    but segment_get 0 λ m d c a.
    let r = region_of d (asked c).id in
    let w = need_of r (asked c).number 0 in
    done (with_segments m r (reverse (allocate paged w 0 (reverse (segments m r))))) d (address_of r (first_page_of r + last_place (segments m r) w))

not_last_fit : ¬ Demand3 last_fit
unfolding everything
not_last_fit = differs last_fit (create ∷ get 64 ∷ []) refl

-- 5. THE TOTAL OF FREE PAGES IS COMPARED WITH THE REQUEST, instead of one run: it is given from the first page on
abbrev compares_total : Implementation
compares_total =
    but segment_get 13 λ m d c a.
    let r = region_of d (asked c).id in
    cond (leb (pages_asked r (asked c).number) (sum_of (free_sizes (segments m r)))) (done m d (address_of r (first_page_of r))) a

not_compares_total : ¬ Demand3 compares_total
unfolding everything
not_compares_total = differs compares_total (create ∷ get 64 ∷ get 64 ∷ get 64 ∷ return 64 ∷ return 192 ∷ get 128 ∷ []) refl

-- 6. A REQUEST IS ROUNDED UP WITH A SUM THAT WRAPS at 2^32
abbrev wrapping_sum : Implementation
wrapping_sum =
    but segment_get 8 λ m d c a.
    let r = region_of d (asked c).id in
    let w : Need = record { pages = ((asked c).number + (r.page - 1)) % 4294967296 / r.page; every = 0 } in
    on_place (placed m r w) (λ p. done (taken m r w) d (address_of r p)) a

not_wrapping_sum : ¬ Demand3 wrapping_sum
unfolding everything
not_wrapping_sum = differs wrapping_sum (create ∷ get 4294967295 ∷ []) refl

-- 7. NOBODY EVER WAITS: 13 for 255
abbrev never_waits : Implementation
never_waits = but segment_get 255 λ m d c a. refused m d Unsatisfied

not_never_waits : ¬ Demand3 never_waits
unfolding everything
not_never_waits = differs never_waits (create ∷ get 192 ∷ wait 1 64 0 ∷ []) refl

-- 8. NOBODY IS SERVED WHILE ANOTHER WAITS
abbrev waits_behind : Implementation
waits_behind = but segment_get 0 λ m d c a. cond (eqb (get_or d.waiters 0 no_waiter).task 0) a (refused m d Unsatisfied)

not_waits_behind : ¬ Demand3 waits_behind
unfolding everything
not_waits_behind = differs waits_behind (create ∷ get 64 ∷ wait 1 192 0 ∷ get 64 ∷ []) refl

-- 9. A RETURN ANSWERS 0 AND CHANGES NOTHING
abbrev return_without_effect : Implementation
return_without_effect = but segment_return 0 λ m d c a. done m d 0

not_return_without_effect : ¬ Demand3 return_without_effect
unfolding everything
not_return_without_effect = differs return_without_effect (create ∷ get 192 ∷ return 64 ∷ get 64 ∷ []) refl

-- 10. A RETURN JOINS NO NEIGHBOURS: it takes the mark off the segment's first word
abbrev unjoined : Implementation
unjoined =
    but segment_return 0 λ m d c a.
    let r = region_of d (asked c).id in
    done (sets m (map_at r + (page_at r (asked c).number - first_page_of r)) (2 * held_at m r (asked c).number ∷ [])) d 0

not_unjoined : ¬ Demand3 unjoined
unfolding everything
not_unjoined = differs unjoined (create ∷ get 64 ∷ return 64 ∷ get 192 ∷ []) refl

-- 11. A RETURN OF AN ADDRESS INSIDE A SEGMENT IS TAKEN: it frees the segment that the address is in
abbrev segment_start : List ℕ → Region → ℕ → ℕ → ℕ
segment_start m r zero a = a
segment_start m r (suc f) a = cond (eqb (held_at m r a) 0) (segment_start m r f (a - r.page)) a

abbrev returns_inside : Implementation
returns_inside =
    but segment_return 9 λ m d c a.
    let id = (asked c).id in
    perform m d (ReturnSegment id (segment_start m (region_of d id) 2 (asked c).number))

not_returns_inside : ¬ Demand3 returns_inside
unfolding everything
not_returns_inside = differs returns_inside (create ∷ get 128 ∷ return 128 ∷ []) refl

-- 12. A RETURN EMPTIES THE WHOLE QUEUE, and tells nobody
abbrev clears_queue : Implementation
clears_queue = but segment_return 0 λ m d c a. perform m (emptied d) c

not_clears_queue : ¬ Demand3 clears_queue
unfolding everything
not_clears_queue = differs clears_queue (create ∷ get 64 ∷ get 128 ∷ wait 1 192 0 ∷ return 64 ∷ return 128 ∷ []) refl

-- 13. A RETURN SERVES NOBODY
abbrev serves_nobody : Implementation
serves_nobody = but segment_return 0 λ m d c a. keeping (perform m (emptied d) c) d

not_serves_nobody : ¬ Demand3 serves_nobody
unfolding everything
not_serves_nobody = differs serves_nobody (create ∷ get 192 ∷ wait 1 64 0 ∷ return 64 ∷ []) refl

-- 14. A RETURN STRIKES THE FIRST WAITER, and serves the others
abbrev drops_first_waiter : Implementation
drops_first_waiter = but segment_return 0 λ m d c a. perform m (dequeue d 0) c

not_drops_first_waiter : ¬ Demand3 drops_first_waiter
unfolding everything
not_drops_first_waiter = differs drops_first_waiter (create ∷ get 192 ∷ wait 1 64 0 ∷ wait 2 64 0 ∷ return 64 ∷ []) refl

-- 15. A SMALL WAITER IS SERVED PAST A FIRST ONE WHO DOESN'T FIT
abbrev nobody_told : List Notice → Bool
nobody_told [] = true
nobody_told (n ∷ ns) = not true

abbrev serves_past : Implementation
serves_past =
    but segment_return 0 λ m d c a.
    let b = perform m (dequeue d 0) c in
    cond (nobody_told a.notices) (keeping b (enqueue b.manager (get_or d.waiters 0 no_waiter))) a

not_serves_past : ¬ Demand3 serves_past
unfolding everything
not_serves_past = differs serves_past (create ∷ get 64 ∷ get 128 ∷ wait 3 192 0 ∷ wait 5 64 0 ∷ return 64 ∷ []) refl

-- 16. EVERY QUEUE IS BY ARRIVAL, whatever was asked for
abbrev arrived : Region → Region
arrived r = record { name = r.name; generation = r.generation; start = r.start; length = r.length; page = r.page; order = Fifo }

abbrev by_arrival : Implementation
by_arrival = but region_create 0 λ m d c a. keeping a (with_region a.manager (slot_of a.value) (arrived (region_of a.manager a.value)))

abbrev wait_as : ℕ → ℕ → Ask
wait_as task priority = call (GetSegment 1 64 0 Yes task priority 0)

not_by_arrival : ¬ Demand3 by_arrival
unfolding everything
not_by_arrival = differs by_arrival (call (CreateRegion 1 4 252 64 Priority) ∷ get 192 ∷ wait_as 1 2 ∷ wait_as 2 1 ∷ return 64 ∷ []) refl

-- 17. A TICK EMPTIES THE WHOLE QUEUE, and tells nobody
abbrev tick_clears : Implementation
tick_clears = but clock_tick 0 λ m d c a. done m (emptied d) 0

not_tick_clears : ¬ Demand3 tick_clears
unfolding everything
not_tick_clears = differs tick_clears (create ∷ get 192 ∷ wait 1 64 2 ∷ clock ∷ clock ∷ []) refl

-- 18. TIME RUNS OUT AND NOBODY IS TOLD
abbrev tick_without_notice : Implementation
tick_without_notice = but clock_tick 0 λ m d c a. noticing a []

not_tick_without_notice : ¬ Demand3 tick_without_notice
unfolding everything
not_tick_without_notice = differs tick_without_notice (create ∷ get 192 ∷ wait 1 64 1 ∷ clock ∷ []) refl

-- 19. A RESIZE CHANGES NOTHING
abbrev resize_without_effect : Implementation
resize_without_effect = but segment_resize 0 λ m d c a. done m d a.value

not_resize_without_effect : ¬ Demand3 resize_without_effect
unfolding everything
not_resize_without_effect = differs resize_without_effect (create ∷ get 64 ∷ call (ResizeSegment 1 64 128) ∷ call (SegmentSize 1 64) ∷ []) refl

-- 20. INFORMATION IS INVENTED
abbrev invented_information : Implementation
invented_information =
    but region_information_lem 0 λ m d c a.
    informed m d (record { free_count = 1; free_largest = 64; free_total = 64; held_count = 1; held_largest = 64; held_total = 64 })

not_invented_information : ¬ Demand3 invented_information
unfolding everything
not_invented_information = differs invented_information (create ∷ call (RegionInformation 1) ∷ []) refl

-- 21. EVERY IDENT IS REFUSED
abbrev refuses_ident : Implementation
refuses_ident = but region_ident 0 λ m d c a. refused m d InvalidName

not_refuses_ident : ¬ Demand3 refuses_ident
unfolding everything
not_refuses_ident = differs refuses_ident (create ∷ ident ∷ []) refl

-- 22. EVERY DELETE IS REFUSED
abbrev refuses_delete : Implementation
refuses_delete = but region_delete 0 λ m d c a. refused m d ResourceInUse

not_refuses_delete : ¬ Demand3 refuses_delete
unfolding everything
not_refuses_delete = differs refuses_delete (create ∷ delete ∷ []) refl

-- 23. A DELETE IS CALLED DAMAGE
abbrev says25 : Implementation
says25 = but region_delete 0 λ m d c a. refused m d InternalError

not_says25 : ¬ Demand3 says25
unfolding everything
not_says25 = differs says25 (create ∷ delete ∷ []) refl

-- 24. A DELETED REGION STAYS
abbrev deleted_stays : Implementation
deleted_stays = but region_delete 0 λ m d c a. done m d 0

not_deleted_stays : ¬ Demand3 deleted_stays
unfolding everything
not_deleted_stays = differs deleted_stays (create ∷ delete ∷ ident ∷ []) refl

-- 25. NO BUFFER IS EVER FREE
abbrev no_buffer : Implementation
no_buffer = but buffer_get 0 λ m d c a. refused m d Unsatisfied

not_no_buffer : ¬ Demand3 no_buffer
unfolding everything
not_no_buffer = differs no_buffer (divide ∷ buffer ∷ []) refl

-- 26. ONE BUFFER FOR ALL
abbrev one_buffer : Implementation
one_buffer = but buffer_get 0 λ m d c a. valued a (partition_of d (asked c).id).start

not_one_buffer : ¬ Demand3 one_buffer
unfolding everything
not_one_buffer = differs one_buffer (divide ∷ buffer ∷ buffer ∷ []) refl

-- 27. WHAT CAME BACK LAST GOES OUT FIRST
abbrev to_front : Partition → ℕ → Partition
to_front p a =
    record {
      name = p.name;
      generation = p.generation;
      start = p.start;
      length = p.length;
      size = p.size;
      front = a;
      rear = p.rear;
      free = p.free + 1;
    }

abbrev last_returned_first : Implementation
last_returned_first =
    but buffer_return 0 λ m d c a.
    let p = partition_of d (asked c).id in
    let at = (asked c).number in
    done (link (set_before m p.front at) at p.front 0) (with_partition d (slot_of (asked c).id) (to_front p at)) 0

not_last_returned_first : ¬ Demand3 last_returned_first
unfolding everything
not_last_returned_first = differs last_returned_first (divide ∷ buffer ∷ back 16 ∷ buffer ∷ []) refl

-- 28. NO BUFFER IS TAKEN BACK
abbrev refuses_returns : Implementation
refuses_returns = but buffer_return 0 λ m d c a. refused m d InvalidAddress

not_refuses_returns : ¬ Demand3 refuses_returns
unfolding everything
not_refuses_returns = differs refuses_returns (divide ∷ buffer ∷ back 16 ∷ []) refl

-- 29. A BUFFER IS TAKEN BACK TWICE
abbrev returned_twice : Implementation
returned_twice = but buffer_return 9 λ m d c a. done m d 0

not_returned_twice : ¬ Demand3 returned_twice
unfolding everything
not_returned_twice = differs returned_twice (divide ∷ buffer ∷ back 16 ∷ back 16 ∷ []) refl

-- 30. EVERY READ IS EMPTY
abbrev empty_reads : Implementation
empty_reads = record { call = perform; read = λ m d id address. []; write = write_segment }

not_empty_reads : ¬ Demand3 empty_reads
unfolding everything
not_empty_reads = differs empty_reads (create ∷ get 64 ∷ read 1 64 ∷ []) refl

-- 31. EVERY WRITE IS REFUSED
abbrev refuses_writes : Implementation
refuses_writes = record { call = perform; read = read_segment; write = λ m d id address first words. refused m d InvalidAddress }

not_refuses_writes : ¬ Demand3 refuses_writes
unfolding everything
not_refuses_writes = differs refuses_writes (create ∷ get 64 ∷ write 1 64 0 (7 ∷ []) ∷ []) refl

-- 49. PAGES ARE COUNTED FROM THE REGION'S FIRST ONE: a get answers how far its segment is from there, with the memory as it should be
abbrev counts_from_first : Implementation
counts_from_first =
    but segment_get 0 λ m d c a.
    let r = region_of d (asked c).id in
    valued a (a.value - address_of r (first_page_of r))

not_counts_from_first : ¬ Demand3 counts_from_first
unfolding everything
not_counts_from_first = differs counts_from_first (create ∷ get 64 ∷ []) refl

-- 55. THE DIVISION IS NOT CORRECTED: a get of as many pages as the division gives is answered with the first one, where they don't fit
abbrev counts_uncorrected : Implementation
counts_uncorrected =
    but segment_get 8 λ m d c a.
    let r = region_of d (asked c).id in
    cond (eqb (pages_asked r (asked c).number) (most_pages r.length r.page)) (done m d (address_of r (first_page_of r))) a

not_counts_uncorrected : ¬ Demand3 counts_uncorrected
unfolding everything
not_counts_uncorrected = differs counts_uncorrected (create_uneven ∷ get 65 ∷ []) refl

-- 56. THE DIVISION IS CORRECTED BY TWO: a get of all pages is refused, where the division is one too large
abbrev counts_two_less : Implementation
counts_two_less =
    but segment_get 0 λ m d c a.
    let r = region_of d (asked c).id in
    cond (eqb (pages_asked r (asked c).number) (pages_of r) && eqb (pages_of r + 1) (most_pages r.length r.page)) (refused m d InvalidSize) a

not_counts_two_less : ¬ Demand3 counts_two_less
unfolding everything
not_counts_two_less = differs counts_two_less (create_uneven ∷ get 64 ∷ []) refl
