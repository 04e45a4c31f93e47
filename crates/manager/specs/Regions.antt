-- Rules 11: the directives on regions and the clock tick. Each has its checks in the order of "Order of checks". Assumes nothing.
use Rattle.std.specs.Prelude.{ℕ, ◌+◌, ◌*◌, Bool, cond, not, List, [], ◌∷◌, length, get_or, eqb, leb, ltb}
use Rattle.arith.specs.Round.{round_up}
use Rattle.manager.specs.Record.{slots, tasks, no_region, emptied_region, unspent, region_of, slot_of, id_of, with_region}
use Rattle.manager.specs.Result.{Result, Check, check, checked, refused, done, replied}
use Rattle.manager.specs.Lists.{any, index_of}
use Rattle.manager.specs.Map.{largest_of, sum_of}
use Rattle.manager.specs.Region.{dead, kind, pages_of, address_of, opened, held_at, can_have, changed, any_held, frees, helds, pages_asked, is_alignment, need_of, servable, placed, taken, areas, overlap}
use Rattle.manager.specs.Queue.{enqueue, waiting, leaving, after_tick}
use Rattle.manager.specs.Kind.{on_place}
use Rattle.manager.specs.Serve.{behind, serve, serve_after, from_served}
use Rattle.manager.specs.Sound.{sound}
use Rattle.manager.specs.declared.Manager.{Manager}
use Rattle.manager.specs.declared.Region.{Region}
use Rattle.manager.specs.declared.Waiter.{Waiter}
use Rattle.manager.specs.declared.Area.{Area}
use Rattle.manager.specs.declared.Information.{Information}
use Rattle.manager.specs.declared.Order.{Order}
use Rattle.manager.specs.declared.Wait.{Wait}
use Rattle.manager.specs.declared.Wait.TheVariants.{No, Yes}
use Rattle.manager.specs.declared.Status.TheVariants.{Successful, InvalidName, InvalidId, TooMany, InvalidSize, InvalidAddress, InvalidNumber, NotDefined, ResourceInUse, Unsatisfied, IncorrectState, InvalidPriority, InternalError, Waiting}

-- "25 first always", where the records that the directive looks at are not sound; then its own checks, then what it does
abbrev pub answered : Bool → List ℕ → Manager → List Check → Result → Result
answered ok m d cs act = checked (check (not ok) InternalError ∷ cs) (refused m d) act

-- an area that meets another live one
abbrev pub overlaps : Manager → Area → Bool
overlaps d a = any (overlap a) (areas d)

-- an area that ends past the memory
abbrev pub past_memory : List ℕ → ℕ → ℕ → Bool
past_memory m start bytes = ltb (4 * length m) (start + bytes)

-- Create takes the lowest empty slot that isn't spent, ident the one with the name: in sound records no two live ones have it
abbrev pub unspent_region : Manager → ℕ
unspent_region d = index_of (λ r. unspent r.name r.generation) d.regions

abbrev pub region_named : Manager → ℕ → ℕ
region_named d name = index_of (λ r. eqb r.name name) d.regions

-- the generation of a slot, and the id of what is in it
abbrev pub region_generation : Manager → ℕ → ℕ
region_generation d i = (get_or d.regions i no_region).generation

abbrev pub region_id : Manager → ℕ → ℕ
region_id d i = id_of i (region_generation d i)

-- create region: 3, a name that a live region has 3, start 9, past memory 9, page 8, area 8, overlap 9, 5
abbrev pub new_region : ℕ → ℕ → ℕ → ℕ → ℕ → Order → Region
new_region generation name start bytes page order =
    record { name = name; generation = generation; start = start; length = bytes; page = round_up page 8; order = order }

unfoldable pub create_region : List ℕ → Manager → ℕ → ℕ → ℕ → ℕ → Order → Result
create_region m d name start bytes page order =
    let slot = unspent_region d in
    let r = new_region (region_generation d slot) name start bytes page order in
    answered (sound m d) m d
    (check (eqb name 0) InvalidName
    ∷ check (ltb (region_named d name) slots) InvalidName
    ∷ check (eqb start 0) InvalidAddress
    ∷ check (past_memory m start bytes) InvalidAddress
    ∷ check (eqb page 0) InvalidSize
    ∷ check (ltb 4096 page) InvalidSize
    ∷ check (eqb (pages_of r) 0) InvalidSize
    ∷ check (overlaps d (record { start = start; length = bytes })) InvalidAddress
    ∷ check (leb slots slot) TooMany
    ∷ [])
    (done (opened m r) (with_region d slot r) (region_id d slot))

-- ident: 3
unfoldable pub ident_region : List ℕ → Manager → ℕ → Result
ident_region m d name =
    answered (sound m d) m d
    (check (eqb name 0) InvalidName
    ∷ check (leb slots (region_named d name)) InvalidName
    ∷ [])
    (done m d (region_id d (region_named d name)))

-- delete: 4, 12; it changes no word of memory, and the generation rises by one
unfoldable pub delete_region : List ℕ → Manager → ℕ → Result
delete_region m d id =
    let r = region_of d id in
    answered (sound m d) m d
    (check (dead r) InvalidId
    ∷ check (any_held m r) ResourceInUse
    ∷ [])
    (done m (with_region d (slot_of id) (emptied_region (r.generation + 1))) 0)

-- get: size 0 (8), 4, an alignment that its kind does not know 11, any other that is not allowed 8, what the region with nothing held could
-- not serve 8; if waiting is allowed 10, 19, 14; then the search
abbrev pub wait_checks : Manager → Wait → ℕ → ℕ → List Check
wait_checks d No task priority = []
wait_checks d Yes task priority =
    check (eqb task 0) InvalidNumber
    ∷ check (ltb tasks task) InvalidNumber
    ∷ check (eqb priority 0) InvalidPriority
    ∷ check (ltb 255 priority) InvalidPriority
    ∷ check (waiting d task) IncorrectState
    ∷ []

-- no fit: 13, or the task now waits and only the queue changes
abbrev pub unplaced : List ℕ → Manager → Wait → Waiter → Result
unplaced m d No w = refused m d Unsatisfied
unplaced m d Yes w = replied m (enqueue d w) Waiting 0

unfoldable pub get_segment : List ℕ → Manager → ℕ → ℕ → ℕ → Wait → ℕ → ℕ → ℕ → Result
get_segment m d id size alignment wait task priority ticks =
    let r = region_of d id in
    let n = need_of r size alignment in
    answered (sound m d) m d
    (check (eqb size 0) InvalidSize
    ∷ check (dead r) InvalidId
    ∷ check (not ((kind r).aligns alignment)) NotDefined
    ∷ check (not (is_alignment r.page alignment)) InvalidSize
    ∷ check (not (servable r n)) InvalidSize
    ∷ wait_checks d wait task priority)
    (on_place (placed m r n) (λ p. done (taken m r n) d (address_of r p))
    (unplaced m d wait (record { task = task; region = id; size = size; alignment = alignment; priority = priority; ticks = ticks })))

-- return: 4, 9; the segment joins its free neighbours, then the queue is served
unfoldable pub return_segment : List ℕ → Manager → ℕ → ℕ → Result
return_segment m d id address =
    let r = region_of d id in
    answered (sound m d) m d
    (check (dead r) InvalidId
    ∷ check (eqb (held_at m r address) 0) InvalidAddress
    ∷ [])
    (from_served 0 (serve (changed m r address 0) d id))

-- size: 4, 9; the length of the held segment
unfoldable pub segment_size : List ℕ → Manager → ℕ → ℕ → Result
segment_size m d id address =
    let r = region_of d id in
    answered (sound m d) m d
    (check (dead r) InvalidId
    ∷ check (eqb (held_at m r address) 0) InvalidAddress
    ∷ [])
    (done m d (held_at m r address * r.page))

-- resize: size 0 (8), 4, 9, 13; the segment has its new size, then the queue is served, also where the page count stays. The value is the
-- old length, with 13 too
unfoldable pub resize_segment : List ℕ → Manager → ℕ → ℕ → ℕ → Result
resize_segment m d id address size =
    let r = region_of d id in
    let old = held_at m r address in
    let k = pages_asked r size in
    answered (sound m d) m d
    (check (eqb size 0) InvalidSize
    ∷ check (dead r) InvalidId
    ∷ check (eqb old 0) InvalidAddress
    ∷ [])
    (cond (can_have m r address k)
    (from_served (old * r.page) (serve (changed m r address k) d id))
    (replied m d Unsatisfied (old * r.page)))

-- information: 4; count, largest and total bytes of free, then of held segments
abbrev pub information_of : ℕ → List ℕ → List ℕ → Information
information_of page frees helds =
    record {
      free_count = length frees;
      free_largest = largest_of frees * page;
      free_total = sum_of frees * page;
      held_count = length helds;
      held_largest = largest_of helds * page;
      held_total = sum_of helds * page;
    }

abbrev pub informed : List ℕ → Manager → Information → Result
informed m d i = record { memory = m; status = Successful; value = 0; information = i; notices = []; manager = d }

unfoldable pub region_information : List ℕ → Manager → ℕ → Result
region_information m d id =
    let r = region_of d id in
    answered (sound m d) m d
    (check (dead r) InvalidId
    ∷ [])
    (informed m d (information_of r.page (frees m r) (helds m r)))

-- tick: no check of its own; first the notices of those whose time ran out, then, if there are any, every region's queue is served
unfoldable pub tick : List ℕ → Manager → Result
tick m d =
    let ns = leaving d.waiters in
    answered (sound m d) m d [] (from_served 0 (behind ns (serve_after ns m (after_tick d))))
