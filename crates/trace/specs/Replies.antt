-- Rules 14.1 and 14.3, rules 11 to 13 by the receipts: what every call is answered, from its arguments, the receipts and the memory's length,
-- and what it enters. No word of the memory and no field of the record is looked at. Assumes nothing.
use Rattle.std.specs.Prelude.{Bool, true, false, cond, not, ◌&&◌, ◌||◌, List, [], ◌∷◌, ◌++◌, ℕ, zero, suc, ◌+◌, ◌*◌, ◌/◌, ◌%◌, length, take, drop, eqb, leb, ltb, Option, None, Some}
use Rattle.arith.specs.Round.{round_up}
use Rattle.arith.specs.Layout.{page_count}
use Rattle.manager.specs.Record.{slots, tasks, generations, id_of, no_information}
use Rattle.manager.specs.Lists as lists
use Rattle.manager.specs.Result.{Check, check}
use Rattle.manager.specs.Kind.{on_place}
use Rattle.manager.specs.Region.{kind_of, is_alignment}
use Rattle.manager.specs.declared.Notice.{Notice}
use Rattle.manager.specs.declared.Information.{Information}
use Rattle.manager.specs.declared.Call.{Call}
use Rattle.manager.specs.declared.Call.TheVariants.{CreateRegion, IdentRegion, DeleteRegion, GetSegment, ReturnSegment, SegmentSize, ResizeSegment, RegionInformation, CreatePartition, IdentPartition, DeletePartition, GetBuffer, ReturnBuffer, Tick}
use Rattle.manager.specs.declared.Wait as asking
use Rattle.manager.specs.declared.Wait.TheVariants.{No, Yes}
use Rattle.manager.specs.declared.Status.{Status}
use Rattle.manager.specs.declared.Status.TheVariants.{Successful, InvalidName, InvalidId, TooMany, InvalidSize, InvalidAddress, InvalidNumber, NotDefined, ResourceInUse, Unsatisfied, IncorrectState, InvalidPriority, Waiting}
use Rattle.trace.specs.Loans.{Loan, pages_at, loan_pages, most, sum, enter, amend}
use Rattle.trace.specs.Receipts.{Receipts, RegionEntry, Wait, Reply, unit, reading, pages_over, need_in, servable_in, span_in, address_in, page_in, by_page, page_loans}
use Rattle.trace.specs.Receipts.{on_region, on_partition, lend, give_back, refit, update, deleted, with_regions, with_partitions, with_region_deletes, with_partition_deletes, with_buffers, strike, buffers_from, with_waits, all_later, all_noticed, is_success, is_waiting}
use Rattle.trace.specs.Queue.{queue_of, in_line, due_in}

-- INFORMATION BY THE RECEIPTS: count, largest and total bytes over the free segments of the drawn map, then over the loans
abbrev pub information_in : RegionEntry → Information
information_in e =
    let frees = (reading e).runs (span_in e) (page_loans e) in
    let helds = loan_pages e.loans in
    record {
      free_count = length frees;
      free_largest = most frees * unit e;
      free_total = sum frees * unit e;
      held_count = length helds;
      held_largest = most helds * unit e;
      held_total = sum helds * unit e;
    }

-- ---- ANSWERS

-- a refusal: value 0, no information, no notices
abbrev pub no : Status → Reply
no s = record { status = s; value = 0; information = no_information; notices = [] }

abbrev pub yes : ℕ → Reply
yes v = record { status = Successful; value = v; information = no_information; notices = [] }

abbrev pub tells : ℕ → List Notice → Reply
tells v ns = record { status = Successful; value = v; information = no_information; notices = ns }

abbrev pub informs : Information → Reply
informs i = record { status = Successful; value = 0; information = i; notices = [] }

-- the first of some checks that refuses answers, else what is behind them does
unfoldable pub decided : List Check → Reply → Reply
decided [] r = r
decided (c ∷ cs) r = cond c.fails (no c.status) (decided cs r)

-- 4: the receipts have no object under the id
abbrev pub living : {A : Type 0} → Option A → (A → Reply) → Reply
living None f = no InvalidId
living (Some e) f = f e

-- ---- OBJECTS: the slots, from the lowest on

abbrev pub vacant : {A : Type 0} → Option A → Bool
vacant None = true
vacant (Some e) = false

-- an object is there, and passes a test
abbrev pub has : {A : Type 0} → (A → Bool) → Option A → Bool
has p None = false
has p (Some e) = p e

-- the first of n slots, from one on, that passes a test; the one behind them where none does
unfoldable pub first_slot : (ℕ → Bool) → ℕ → ℕ → ℕ
first_slot p zero i = i
first_slot p (suc n) i = cond (p i) i (first_slot p n (suc i))

unfoldable pub any_slot : (ℕ → Bool) → ℕ → ℕ → Bool
any_slot p zero i = false
any_slot p (suc n) i = p i || any_slot p n (suc i)

-- the id that a slot has now: its generation is the number of its deletes
abbrev pub id_now : (ℕ → ℕ) → ℕ → ℕ
id_now deletes i = id_of i (deletes i)

abbrev pub region_now : Receipts → ℕ → ℕ
region_now t i = id_now t.region_deletes i

abbrev pub partition_now : Receipts → ℕ → ℕ
partition_now t i = id_now t.partition_deletes i

-- of a kind, by its entries and the deletes of its slots: "Create takes the lowest empty slot" that isn't spent, ident the one with the
-- name; and whether some object passes a test
module _ {A : Type 0} (entries : ℕ → Option A) (deletes : ℕ → ℕ) where
  abbrev pub new_slot : ℕ
  new_slot = first_slot (λ i. vacant (entries (id_now deletes i)) && ltb (deletes i) generations) slots 0

  abbrev pub slot_with : (A → Bool) → ℕ
  slot_with p = first_slot (λ i. has p (entries (id_now deletes i))) slots 0

  abbrev pub any_with : (A → Bool) → Bool
  any_with p = any_slot (λ i. has p (entries (id_now deletes i))) slots 0

abbrev pub new_region_slot : Receipts → ℕ
new_region_slot t = new_slot t.regions t.region_deletes

abbrev pub new_partition_slot : Receipts → ℕ
new_partition_slot t = new_slot t.partitions t.partition_deletes

abbrev pub region_slot_of : Receipts → ℕ → ℕ
region_slot_of t name = slot_with t.regions t.region_deletes (λ e. eqb e.name name)

abbrev pub partition_slot_of : Receipts → ℕ → ℕ
partition_slot_of t name = slot_with t.partitions t.partition_deletes (λ e. eqb e.name name)

-- bytes that a live object asked for: "the whole asked area counts"
abbrev pub shared : ℕ → ℕ → ℕ → ℕ → Bool
shared a n b k = ltb a (b + k) && ltb b (a + n)

abbrev pub asked : Receipts → ℕ → ℕ → Bool
asked t start bytes =
    any_with t.regions t.region_deletes (λ e. shared start bytes e.start e.bytes)
    || any_with t.partitions t.partition_deletes (λ e. shared start bytes e.start e.bytes)

-- ---- LOANS OF A REGION

abbrev pub lends_any : List Loan → Bool
lends_any [] = false
lends_any (x ∷ l) = true

-- where a get of so many bytes on an alignment is placed, with the loans l at addresses; and whether the loan at an address can have so many
abbrev pub place_in : RegionEntry → List Loan → ℕ → ℕ → Option ℕ
place_in e l size alignment = (reading e).place (span_in e) (by_page e l) (need_in e size alignment)

abbrev pub can_have_in : RegionEntry → ℕ → ℕ → Bool
can_have_in e a size = (reading e).can_have (span_in e) (page_loans e) (page_in e a) (pages_over e size)

-- GRANTS: to the first waits in order, each where a get of its size on its alignment is placed at that moment, up to the first wait that has
-- no place
abbrev pub grant_to : Wait → ℕ → Notice
grant_to w a = record { task = w.task; status = Successful; address = a }

unfoldable pub grants_in : RegionEntry → List Loan → List Wait → List Notice
grants_in e l [] = []
grants_in e l (w ∷ ws) =
    on_place (place_in e l w.size w.alignment)
    (λ p. grant_to w (address_in e p) ∷ grants_in e (enter (address_in e p) (pages_over e w.size) l) ws) []

-- of the region under an id, with its loans as they are; nobody waits for one that is not there
abbrev grants_of : Option RegionEntry → ℕ → Receipts → List Notice
grants_of None id t = []
grants_of (Some e) id t = grants_in e e.loans (queue_of id e t)

abbrev pub grants_under : ℕ → Receipts → List Notice
grants_under id t = grants_of (t.regions id) id t

-- of the regions in so many slots, one after the other from slot i on: what one is told is entered before the next
unfoldable pub grants_from : ℕ → ℕ → Receipts → List Notice
grants_from zero i t = []
grants_from (suc n) i t =
    let ns = grants_under (region_now t i) t in
    ns ++ grants_from n (suc i) (all_noticed ns t)

-- TIME-OUTS, and the receipts behind them: a tick later, without those who were sent away
abbrev pub timeouts : Receipts → List Notice
timeouts t = due_in (in_line t)

abbrev pub ticked : Receipts → Receipts
ticked t = all_noticed (timeouts t) (with_waits (all_later t.waits) t)

-- the grants behind time-outs: of every region, the lowest slot first; where nobody was sent away, none
abbrev pub grants_after : List Notice → Receipts → List Notice
grants_after [] t = []
grants_after (n ∷ ns) t = grants_from slots 0 t

-- a task waits
abbrev pub waits_already : ℕ → List Wait → Bool
waits_already task ws = lists.any (λ w. eqb w.task task) ws

-- "if waiting is allowed 10, 19, 14"
abbrev pub waiting_checks : Receipts → asking.Wait → ℕ → ℕ → List Check
waiting_checks t No task priority = []
waiting_checks t Yes task priority =
    check (eqb task 0) InvalidNumber
    ∷ check (ltb tasks task) InvalidNumber
    ∷ check (eqb priority 0) InvalidPriority
    ∷ check (ltb 255 priority) InvalidPriority
    ∷ check (waits_already task t.waits) IncorrectState
    ∷ []

-- no place: 13, or the task now waits
abbrev pub no_place : asking.Wait → Reply
no_place No = no Unsatisfied
no_place Yes = no Waiting

-- "the value is the old length, with 13 too"; a success serves the queue, and 13 nobody
abbrev pub resizes : Bool → ℕ → List Notice → Reply
resizes true v ns = tells v ns
resizes false v ns = record { status = Unsatisfied; value = v; information = no_information; notices = [] }

-- ---- BUFFERS OF A PARTITION

abbrev pub listed : ℕ → List ℕ → Bool
listed a l = lists.any (eqb a) l

abbrev pub lent_any : List ℕ → Bool
lent_any [] = false
lent_any (x ∷ l) = true

abbrev pub front : List ℕ → Reply
front [] = no Unsatisfied
front (a ∷ l) = yes a

-- ---- WHAT EVERY CALL IS ANSWERED, over a memory of n words: its checks in the paper's order, the one for 25 aside, then its answer
unfoldable pub by_receipts : ℕ → Receipts → Call → Reply
-- create region: 3, a name that a live region has 3, start 9, past memory 9, page 8, area 8, overlap 9, 5
by_receipts n t (CreateRegion name start bytes page order) =
    decided
    (check (eqb name 0) InvalidName
    ∷ check (ltb (region_slot_of t name) slots) InvalidName
    ∷ check (eqb start 0) InvalidAddress
    ∷ check (ltb (4 * n) (start + bytes)) InvalidAddress
    ∷ check (eqb page 0) InvalidSize
    ∷ check (ltb 4096 page) InvalidSize
    ∷ check (eqb (page_count (kind_of order).allowed start bytes (round_up page 8)) 0) InvalidSize
    ∷ check (asked t start bytes) InvalidAddress
    ∷ check (leb slots (new_region_slot t)) TooMany
    ∷ [])
    (yes (region_now t (new_region_slot t)))
-- ident: 3
by_receipts n t (IdentRegion name) =
    decided (check (eqb name 0) InvalidName ∷ check (leb slots (region_slot_of t name)) InvalidName ∷ []) (yes (region_now t (region_slot_of t name)))
-- delete: 4, 12
by_receipts n t (DeleteRegion id) =
    living (t.regions id) (λ e. decided (check (lends_any e.loans) ResourceInUse ∷ []) (yes 0))
-- get: size 0 (8), 4, an alignment that its kind does not know 11, any other that is not allowed 8, what it could not serve with nothing lent
-- 8; if waiting is allowed 10, 19, 14; then the search
by_receipts n t (GetSegment id size alignment wait task priority ticks) =
    decided (check (eqb size 0) InvalidSize ∷ [])
    (living (t.regions id) (λ e.
    decided
    (check (not ((reading e).aligns alignment)) NotDefined
    ∷ check (not (is_alignment (unit e) alignment)) InvalidSize
    ∷ check (not (servable_in e size alignment)) InvalidSize
    ∷ waiting_checks t wait task priority)
    (on_place (place_in e e.loans size alignment) (λ p. yes (address_in e p)) (no_place wait))))
-- return: 4, 9; then the queue is served
by_receipts n t (ReturnSegment id a) =
    living (t.regions id) (λ e.
    decided (check (eqb (pages_at a e.loans) 0) InvalidAddress ∷ [])
    (tells 0 (grants_in e (amend a 0 e.loans) (queue_of id e t))))
-- size: 4, 9
by_receipts n t (SegmentSize id a) =
    living (t.regions id) (λ e.
    decided (check (eqb (pages_at a e.loans) 0) InvalidAddress ∷ [])
    (yes (pages_at a e.loans * unit e)))
-- resize: size 0 (8), 4, 9, 13; then the queue is served
by_receipts n t (ResizeSegment id a size) =
    decided (check (eqb size 0) InvalidSize ∷ [])
    (living (t.regions id) (λ e.
    decided (check (eqb (pages_at a e.loans) 0) InvalidAddress ∷ [])
    (resizes (can_have_in e a size) (pages_at a e.loans * unit e)
    (grants_in e (amend a (pages_over e size) e.loans) (queue_of id e t)))))
-- information: 4
by_receipts n t (RegionInformation id) = living (t.regions id) (λ e. informs (information_in e))
-- create partition: 3, a name that a live partition has 3, start 9, alignment 9, past memory 9, length or size 0 (8), length below size 8,
-- size not a multiple of 4 or below 8 (8), overlap 9, 5
by_receipts n t (CreatePartition name start bytes size) =
    decided
    (check (eqb name 0) InvalidName
    ∷ check (ltb (partition_slot_of t name) slots) InvalidName
    ∷ check (eqb start 0) InvalidAddress
    ∷ check (not (eqb (start % 4) 0)) InvalidAddress
    ∷ check (ltb (4 * n) (start + bytes)) InvalidAddress
    ∷ check (eqb bytes 0) InvalidSize
    ∷ check (eqb size 0) InvalidSize
    ∷ check (ltb bytes size) InvalidSize
    ∷ check (not (eqb (size % 4) 0)) InvalidSize
    ∷ check (ltb size 8) InvalidSize
    ∷ check (asked t start bytes) InvalidAddress
    ∷ check (leb slots (new_partition_slot t)) TooMany
    ∷ [])
    (yes (partition_now t (new_partition_slot t)))
by_receipts n t (IdentPartition name) =
    decided (check (eqb name 0) InvalidName ∷ check (leb slots (partition_slot_of t name)) InvalidName ∷ [])
    (yes (partition_now t (partition_slot_of t name)))
by_receipts n t (DeletePartition id) =
    living (t.partitions id) (λ e. decided (check (lent_any e.lent) ResourceInUse ∷ []) (yes 0))
-- get of a buffer: 4, 13; the front of the chain
by_receipts n t (GetBuffer id) = living (t.partitions id) (λ e. front e.unlent)
-- return of a buffer: 4, 9
by_receipts n t (ReturnBuffer id a) =
    living (t.partitions id) (λ e. decided (check (not (listed a e.lent)) InvalidAddress ∷ []) (yes 0))
-- a tick: no check of its own; the time-outs, and then, where there are any, every region's queue is served
by_receipts n t Tick = tells 0 (timeouts t ++ grants_after (timeouts t) (ticked t))

-- a write of a held segment: 4, 9, then 8. A read: the words of the loan at the address, none where there is no such loan
abbrev pub write_by_receipts : Receipts → ℕ → ℕ → ℕ → List ℕ → Reply
write_by_receipts t id a first words =
    living (t.regions id) (λ e.
    decided
    (check (eqb (pages_at a e.loans) 0) InvalidAddress
    ∷ check (ltb (pages_at a e.loans * unit e / 4) (first + length words)) InvalidSize
    ∷ [])
    (yes 0))

abbrev pub lent_words : Option RegionEntry → ℕ → ℕ
lent_words None a = 0
lent_words (Some e) a = pages_at a e.loans * unit e / 4

abbrev pub read_by_receipts : List ℕ → Receipts → ℕ → ℕ → List ℕ
read_by_receipts m t id a = take (lent_words (t.regions id) a) (drop (a / 4) m)

-- ---- WHAT EVERY CALL ENTERS

-- with status 0, and with 255 for a get. "Refusals and all other calls enter nothing"
abbrev pub entered : Call → ℕ → Receipts → Receipts
entered (CreateRegion name start bytes page order) v t =
    with_regions (update v (Some (record { name = name; start = start; bytes = bytes; page = page; order = order; loans = [] })) t.regions) t
entered (DeleteRegion id) v t = with_region_deletes (deleted id t.region_deletes) (with_regions (update id None t.regions) t)
entered (GetSegment id size alignment wait task priority ticks) v t = on_region id (lend v size) t
entered (ReturnSegment id address) v t = on_region id (give_back address) t
entered (ResizeSegment id address size) v t = on_region id (refit address size) t
entered (CreatePartition name start bytes size) v t =
    with_partitions
    (update v (Some (record { name = name; start = start; bytes = bytes; size = size; lent = []; unlent = buffers_from (bytes / size) size start })) t.partitions) t
entered (DeletePartition id) v t = with_partition_deletes (deleted id t.partition_deletes) (with_partitions (update id None t.partitions) t)
entered (GetBuffer id) v t = on_partition id (λ e. with_buffers (v ∷ e.lent) (strike v e.unlent) e) t
entered (ReturnBuffer id address) v t = on_partition id (λ e. with_buffers (strike address e.lent) (e.unlent ++ (address ∷ [])) e) t
entered Tick v t = with_waits (all_later t.waits) t
entered (IdentRegion name) v t = t
entered (SegmentSize id address) v t = t
entered (RegionInformation id) v t = t
entered (IdentPartition name) v t = t

-- "A get answered 255 enters a wait, behind the earlier ones"
abbrev pub waited : Call → Receipts → Receipts
waited (GetSegment id size alignment wait task priority ticks) t =
    with_waits
    (t.waits ++ (record { task = task; id = id; size = size; alignment = alignment; priority = priority; ticks = ticks; since = 0 } ∷ [])) t
waited (CreateRegion name start bytes page order) t = t
waited (IdentRegion name) t = t
waited (DeleteRegion id) t = t
waited (ReturnSegment id address) t = t
waited (SegmentSize id address) t = t
waited (ResizeSegment id address size) t = t
waited (RegionInformation id) t = t
waited (CreatePartition name start bytes size) t = t
waited (IdentPartition name) t = t
waited (DeletePartition id) t = t
waited (GetBuffer id) t = t
waited (ReturnBuffer id address) t = t
waited Tick t = t

-- WHAT A CALL AND ITS ANSWER ENTER
unfoldable pub note : Call → Reply → Receipts → Receipts
note c a t =
    all_noticed a.notices
    (cond (is_success a.status) (entered c a.value t) (cond (is_waiting a.status) (waited c t) t))
