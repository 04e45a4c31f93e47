-- Demand 3: what holds after every list of calls, a field for each sentence. "By the receipts" is said by the receipts
-- alone. The heart is `replies`: every reply is the one that the receipts give. The fields about single answers follow from it, and say
-- what it comes to in the words of the demand. Of the record only the queue and the kept front of a chain are looked at; of the memory
-- the maps, the chains and what clients hold. Assumes nothing.
use Rattle.std.specs.Prelude.{◌≡◌, true, false, cond, not, ◌&&◌, List, [], ◌∷◌, ◌++◌, ◌⊎◌, ◌↔◌, ℕ, zero, suc, ◌+◌, ◌-◌, ◌*◌, ◌/◌, ◌%◌, ◌≤◌, ◌<◌, length, get_or, take, drop, eqb, Option, None, Some}
use Rattle.std.proofs.lemmas.List.Edits.{sets}
use Rattle.manager.specs.Record.{slots, tasks, most_words, partition_of}
use Rattle.manager.specs.Result.{Result, tasks_told}
use Rattle.manager.specs.Map.{Segment, free, held, draw, decode}
use Rattle.manager.specs.Perform.{Implementation}
use Rattle.manager.specs.declared.Waiter.{Waiter}
use Rattle.manager.specs.declared.Notice.{Notice}
use Rattle.manager.specs.declared.Call.{Call}
use Rattle.manager.specs.declared.Call.TheVariants.{CreateRegion, IdentRegion, GetSegment, ReturnSegment, SegmentSize, ResizeSegment, RegionInformation, CreatePartition, IdentPartition, GetBuffer, Tick}
use Rattle.manager.specs.declared.Order.{Order}
use Rattle.manager.specs.declared.Wait as asking
use Rattle.manager.specs.declared.Wait.TheVariants.{No}
use Rattle.manager.specs.declared.Status.TheVariants.{Successful, InvalidName, InvalidSize, NotDefined, Unsatisfied, InternalError}
use Rattle.manager.specs.Lists.{In, Distinct}
use Rattle.trace.specs.Loans.{Loan, Lent, loan_pages, sum, enter, amend}
use Rattle.trace.specs.Reading.{NoPlace}
use Rattle.trace.specs.Receipts.{reading, pages_over, need_in, Alignment, Servable, Receipts, RegionEntry, PartitionEntry, Wait, reply_of, is_success, unit, layout_in, pages_in, span_in, address_in, page_in, by_page, page_loans, buffers_in, buffers_from, all_noticed}
use Rattle.trace.specs.Queue.{queue_of}
use Rattle.trace.specs.Replies.{region_now, information_in, grant_to, timeouts, ticked, by_receipts, write_by_receipts, read_by_receipts}
use Rattle.trace.specs.Trace.{Ask, call, read, write, State, answer, answer_write, after, Object, Loaned, Owned, Runs, start}
use Rattle.trace.specs.Ids.{IdClaims}

-- a wait as the record keeps it: with the ticks that it has left
abbrev pub left : Wait → ℕ
left w = w.ticks - w.since

abbrev pub waiter_of : Wait → Waiter
waiter_of w = record { task = w.task; region = w.id; size = w.size; alignment = w.alignment; priority = w.priority; ticks = left w }

unfoldable pub waiters_of : List Wait → List Waiter
waiters_of [] = []
waiters_of (w ∷ ws) = waiter_of w ∷ waiters_of ws

-- the waiters of a region in the record, in their order: a place of task 0 is unused
unfoldable pub waiters_for : ℕ → List Waiter → List Waiter
waiters_for id [] = []
waiters_for id (w ∷ ws) = cond (not (eqb w.task 0) && eqb w.region id) (w ∷ waiters_for id ws) (waiters_for id ws)

-- OF A REGION WITH THE LOANS l, at addresses: no place would serve a get of so many bytes on an alignment; page p is the one that it takes
abbrev pub Full : RegionEntry → List Loan → ℕ → ℕ → Type 0
Full e l size alignment = NoPlace (reading e) (span_in e) (by_page e l) (need_in e size alignment)

abbrev pub Takes : RegionEntry → List Loan → ℕ → ℕ → ℕ → Type 0
Takes e l size alignment p = (reading e).Chosen (span_in e) (by_page e l) (need_in e size alignment) p

-- GRANTS BY THE RECEIPTS: to the first waits in order, each at the place that a get of its size on its alignment takes at that moment, up to
-- the first wait that has none
pub data Grants (e : RegionEntry) : List Loan → List Wait → List Notice → Type 0 where
  all : {l : List Loan} → Grants e l [] []
  stop : {l : List Loan} {w : Wait} {ws : List Wait} → Full e l w.size w.alignment → Grants e l (w ∷ ws) []
  grant : {l : List Loan} {w : Wait} {ws : List Wait} {ns : List Notice} (p : ℕ) → Takes e l w.size w.alignment p
      → Grants e (enter (address_in e p) (pages_over e w.size) l) ws ns
      → Grants e l (w ∷ ws) (grant_to w (address_in e p) ∷ ns)

-- OF SOME SLOTS, one after the other: the grants of the region in each, with what those before it were told entered; an empty slot has none
pub data Rounds : List ℕ → Receipts → List Notice → Type 0 where
  ended : {t : Receipts} → Rounds [] t []
  skipped : {i : ℕ} {is : List ℕ} {t : Receipts} {ns : List Notice} → t.regions (region_now t i) ≡ None → Rounds is t ns → Rounds (i ∷ is) t ns
  round : {i : ℕ} {is : List ℕ} {t : Receipts} {ns ms : List Notice} (e : RegionEntry) → t.regions (region_now t i) ≡ Some e
      → Grants e e.loans (queue_of (region_now t i) e t) ns → Rounds is (all_noticed ns t) ms
      → Rounds (i ∷ is) t (ns ++ ms)

-- so many slots, from slot i on
unfoldable pub slots_from : ℕ → ℕ → List ℕ
slots_from zero i = []
slots_from (suc n) i = i ∷ slots_from n (suc i)

-- THE NOTICES OF A TICK: 6 to exactly those waits whose ticks have run out by the ticks counted since they began, in line, and behind all of
-- these the grants: of every region, the lowest slot first, as the receipts are a tick later; none where nobody was sent away
pub record Ticked (t : Receipts) (ns : List Notice) : Type 0 where
  pub grants : List Notice
  pub notices : ns ≡ timeouts t ++ grants
  pub nobody : timeouts t ≡ [] → grants ≡ []
  pub rounds : ¬ (timeouts t ≡ []) → Rounds (slots_from slots 0) (ticked t) grants

-- a region's map words in the memory: where they lie, and how many they are, follows from what create asked for
abbrev pub map_in : List ℕ → RegionEntry → List ℕ
map_in m e = take (pages_in e) (drop (layout_in e).map m)

-- the pages free in a map
unfoldable pub free_pages : List Segment → ℕ
free_pages [] = 0
free_pages (free n ∷ s) = n + free_pages s
free_pages (held n ∷ s) = free_pages s

-- WHAT IS CLAIMED OF A REGION that the receipts have under an id
pub record RegionClaims (i : Implementation) (s : State) (id : ℕ) (e : RegionEntry) : Type 0 where
  -- "Where an object's pages or buffers lie follows from what create asked for": each loan is at the address of a page
  pub placed : (a k : ℕ) → Lent e.loans a k → a ≡ address_in e (page_in e a)
  -- its loans lie in its pages, and no two share one; by halves, each also starts at a multiple of its own length
  pub ordered : (reading e).Fits (span_in e) (page_loans e)
  -- the region's map is the drawn one. Of pages: "The drawn map has a held segment for each loan and a free one for each unbroken run of
  -- unheld pages, taken whole"; by halves it is "the map drawn from receipts by halves"
  pub map : map_in s.memory e ≡ draw ((reading e).drawn (span_in e) (page_loans e))
  -- with nothing lent it is one free segment of all its pages: a region by halves is one free block again
  pub whole : e.loans ≡ [] → map_in s.memory e ≡ draw (free (pages_in e) ∷ [])
  -- pages held by the receipts and pages free in the map make up the region
  pub counted : sum (loan_pages e.loans) + free_pages (decode (map_in s.memory e)) ≡ pages_in e
  -- "A get is valid if its checks ahead of 13, the one for 25 aside, refuse nothing": one that won't wait is answered 13 exactly when no
  -- place would serve it: no run of adjoining unheld pages "that starts on the alignment" is long enough; by halves, no "run of the rounded size
  -- that starts at a multiple of its own length, counted from the first page"
  pub unsatisfied : (size alignment task priority ticks : ℕ) → 0 < size → Alignment e alignment → Servable e size alignment
      → ((answer i s (GetSegment id size alignment No task priority ticks)).status ≡ Unsatisfied) ↔ Full e e.loans size alignment
  -- else the address is that of the place that its region's kind chooses: of pages, the lowest that fits and is on the alignment; by halves, the
  -- lowest of the smallest free blocks of the drawn map that are large enough
  pub lowest : (size alignment task priority ticks : ℕ) → 0 < size → Alignment e alignment → Servable e size alignment
      → ((answer i s (GetSegment id size alignment No task priority ticks)).status ≡ Unsatisfied)
      ⊎ ((p : ℕ) × Takes e e.loans size alignment p
      × ((answer i s (GetSegment id size alignment No task priority ticks)).status ≡ Successful)
      × ((answer i s (GetSegment id size alignment No task priority ticks)).value ≡ address_in e p))
  -- "segments that start on a multiple of a wider size": it is the segment's address that is a multiple of the alignment, whether the get might
  -- have waited or not
  pub aligned : (size alignment : ℕ) (wait : asking.Wait) (task priority ticks : ℕ) → 0 < alignment
      → (answer i s (GetSegment id size alignment wait task priority ticks)).status ≡ Successful
      → (answer i s (GetSegment id size alignment wait task priority ticks)).value % alignment ≡ 0
  -- "0 for the page size, else a multiple of the page size up to 4,096, else 8" and "a request that an empty region couldn't serve is 8": of an
  -- alignment that its kind knows, 8 is the answer exactly where one of the two is so; served with nothing lent, not with the loans there are now
  pub invalid : (size alignment task priority ticks : ℕ) → 0 < size → (reading e).aligns alignment ≡ true
      → ((answer i s (GetSegment id size alignment No task priority ticks)).status ≡ InvalidSize)
      ↔ (¬ (Alignment e alignment × Servable e size alignment))
  -- "Regions by halves refuse an alignment other than 0 with 11": it is the answer exactly where the kind does not know the alignment
  pub undefined : (size alignment task priority ticks : ℕ) → 0 < size
      → ((answer i s (GetSegment id size alignment No task priority ticks)).status ≡ NotDefined) ↔ ((reading e).aligns alignment ≡ false)
  -- "a read is empty only where the receipts have no loan at that address in that region"
  pub read : (a k : ℕ) → Lent e.loans a k → ¬ (i.read s.memory s.manager id a ≡ [])
  -- information answers the count, largest and total bytes over the free segments of the drawn map and over the loans ("sums over held and
  -- unheld pages"): of pages these are the runs of unheld pages, by halves the free blocks
  pub information : (answer i s (RegionInformation id)).information ≡ information_in e
  -- size and resize answer the loan's length, and resize is 13 exactly when the pages that it lacks aren't unheld; by halves,
  -- when the rounded size doesn't stay
  pub size : (a k : ℕ) → Lent e.loans a k → (answer i s (SegmentSize id a)).value ≡ k * unit e
  pub resize : (a k size : ℕ) → Lent e.loans a k → 0 < size
      → ((answer i s (ResizeSegment id a size)).value ≡ k * unit e)
      × (((answer i s (ResizeSegment id a size)).status ≡ Unsatisfied)
      ↔ (¬ (reading e).Room (span_in e) (page_loans e) (page_in e a) k (pages_over e size)))
  -- one that succeeds serves the queue as a return does, with the new size of the loan, also where its pages stay as many; 13 serves
  -- nobody
  pub resize_serves : (a k size : ℕ) → Lent e.loans a k → 0 < size
      → (((answer i s (ResizeSegment id a size)).status ≡ Unsatisfied) × ((answer i s (ResizeSegment id a size)).notices ≡ []))
      ⊎ (((answer i s (ResizeSegment id a size)).status ≡ Successful)
      × Grants e (amend a (pages_over e size) e.loans) (queue_of id e s.receipts) (answer i s (ResizeSegment id a size)).notices)
  -- the queue is the waits of the receipts, in order
  pub queue : waiters_for id s.manager.waiters ≡ waiters_of (queue_of id e s.receipts)
  -- "a region with nothing held still has no waiter"
  pub idle : e.loans ≡ [] → queue_of id e s.receipts ≡ []
  -- after a return the grants go to the first waits in that order, each to the place that a get takes at that moment, and stop exactly
  -- at the first that has none ("the stop rule")
  pub return : (a k : ℕ) → Lent e.loans a k
      → ((answer i s (ReturnSegment id a)).status ≡ Successful)
      × Grants e (amend a 0 e.loans) (queue_of id e s.receipts) (answer i s (ReturnSegment id a)).notices

-- "Chained buffers are those met from the kept front by word 0": from an address on, up to 0
pub data Chained (m : List ℕ) : ℕ → List ℕ → Type 0 where
  null : Chained m 0 []
  link : {a : ℕ} {l : List ℕ} → ¬ (a ≡ 0) → Chained m (get_or m (a / 4) 0) l → Chained m a (a ∷ l)

-- OF A PARTITION
pub record PartitionClaims (i : Implementation) (s : State) (id : ℕ) (e : PartitionEntry) : Type 0 where
  -- the chained buffers are those that are not lent, in the order in which they came free, "each once"
  pub chained : Chained s.memory (partition_of s.manager id).front e.unlent
  pub chained_once : Distinct e.unlent
  -- no buffer is lent twice
  pub once : Distinct e.lent
  -- held and chained buffers make up the partition, and none is both
  pub each : (a : ℕ) → In a (buffers_from (buffers_in e) e.size e.start) ↔ (In a e.lent ⊎ In a e.unlent)
  pub either : (a : ℕ) → In a e.lent → ¬ In a e.unlent
  pub counted : length e.lent + length e.unlent ≡ buffers_in e
  -- a get is answered 13 exactly when every buffer is held; else the address is the front of the chain as the receipts have it
  pub unsatisfied : ((answer i s (GetBuffer id)).status ≡ Unsatisfied) ↔ (length e.lent ≡ buffers_in e)
  pub front : (a : ℕ) (u : List ℕ) → e.unlent ≡ a ∷ u
      → ((answer i s (GetBuffer id)).status ≡ Successful) × ((answer i s (GetBuffer id)).value ≡ a)

-- a live object of a kind has a name, by the kind's entries
abbrev pub InUse : {A : Type 0} → (ℕ → Option A) → (A → ℕ) → ℕ → Type 0
InUse {A} entries name n = (id : ℕ) × (e : A) × (entries id ≡ Some e) × (name e ≡ n)

-- OF THE NAMES OF A KIND, by its entries and what ident answers to a name
pub record NameClaims {A : Type 0} (entries : ℕ → Option A) (name : A → ℕ) (ident : ℕ → Result) : Type 0 where
  -- "Two regions called the same": no two live objects of a kind have one name
  pub differ : (id k : ℕ) (e f : A) → entries id ≡ Some e → entries k ≡ Some f → name e ≡ name f → id ≡ k
  -- ident answers the id of the only live object of that name
  pub found : (id : ℕ) (e : A) → entries id ≡ Some e → ((ident (name e)).status ≡ Successful) × ((ident (name e)).value ≡ id)
  -- and 3 exactly where there is none
  pub unknown : (n : ℕ) → ((ident n).status ≡ InvalidName) ↔ (¬ InUse entries name n)

-- WHAT CLIENTS HOLD AFTER THE NEXT CALL, by the receipts: "Writing lends on the part that starts at the given word of the segment and
-- copies the given words there"; a refused write, and any other call, leaves the words as they were
abbrev pub written : Receipts → Ask → List ℕ → List ℕ
written t (call c) m = m
written t (read id address) m = m
written t (write id address first words) m =
    cond (is_success (write_by_receipts t id address first words).status) (sets m (address / 4 + first) words) m

-- DEMAND 3
pub record Claims (i : Implementation) (s : State) : Type 0 where
  -- every call is answered as the receipts say: status, value, information and notices. So is a write, and a read hands back the words
  -- of the loan at its address
  pub replies : (c : Call) → reply_of (answer i s c) ≡ by_receipts (length s.memory) s.receipts c
  pub replies_write : (id address first : ℕ) (words : List ℕ)
      → reply_of (answer_write i s id address first words) ≡ write_by_receipts s.receipts id address first words
  pub reads : (id address : ℕ) → i.read s.memory s.manager id address ≡ read_by_receipts s.memory s.receipts id address
  -- an id never opens another object: whatever calls come, no create answers an id that an earlier create of its kind answered, and an id
  -- once deleted is answered 4 ever after
  pub ids : IdClaims i s
  -- a live object, "an id is live if the receipts have it for the call's kind"
  pub region : (id : ℕ) (e : RegionEntry) → s.receipts.regions id ≡ Some e → RegionClaims i s id e
  pub partition : (id : ℕ) (e : PartitionEntry) → s.receipts.partitions id ≡ Some e → PartitionClaims i s id e
  -- the names of either kind, and a create is answered 3 exactly for name 0 and for a name that a live object of its kind has, whatever
  -- else it asks. A region and a partition may have one name
  pub region_names : NameClaims s.receipts.regions (λ e. e.name) (λ n. answer i s (IdentRegion n))
  pub partition_names : NameClaims s.receipts.partitions (λ e. e.name) (λ n. answer i s (IdentPartition n))
  pub region_taken : (name start bytes page : ℕ) (order : Order)
      → ((answer i s (CreateRegion name start bytes page order)).status ≡ InvalidName)
      ↔ ((name ≡ 0) ⊎ InUse s.receipts.regions (λ e. e.name) name)
  pub partition_taken : (name start bytes size : ℕ)
      → ((answer i s (CreatePartition name start bytes size)).status ≡ InvalidName)
      ↔ ((name ≡ 0) ⊎ InUse s.receipts.partitions (λ e. e.name) name)
  -- "clients hold the loans": no two loans share a byte, of whatever objects
  pub apart : (o q : Object) (a n b k : ℕ) → Loaned s.receipts o a n → Loaned s.receipts q b k
      → ((o ≡ q) × (a ≡ b) × (n ≡ k)) ⊎ ((a + n ≤ b) ⊎ (b + k ≤ a))
  -- photographs stay put: whatever call comes next, every word that a loan covers before and after it keeps its value, but for a write,
  -- which changes exactly the words that it names, to the values given
  pub stays : (a : Ask) (w : ℕ) → Owned s.receipts w → Owned (after i a s).receipts w
      → get_or (after i a s).memory w 0 ≡ get_or (written s.receipts a s.memory) w 0
  pub writes : (id address first : ℕ) (words : List ℕ)
      → (answer_write i s id address first words).memory ≡ written s.receipts (write id address first words) s.memory
  -- "Never called damaged": no answer is 25
  pub sound : (c : Call) → ¬ ((answer i s c).status ≡ InternalError)
  pub sound_write : (id address first : ℕ) (words : List ℕ) → ¬ ((answer_write i s id address first words).status ≡ InternalError)
  -- a tick sends those away whose time has run out ("ticks left"), and serves every region's queue then
  pub tick : Ticked s.receipts (answer i s Tick).notices
  -- one call gives each task at most one notice, and all its notices have places in the answer
  pub once : (c : Call) → Distinct (tasks_told (answer i s c).notices)
  pub few : (c : Call) → length (answer i s c).notices ≤ tasks

-- "Demand 3 is a single claim about the list and the writes between its calls, and not one for each call": after every list of calls and
-- writes, from a fresh start over any memory of allowed length
abbrev pub Demand3 : Implementation → Type 0
Demand3 i = (m : List ℕ) → 1 ≤ length m → length m ≤ most_words → (s : State) → Runs i (start m) s → Claims i s
