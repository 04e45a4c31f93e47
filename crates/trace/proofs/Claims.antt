-- The claims of demand 3 of one state in which the invariant holds, for any implementation that answers there as the receipts say: what
-- the claims say of answers follows from the replies, and the rest is the invariant's. Assumes nothing.
use Rattle.std.specs.Prelude.{Some}
use mathlib.Core.Path.{◌≡◌, refl, sym, ap, ◌∙◌, subst}
use mathlib.Core.Bool.{true}
use mathlib.Core.List.{List, [], ◌∷◌}
use mathlib.Core.Logic.{◌⊎◌, ◌↔◌, ⊎_elim}
use Prim.Native.Nat.{ℕ, zero, suc, ◌+◌, ◌*◌, ◌/◌, ◌≤◌, ◌<◌}
use native.Mathlib.Nat.{mul-le-mul}
use native.Mathlib.Omega.{arith}
use lib.ListN.{length, take, drop, length-take, length-drop}
use Rattle.manager.specs.Record.{tasks, region_of, partition_of}
use Rattle.manager.specs.Result.{tasks_told}
use Rattle.manager.specs.Map.{free, draw}
use Rattle.manager.specs.Region.{segments}
use Rattle.manager.specs.Partition.{is_buffer, follow, linked, next_of}
use Rattle.manager.proofs.Laws.Paged.{free_front}
use Rattle.manager.proofs.Laws.Notices.{Once, told_once}
use Rattle.manager.proofs.Laws.Partition.Chain.{linked_buffer, linked_rest, linked_last}
use Rattle.manager.proofs.Laws.Partition.Live.{live_chain}
use Rattle.manager.specs.Perform.{Implementation, perform}
use Rattle.manager.specs.declared.Call.{Call}
use Rattle.manager.specs.declared.Call.TheVariants.{CreateRegion, IdentRegion, GetSegment, ReturnSegment, SegmentSize, ResizeSegment, RegionInformation, CreatePartition, IdentPartition, GetBuffer, Tick}
use Rattle.manager.specs.declared.Order.{Order}
use Rattle.manager.specs.declared.Wait.TheVariants.{No}
use Rattle.manager.specs.declared.Partition.{Partition}
use Rattle.manager.specs.declared.Status.TheVariants.{InvalidName, InternalError}
use Rattle.manager.specs.Lists.{every, In, Distinct}
use Rattle.trace.specs.Loans.{Loan, Lent, in_pages, loan_pages, sum}
use Rattle.trace.specs.Receipts.{RegionEntry, PartitionEntry, Wait, Reply, reply_of, reading, unit, pages_in, span_in, page_in, by_page, page_loans, buffers_in, buffers_from}
use Rattle.trace.specs.Queue.{queue_of}
use Rattle.trace.specs.Replies.{by_receipts, read_by_receipts}
use Rattle.trace.specs.Trace.{State, answer}
use Rattle.trace.specs.Claims.{map_in, free_pages, Chained, null, link, RegionClaims, PartitionClaims, InUse, NameClaims, Ticked}
use Rattle.trace.proofs.Invariant.{region_for, PartitionIs, Inv}
use Rattle.trace.proofs.Frame.{unit_least, pages_allowed, inside_parts, partition_shaped, buffer_lies, chained_buffer}
use Rattle.trace.proofs.Buffers.{buffer_within, within_buffer}
use Rattle.trace.proofs.Clients.{RegionAt, region_at_lem, partition_at_lem, SegmentLoan, segment_in, segment_some}
use Rattle.trace.proofs.Loans.Lawful as lawful
use Rattle.trace.proofs.Segments.{law, Regular, regular, loan_holds, pages_lent}
use Rattle.trace.proofs.Map.{drawing}
use Rattle.trace.proofs.Loans.Addresses.{address_pages}
use Rattle.trace.proofs.Queue.Waiters.{waiter_places, waiters_for_lem}
use Rattle.trace.proofs.Partitions.Slot.{buffers_in_lem, unlent_once}
use Rattle.trace.proofs.Names.{regions_named, partitions_named}
use Rattle.trace.proofs.Replies.Names.{name_claims, taken_claim}
use Rattle.trace.proofs.Replies.Consequences.{unsatisfied_by, lowest_by, aligned_by, invalid_by, undefined_by, information_by, size_by, resize_by, resize_serves_by, return_by, buffer_unsatisfied, buffer_front}
use Rattle.trace.proofs.Regions.Checks.{not_damaged}
use Rattle.trace.proofs.Regions.Lending.{none_lent, queue_none}
use Rattle.trace.proofs.Regions.Queue.{queue_asks}
use Rattle.trace.proofs.Directives.{performs}
use Rattle.trace.proofs.Directives.Tick.{ticked_by}

-- ---- a chain by word 0

-- the buffers of a sound chain are met by word 0, up to 0
chained_from : (m : List ℕ) (p : Partition) → ((a : ℕ) → is_buffer p a ≡ true → ¬ (a ≡ 0)) → (n before a : ℕ) → linked n m p before a ≡ true
    → Chained m a (follow n m a)
unfolding follow
chained_from m p h zero before a l = subst (λ (b : ℕ). Chained m b []) (sym (linked_last m p before a l)) null
chained_from m p h (suc n) before a l =
    link (h a (linked_buffer m p n before a l)) (chained_from m p h n a (next_of m a) (linked_rest m p n before a l))

-- ---- what is claimed of answers

module _ (i : Implementation) (s : State) (v : Inv s.memory s.manager s.receipts)
    (replies : (c : Call) → reply_of (answer i s c) ≡ by_receipts (length s.memory) s.receipts c)
    (reads : (id address : ℕ) → i.read s.memory s.manager id address ≡ read_by_receipts s.memory s.receipts id address) where
  -- a call's status, value and notices
  status_by : (c : Call) → (answer i s c).status ≡ (by_receipts (length s.memory) s.receipts c).status
  status_by c = ap (λ (r : Reply). r.status) (replies c)

  value_by : (c : Call) → (answer i s c).value ≡ (by_receipts (length s.memory) s.receipts c).value
  value_by c = ap (λ (r : Reply). r.value) (replies c)

  notices_by : (c : Call) → (answer i s c).notices ≡ (by_receipts (length s.memory) s.receipts c).notices
  notices_by c = ap (λ (r : Reply). r.notices) (replies c)

  -- NO ANSWER IS 25
  pub sound_claim : (c : Call) → ¬ ((answer i s c).status ≡ InternalError)
  sound_claim c e =
      let p = performs s.memory s.manager s.receipts v c in
      not_damaged _ p.kept.undamaged (ap (λ (r : Reply). r.status) p.replies ∙ sym (status_by c) ∙ e)

  -- A TICK
  pub tick_claim : Ticked s.receipts (answer i s Tick).notices
  tick_claim = rw (notices_by Tick) (ticked_by s.memory s.manager s.receipts v)

  -- EACH TASK HAS AT MOST ONE NOTICE OF A CALL, and all of them have places: they are those of the definitions
  once : (c : Call) → Once (perform s.memory s.manager c)
  once = told_once s.memory s.manager (waiter_places s.manager s.receipts v.waits)

  defined_notices : (c : Call) → (answer i s c).notices ≡ (perform s.memory s.manager c).notices
  defined_notices c = notices_by c ∙ ap (λ (r : Reply). r.notices) (sym (performs s.memory s.manager s.receipts v c).replies)

  pub once_claim : (c : Call) → Distinct (tasks_told (answer i s c).notices)
  once_claim c = rw (defined_notices c) (once c).once

  pub few_claim : (c : Call) → length (answer i s c).notices ≤ tasks
  few_claim c = rw (defined_notices c) (once c).few

  -- NAMES, of either kind
  pub region_names : NameClaims s.receipts.regions (λ e. e.name) (λ n. answer i s (IdentRegion n))
  unfolding by_receipts
  region_names = name_claims (regions_named _ _ _ v.picture) (λ n. answer i s (IdentRegion n)) (λ n. replies (IdentRegion n))

  pub partition_names : NameClaims s.receipts.partitions (λ e. e.name) (λ n. answer i s (IdentPartition n))
  unfolding by_receipts
  partition_names = name_claims (partitions_named _ _ _ v.picture) (λ n. answer i s (IdentPartition n)) (λ n. replies (IdentPartition n))

  pub region_taken : (name start bytes page : ℕ) (order : Order)
      → ((answer i s (CreateRegion name start bytes page order)).status ≡ InvalidName) ↔ ((name ≡ 0) ⊎ InUse s.receipts.regions (λ e. e.name) name)
  unfolding by_receipts every
  region_taken name start bytes page order =
      taken_claim (regions_named _ _ _ v.picture) name _ _ refl refl (answer i s (CreateRegion name start bytes page order)) (replies (CreateRegion name start bytes page order))

  pub partition_taken : (name start bytes size : ℕ)
      → ((answer i s (CreatePartition name start bytes size)).status ≡ InvalidName) ↔ ((name ≡ 0) ⊎ InUse s.receipts.partitions (λ e. e.name) name)
  unfolding by_receipts every
  partition_taken name start bytes size =
      taken_claim (partitions_named _ _ _ v.picture) name _ _ refl refl (answer i s (CreatePartition name start bytes size)) (replies (CreatePartition name start bytes size))

  -- A REGION
  module _ (id : ℕ) (e : RegionEntry) (q : s.receipts.regions id ≡ Some e) where
    at : RegionAt s.memory (region_of s.manager id) e
    at = region_at_lem s.memory (region_of s.manager id) (s.receipts.regions id) e (v.picture.regions id) q

    loans : Regular e
    loans = regular s.memory e at.is

    -- a wait of its queue asks for something
    asking : (w : Wait) → In w (queue_of id e s.receipts) → 0 < w.size
    asking = queue_asks s.manager s.receipts v.waits id e q

    -- a read of a loan has words
    read_some : (a k : ℕ) → Lent e.loans a k → ¬ (i.read s.memory s.manager id a ≡ [])
    read_some a k x h =
        let m = s.memory in
        let b = loan_holds e loans a k x in
        let l : SegmentLoan e a (k * unit e) = record { p = page_in e a; k = k; lent = b.lent; at = b.at; bytes = refl } in
        let w = segment_in m e at.is a (k * unit e) l in
        let u : 1 * 8 ≤ k * unit e = mul-le-mul (segment_some m e at.is a (k * unit e) l) (unit_least e at.is.page_some) in
        let r : read_by_receipts m s.receipts id a ≡ take (k * unit e / 4) (drop (a / 4) m) = rw (q, pages_lent e loans a k x) in
        let z : length (take (k * unit e / 4) (drop (a / 4) m)) ≡ 0 = ap length (sym r ∙ sym (reads id a) ∙ h) in
        let f = (inside_parts m e.start e.bytes at.is.inside).upto in
        omega (arith, w.upto, w.whole, length-take (k * unit e / 4) (drop (a / 4) m), length-drop (a / 4) m)

    -- with nothing lent the map is as a create draws it
    whole_map : e.loans ≡ [] → map_in s.memory e ≡ draw (free (pages_in e) ∷ [])
    unfolding in_pages
    whole_map n =
        let d = (law e).new (span_in e) (pages_allowed e at.is.some_page) in
        at.is.map ∙ ap (λ (l : List Loan). draw ((reading e).drawn (span_in e) (by_page e l))) n
        ∙ ap draw (sym d.is ∙ free_front (pages_in e) [] tt at.is.some_page)

    pub region_claims : RegionClaims i s id e
    region_claims =
        let n = length s.memory in
        let t = s.receipts in
        record {
          placed = λ a k x. (loan_holds e loans a k x).at;
          ordered = loans.fits;
          map = at.is.map;
          whole = whole_map;
          counted =
              ap (λ (l : List ℕ). sum l + free_pages (segments s.memory (region_for e))) (ap loan_pages loans.placed ∙ address_pages (unit e) (page_loans e))
              ∙ lawful.counted (law e) (drawing s.memory e at.is);
          unsatisfied = λ size alignment task priority ticks z a h. rw (status_by (GetSegment id size alignment No task priority ticks))
              (unsatisfied_by n t id e q loans size alignment task priority ticks z a h);
          lowest = λ size alignment task priority ticks z a h.
              rw (status_by (GetSegment id size alignment No task priority ticks), value_by (GetSegment id size alignment No task priority ticks))
              (lowest_by n t id e q loans size alignment task priority ticks z a h);
          aligned = λ size alignment wait task priority ticks o h. rw (value_by (GetSegment id size alignment wait task priority ticks))
              (aligned_by n t id e q loans size alignment task priority ticks wait o (sym (status_by (GetSegment id size alignment wait task priority ticks)) ∙ h));
          invalid = λ size alignment task priority ticks z k. rw (status_by (GetSegment id size alignment No task priority ticks))
              (invalid_by n t id e q loans size alignment task priority ticks z k);
          undefined = λ size alignment task priority ticks z. rw (status_by (GetSegment id size alignment No task priority ticks))
              (undefined_by n t id e q loans size alignment task priority ticks z);
          read = read_some;
          information = ap (λ (r : Reply). r.information) (replies (RegionInformation id) ∙ information_by n t id e q loans);
          size = λ a k x. ap (λ (r : Reply). r.value) (replies (SegmentSize id a) ∙ size_by n t id e q loans a k x);
          resize = λ a k size x z. rw (status_by (ResizeSegment id a size), value_by (ResizeSegment id a size)) (resize_by n t id e q loans a k x size z);
          resize_serves = λ a k size x z. rw (status_by (ResizeSegment id a size), notices_by (ResizeSegment id a size))
              (resize_serves_by n t id e q loans a k x size z asking);
          queue = waiters_for_lem s.manager t v.waits id e q;
          idle = λ l. queue_none t id e (none_lent s.manager t v.waits id e q l);
          return = λ a k x. rw (status_by (ReturnSegment id a), notices_by (ReturnSegment id a)) (return_by n t id e q loans a k x asking);
        }

  -- A PARTITION
  module _ (id : ℕ) (e : PartitionEntry) (q : s.receipts.partitions id ≡ Some e) where
    abbrev partition : Partition
    partition = partition_of s.manager id

    is : PartitionIs s.memory partition e
    is = partition_at_lem s.memory partition (s.receipts.partitions id) e (v.picture.partitions id) q

    -- no buffer is at 0
    not_null : (a : ℕ) → is_buffer partition a ≡ true → ¬ (a ≡ 0)
    not_null a b z = omega (arith, (buffer_lies s.memory partition e is a b).low, (partition_shaped s.memory partition e is).start_in)

    -- its buffers, as its entry asks for them
    asked_within : (a : ℕ) → In a (buffers_from (buffers_in e) e.size e.start) ↔ (is_buffer partition a ≡ true)
    asked_within a =
        let h = partition_shaped s.memory partition e is in
        rw (← buffers_in_lem s.memory partition e is, ← is.size, ← is.start) (within_buffer partition h a, buffer_within partition h a)

    counted : length e.lent + length e.unlent ≡ buffers_in e
    counted = is.counted ∙ buffers_in_lem s.memory partition e is

    pub partition_claims : PartitionClaims i s id e
    partition_claims =
        let n = length s.memory in
        let t = s.receipts in
        record {
          chained = subst (λ (l : List ℕ). Chained s.memory partition.front l) is.chained
              (chained_from s.memory partition not_null partition.free 0 partition.front (live_chain s.memory partition is.sound));
          chained_once = unlent_once s.memory partition e is;
          once = is.once;
          each = λ a. (
            λ w. is.either a ((asked_within a).0 w),
            λ w. (asked_within a).1 (⊎_elim (λ (l : In a e.lent). is.buffer a l) (λ (l : In a e.unlent). chained_buffer s.memory partition e is a l) w),
          );
          either = is.apart;
          counted = counted;
          unsatisfied = rw (status_by (GetBuffer id)) (buffer_unsatisfied n t id e q counted);
          front = λ a u l. rw (status_by (GetBuffer id), value_by (GetBuffer id)) (buffer_front n t id e q counted a u l);
        }
