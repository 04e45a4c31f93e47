-- What clients hold lies in the areas of the objects that lent it, and holds none of the words that the manager keeps for itself: a
-- region's map lies before its pages, and a chained buffer is not lent. So whatever clients write into what they hold keeps the
-- invariant, and a call that changes only words of the manager's own moves none of theirs. Assumes nothing.
use Rattle.std.specs.Prelude.{Option, Some}
use mathlib.Core.Path.{◌≡◌, refl, sym, ap, subst}
use mathlib.Core.List.{List}
use mathlib.Core.Logic.{⊎_elim}
use Prim.Native.Nat.{ℕ, ◌+◌, ◌*◌, ◌/◌, ◌%◌, ◌≤◌, ◌<◌}
use native.Mathlib.Nat.{add-mul}
use native.Mathlib.Omega.{arith}
use lib.ListN.{get_or}
use Rattle.arith.specs.Layout.{map_start}
use Rattle.arith.proofs.Laws.Layout.{map_ge}
use Rattle.manager.specs.Record.{region_of, partition_of}
use Rattle.manager.specs.Region.{map_at, area_of}
use Rattle.manager.specs.declared.Area.{Area}
use Rattle.manager.specs.declared.Manager.{Manager}
use Rattle.manager.specs.declared.Region.{Region}
use Rattle.manager.specs.declared.Partition.{Partition}
use Rattle.manager.specs.Lists.{In}
use Rattle.manager.proofs.Laws.Areas.{area_for}
use Rattle.trace.specs.Loans.{Lent}
use Rattle.trace.specs.Receipts.{Receipts, RegionEntry, PartitionEntry, unit, pages_in, address_in, page_in, page_loans}
use Rattle.trace.specs.Trace.{Object, region, partition, Loaned, segment, buffer, Owned, ClientsWrite}
use Rattle.trace.proofs.Invariant.{Inside, region_as, region_for, RegionIs, RegionSlot, PartitionIs, PartitionSlot, Inv, empty, live, OnlyMap}
use Rattle.trace.proofs.Frame.{map_at_lem, unit_whole, whole_times, pages_from, pages_upto, region_inside, region_same, partition_shaped, buffer_lies, buffers_apart, chained_buffer, link_next, link_before, buffer_inside, partition_same}
use Rattle.trace.proofs.Loans.Lawful.{lent_some, lent_from, lent_within}
use Rattle.trace.proofs.Segments.{law, regular, loan_holds}
use Rattle.trace.proofs.Areas.{area_in, sound_clear, same_object}
use Rattle.trace.proofs.Disjoint.{clear_words}

-- ---- what stands in a live slot

pub record RegionAt (m : List ℕ) (r : Region) (e : RegionEntry) : Type 0 where
  pub generation : ℕ
  pub region : r ≡ region_as generation e
  pub is : RegionIs m e

pub region_at_lem : (m : List ℕ) (r : Region) (o : Option RegionEntry) (e : RegionEntry) → RegionSlot m r o → o ≡ Some e → RegionAt m r e
region_at_lem m r o e (empty g) f = absurd (let z : ◌≡◌ {A = ℕ} 0 1 = cc in omega arith)
region_at_lem m r o e (live g e' is) f =
    let h : e' ≡ e = cc in
    record { generation = g; region = ap (region_as g) h; is = subst (λ (x : RegionEntry). RegionIs m x) h is }

pub partition_at_lem : (m : List ℕ) (p : Partition) (o : Option PartitionEntry) (e : PartitionEntry) → PartitionSlot m p o → o ≡ Some e → PartitionIs m p e
partition_at_lem m p o e (empty g) f = absurd (let z : ◌≡◌ {A = ℕ} 0 1 = cc in omega arith)
partition_at_lem m p o e (live q e' is) f =
    let g : e' ≡ e = cc in
    subst (λ (x : PartitionEntry). PartitionIs m p x) g is

-- ---- the loans of an object

-- a loan of a region is one of some of its pages; of a partition, a lent buffer
pub record SegmentLoan (e : RegionEntry) (a n : ℕ) : Type 0 where
  pub p : ℕ
  pub k : ℕ
  pub lent : Lent (page_loans e) p k
  pub at : a ≡ address_in e p
  pub bytes : n ≡ k * unit e

pub record BufferLoan (e : PartitionEntry) (a n : ℕ) : Type 0 where
  pub lent : In a e.lent
  pub bytes : n ≡ e.size

pub segment_loan : (m : List ℕ) (t : Receipts) (id a n : ℕ) (e : RegionEntry) → RegionIs m e → t.regions id ≡ Some e → Loaned t (region id) a n → SegmentLoan e a n
segment_loan m t id a n e is f (segment e' g k l) =
    let h : e' ≡ e = cc in
    let x = loan_holds e (regular m e is) a k (subst (λ (y : RegionEntry). Lent y.loans a k) h l) in
    record { p = page_in e a; k = k; lent = x.lent; at = x.at; bytes = ap (λ (y : RegionEntry). k * unit y) h }

pub buffer_loan : (t : Receipts) (id a n : ℕ) (e : PartitionEntry) → t.partitions id ≡ Some e → Loaned t (partition id) a n → BufferLoan e a n
buffer_loan t id a n e f (buffer e' g l) =
    let h : e' ≡ e = cc in
    record { lent = subst (λ (x : PartitionEntry). In a x.lent) h l; bytes = ap (λ (x : PartitionEntry). x.size) h }

-- of whole words, in an area
pub record LoanIn (a : Area) (address bytes : ℕ) : Type 0 where
  pub from : a.start ≤ address
  pub upto : address + bytes ≤ a.start + a.length
  pub whole : address % 4 ≡ 0
  pub whole_bytes : bytes % 4 ≡ 0

-- where a loan of a region lies: in its pages, and so behind its map
module _ (m : List ℕ) (e : RegionEntry) (is : RegionIs m e) (a n : ℕ) (l : SegmentLoan e a n) where
  pub segment_behind : map_start e.start + 4 * pages_in e ≤ a
  segment_behind = omega (arith, l.at, pages_from m e is l.p (lent_from (law e) is.fits l.p l.k l.lent))

  pub segment_some : 0 < l.k
  segment_some = lent_some (law e) is.fits l.p l.k l.lent

  pub segment_in : LoanIn (area_for (region_for e)) a n
  segment_in =
      let w : unit e % 4 ≡ 0 = omega (arith, unit_whole e) in
      let u = pages_upto m e is (l.p + l.k) (lent_within (law e) is.fits l.p l.k l.lent) in
      record {
        from = omega (arith, segment_behind, map_ge e.start);
        upto = omega (arith, l.at, l.bytes, u, add-mul l.p l.k (unit e));
        whole = omega (arith, l.at, whole_times l.p (unit e) w);
        whole_bytes = omega (arith, l.bytes, whole_times l.k (unit e) w);
      }

module _ (m : List ℕ) (p : Partition) (e : PartitionEntry) (is : PartitionIs m p e) (a n : ℕ) (l : BufferLoan e a n) where
  pub buffer_in : LoanIn (area_of p) a n
  buffer_in =
      let b = is.buffer a l.lent in
      let c = buffer_lies m p e is a b in
      record {
        from = c.low;
        upto = omega (arith, c.high, l.bytes, is.size);
        whole = c.aligned;
        whole_bytes = omega (arith, l.bytes, is.size, (partition_shaped m p e is).whole);
      }

-- EVERY LOAN LIES IN THE AREA OF ITS OBJECT
module _ (m : List ℕ) (d : Manager) (t : Receipts) (v : Inv m d t) where
  pub loan_in : (o : Object) (a n : ℕ) → Loaned t o a n → LoanIn (area_in d o) a n
  loan_in (region id) a n (segment e g k h) =
      let r = region_at_lem m (region_of d id) (t.regions id) e (v.picture.regions id) g in
      rw r.region (segment_in m e r.is a (k * unit e) (segment_loan m t id a (k * unit e) e r.is g (segment e g k h)))
  loan_in (partition id) a n (buffer e g h) =
      let s = partition_at_lem m (partition_of d id) (t.partitions id) e (v.picture.partitions id) g in
      buffer_in m (partition_of d id) e s a e.size (record { lent = h; bytes = refl })

  -- a word that clients hold lies in the area of the object that lent it
  pub owned_inside : (w : ℕ) (h : Owned t w) → Inside (area_in d h.0).start (area_in d h.0).length w
  owned_inside w h =
      let l = loan_in h.0 h.1 h.2 h.3 in
      omega (arith, l.from, l.upto, l.whole, l.whole_bytes, h.4, h.5)

  -- so a word of an object's area that clients hold is of a loan of that object
  owned_of : (o : Object) (w : ℕ) → Inside (area_in d o).start (area_in d o).length w → (h : Owned t w) → Loaned t o h.1 h.2
  owned_of o w i h =
      ⊎_elim (λ (q : h.0 ≡ o). subst (λ (x : Object). Loaned t x h.1 h.2) q h.3)
      (λ (n : ¬ (h.0 ≡ o)). absurd (clear_words (area_in d h.0) (area_in d o) w
      (sound_clear d v.picture.region_slots v.picture.partition_slots v.picture.areas h.0 o n) (owned_inside w h) i))
      (same_object h.0 o)

  -- A WORD OF A MAP IS NOT HELD BY CLIENTS
  pub map_not_owned : (id : ℕ) (e : RegionEntry) → t.regions id ≡ Some e → (w : ℕ) → map_at (region_for e) ≤ w → w < map_at (region_for e) + pages_in e → ¬ Owned t w
  map_not_owned id e f w lo hi h =
      let r = region_at_lem m (region_of d id) (t.regions id) e (v.picture.regions id) f in
      let l = segment_loan m t id h.1 h.2 e r.is f (owned_of (region id) w (rw r.region (region_inside m e r.is w lo hi)) h) in
      omega (arith, segment_behind m e r.is h.1 h.2 l, map_at_lem e.start, h.4)

  -- NOR IS A WORD OF A BUFFER THAT IS NOT LENT
  pub buffer_not_owned : (id : ℕ) (e : PartitionEntry) → t.partitions id ≡ Some e → (a w : ℕ) → In a e.unlent → Inside a (partition_of d id).size w → ¬ Owned t w
  buffer_not_owned id e f a w u i h =
      let s = partition_at_lem m (partition_of d id) (t.partitions id) e (v.picture.partitions id) f in
      let c = chained_buffer m (partition_of d id) e s a u in
      let l = buffer_loan t id h.1 h.2 e f (owned_of (partition id) w (buffer_inside m (partition_of d id) e s a w c i) h) in
      ⊎_elim (λ (g : h.1 ≡ a). s.apart h.1 l.lent (subst (λ (b : ℕ). In b e.unlent) (sym g) u))
      (⊎_elim (λ (g : h.1 + (partition_of d id).size ≤ a). omega (arith, i.low, i.high, h.4, h.5, l.bytes, s.size))
      (λ (g : a + (partition_of d id).size ≤ h.1). omega (arith, i.low, i.high, h.4, h.5)))
      (buffers_apart m (partition_of d id) e s h.1 a (s.buffer h.1 l.lent) c)

  -- WHATEVER CLIENTS WRITE KEEPS THE INVARIANT
  pub clients_keep : (m' : List ℕ) → ClientsWrite t m m' → Inv m' d t
  clients_keep m' c =
      record {
        picture = record {
          words = rw c.size v.picture.words;
          region_slots = v.picture.region_slots;
          partition_slots = v.picture.partition_slots;
          regions = λ id. keep_region id (region_of d id) (t.regions id) refl (v.picture.regions id);
          partitions = λ id. keep_partition id (partition_of d id) (t.partitions id) refl refl (v.picture.partitions id);
          region_is = v.picture.region_is;
          partition_is = v.picture.partition_is;
          region_names = v.picture.region_names;
          partition_names = v.picture.partition_names;
          areas = v.picture.areas;
        };
        waits = v.waits;
      }
    where
      keep_region : (id : ℕ) (r : Region) (o : Option RegionEntry) → t.regions id ≡ o → RegionSlot m r o → RegionSlot m' r o
      keep_region id r o f (empty g) = empty g
      keep_region id r o f (live g e is) = live g e (region_same m e is m' c.size (λ w lo hi. c.others w (map_not_owned id e f w lo hi)))

      keep_partition : (id : ℕ) (p : Partition) (o : Option PartitionEntry) → partition_of d id ≡ p → t.partitions id ≡ o → PartitionSlot m p o → PartitionSlot m' p o
      keep_partition id p o q f (empty g) = empty g
      keep_partition id p o q f (live x e is) =
          live p e (partition_same m p e is m' c.size
          (λ a u. let b = chained_buffer m p e is a u in
          record {
            next = c.others (a / 4) (buffer_not_owned id e f a (a / 4) u (rw q (link_next m p e is a b)));
            before = c.others (a / 4 + 1) (buffer_not_owned id e f a (a / 4 + 1) u (rw q (link_before m p e is a b)));
          }))

-- ---- photographs stay put

-- whatever is of clients before a call and after it has its value still
abbrev pub Stays : Receipts → Receipts → List ℕ → List ℕ → Type 0
Stays t u m m' = (w : ℕ) → Owned t w → Owned u w → get_or m' w 0 ≡ get_or m w 0

-- no word is a link word of one of some buffers
abbrev pub NoLink : List ℕ → ℕ → Type 0
NoLink l w = (a : ℕ) → In a l → ((w ≡ a / 4) → ⊥) × ((w ≡ a / 4 + 1) → ⊥)

module _ (m : List ℕ) (d : Manager) (t : Receipts) (v : Inv m d t) where
  -- THE WORDS OF A MAP ARE NOT OF CLIENTS: so a change of a map moves none of theirs
  pub map_stays : (id : ℕ) (e : RegionEntry) → t.regions id ≡ Some e → (k k' : List ℕ) → OnlyMap e k k' → (w : ℕ) → Owned t w → get_or k' w 0 ≡ get_or k w 0
  map_stays id e f k k' c w o =
      c.same w (λ (i : Inside (4 * map_at (region_for e)) (4 * pages_in e) w).
      map_not_owned m d t v id e f w (omega (arith, i.low)) (omega (arith, i.high)) o)

  -- NOR ARE THE LINK WORDS OF BUFFERS THAT ARE NOT LENT
  pub owned_no_link : (id : ℕ) (e : PartitionEntry) → t.partitions id ≡ Some e → (w : ℕ) → Owned t w → NoLink e.unlent w
  owned_no_link id e f w o a u =
      let p = partition_of d id in
      let s = partition_at_lem m p (t.partitions id) e (v.picture.partitions id) f in
      let b = chained_buffer m p e s a u in (
        λ (q : w ≡ a / 4). buffer_not_owned m d t v id e f a w u (rw q (link_next m p e s a b)) o,
        λ (q : w ≡ a / 4 + 1). buffer_not_owned m d t v id e f a w u (rw q (link_before m p e s a b)) o,
      )
