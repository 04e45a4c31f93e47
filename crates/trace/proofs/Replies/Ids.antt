-- The slots of the record and of the receipts: the lowest empty one, the one with a name, and what areas meet. Assumes nothing.
use Rattle.std.specs.Prelude.{Option}
use mathlib.Core.Path.{◌≡◌, refl, sym, ap, ◌∙◌}
use mathlib.Core.Bool.{Bool, false, cond}
use mathlib.Core.List.{List, [], ◌∷◌}
use Prim.Native.Nat.{ℕ, suc, ◌+◌, ◌<◌}
use native.Mathlib.Omega.{arith}
use lib.ListN.{length, get_or}
use lib.Dec.{eqb, leb}
use borrow.Author.Tests.{ne_eqb, leb-false}
use Rattle.manager.specs.Lists as lists
use Rattle.manager.specs.Lists.{index_of}
use Rattle.manager.proofs.Laws.Appended.{by_case, some_append}
use Rattle.manager.specs.Record.{slots, no_region, no_partition, unspent, id_of}
use Rattle.manager.specs.Region.{area_of, region_areas, partition_areas, overlap}
use Rattle.manager.specs.Regions.{overlaps, unspent_region, region_named, region_id}
use Rattle.manager.specs.Partitions.{unspent_partition, partition_named, partition_id}
use Rattle.manager.specs.declared.Manager.{Manager}
use Rattle.manager.specs.declared.Region.{Region}
use Rattle.manager.specs.declared.Partition.{Partition}
use Rattle.manager.specs.declared.Area.{Area}
use Rattle.manager.proofs.Laws.Areas.{area_for, no_area, no_area_lem, clear_flip, overlap_of}
use Rattle.trace.specs.Receipts.{Receipts, RegionEntry, PartitionEntry}
use Rattle.trace.specs.Replies.{vacant, has, first_slot, any_slot, region_now, partition_now, new_region_slot, new_partition_slot, region_slot_of, partition_slot_of, shared, asked}
use Rattle.trace.proofs.Invariant.{RegionSlot, PartitionSlot, Picture, empty, live}
use Rattle.trace.proofs.Slots.{region_in_lem, partition_in}

-- ---- a list by its places, and slots from k on

module _ {A : Type 0} (z : A) (p : A → Bool) (q : ℕ → Bool) where
  pub first_index : (l : List A) (k : ℕ) → ((i j : ℕ) → i < length l → j ≡ k + i → p (get_or l i z) ≡ q j) → first_slot q (length l) k ≡ k + index_of p l
  unfolding first_slot index_of
  first_index [] k h = omega arith
  first_index (x ∷ l) k h =
      let ih = first_index l (suc k) (λ i j u e. h (suc i) j (omega arith) (omega arith)) in
      rw (← (h 0 k (omega arith) (omega arith)))
      (by_case (p x) (λ b. cond b k (first_slot q (length l) (suc k)) ≡ k + cond b 0 (suc (index_of p l))) (λ e. omega arith) (λ e. omega arith))

  pub any_some : (l : List A) (k : ℕ) → ((i j : ℕ) → i < length l → j ≡ k + i → p (get_or l i z) ≡ q j) → lists.any p l ≡ any_slot q (length l) k
  unfolding any_slot lists.any
  any_some [] k h = refl
  any_some (x ∷ l) k h =
      rw (h 0 k (omega arith) (omega arith), any_some l (suc k) (λ i j u e. h (suc i) j (omega arith) (omega arith)))

  -- all slots
  module _ (l : List A) (size : length l ≡ slots) (h : (i : ℕ) → i < slots → p (get_or l i z) ≡ q i) where
    at_slot : (i j : ℕ) → i < length l → j ≡ 0 + i → p (get_or l i z) ≡ q j
    at_slot i j u e = let f : j ≡ i = omega arith in rw f (h i (omega arith))

    pub first_slot_lem : first_slot q slots 0 ≡ index_of p l
    first_slot_lem = let e = rw size at (first_index l 0 at_slot) in e ∙ omega arith

    pub any_slot_lem : lists.any p l ≡ any_slot q slots 0
    any_slot_lem = rw size at (any_some l 0 at_slot)

-- ---- areas

region_areas_lem : (f : Area → Bool) (rs : List Region) → lists.any f (region_areas rs) ≡ lists.any (λ r. f (area_for r)) rs
unfolding region_areas lists.any
region_areas_lem f [] = refl
region_areas_lem f (r ∷ rs) = rw (region_areas_lem f rs)

partition_areas_lem : (f : Area → Bool) (ps : List Partition) → lists.any f (partition_areas ps) ≡ lists.any (λ p. f (area_of p)) ps
unfolding partition_areas lists.any
partition_areas_lem f [] = refl
partition_areas_lem f (p ∷ ps) = rw (partition_areas_lem f ps)

-- ---- what stands in a slot, by its entry

module _ (m : List ℕ) where
  region_vacant : (r : Region) (o : Option RegionEntry) → RegionSlot m r o → eqb r.name 0 ≡ vacant o
  region_vacant r o (empty g) = refl
  region_vacant r o (live g e is) = ne_eqb e.name 0 is.named

  region_named_lem : (name : ℕ) → ¬ (name ≡ 0) → (r : Region) (o : Option RegionEntry) → RegionSlot m r o → eqb r.name name ≡ has (λ e. eqb e.name name) o
  region_named_lem name n r o (empty g) = ne_eqb 0 name (λ e. n (sym e))
  region_named_lem name n r o (live g e is) = refl

  region_meets : (a : Area) (r : Region) (o : Option RegionEntry) → RegionSlot m r o
      → overlap a (area_for r) ≡ has (λ e. shared a.start a.length e.start e.bytes) o
  region_meets a r o (empty g) = overlap_of a no_area (clear_flip no_area a (no_area_lem a))
  region_meets a r o (live g e is) = refl

  partition_vacant : (p : Partition) (o : Option PartitionEntry) → PartitionSlot m p o → eqb p.name 0 ≡ vacant o
  partition_vacant p o (empty g) = refl
  partition_vacant p o (live x e is) = ne_eqb p.name 0 is.named

  partition_named_lem : (name : ℕ) → ¬ (name ≡ 0) → (p : Partition) (o : Option PartitionEntry) → PartitionSlot m p o → eqb p.name name ≡ has (λ e. eqb e.name name) o
  partition_named_lem name n p o (empty g) = ne_eqb 0 name (λ e. n (sym e))
  partition_named_lem name n p o (live x e is) = rw is.name

  partition_meets : (a : Area) (p : Partition) (o : Option PartitionEntry) → PartitionSlot m p o
      → overlap a (area_of p) ≡ has (λ e. shared a.start a.length e.start e.bytes) o
  partition_meets a p o (empty g) = overlap_of a no_area (clear_flip no_area a (no_area_lem a))
  partition_meets a p o (live x e is) = rw (is.start, is.bytes)

-- ---- all slots

module _ (m : List ℕ) (d : Manager) (t : Receipts) (v : Picture m d t) where
  -- THE LOWEST EMPTY SLOT THAT IS NOT SPENT, AND THE LOWEST WITH A NAME
  pub new_region_lem : new_region_slot t ≡ unspent_region d
  new_region_lem =
      first_slot_lem no_region (λ r. unspent r.name r.generation) _ d.regions v.region_slots
      (λ i h. rw (region_vacant m _ _ (region_in_lem m d t v i h), (v.region_is i h).same))

  pub new_partition_lem : new_partition_slot t ≡ unspent_partition d
  new_partition_lem =
      first_slot_lem no_partition (λ p. unspent p.name p.generation) _ d.partitions v.partition_slots
      (λ i h. rw (partition_vacant m _ _ (partition_in m d t v i h), (v.partition_is i h).same))

  pub region_slot : (name : ℕ) → ¬ (name ≡ 0) → region_slot_of t name ≡ region_named d name
  region_slot name n = first_slot_lem no_region (λ r. eqb r.name name) _ d.regions v.region_slots (λ i h. region_named_lem m name n _ _ (region_in_lem m d t v i h))

  pub partition_slot_lem : (name : ℕ) → ¬ (name ≡ 0) → partition_slot_of t name ≡ partition_named d name
  partition_slot_lem name n = first_slot_lem no_partition (λ p. eqb p.name name) _ d.partitions v.partition_slots (λ i h. partition_named_lem m name n _ _ (partition_in m d t v i h))

  -- the id of a slot that was found
  pub region_id_lem : (i j : ℕ) → j ≡ i → leb slots j ≡ false → region_id d i ≡ region_now t j
  region_id_lem i j e h = rw e (ap (id_of i) (v.region_is i (leb-false slots i (rw e at h))).same)

  pub partition_id_lem : (i j : ℕ) → j ≡ i → leb slots j ≡ false → partition_id d i ≡ partition_now t j
  partition_id_lem i j e h = rw e (ap (id_of i) (v.partition_is i (leb-false slots i (rw e at h))).same)

  -- AN AREA MEETS A LIVE ONE
  pub area_asked : (a : Area) → overlaps d a ≡ asked t a.start a.length
  area_asked a =
      some_append (overlap a) (region_areas d.regions) (partition_areas d.partitions)
      ∙ rw (
        region_areas_lem (overlap a) d.regions,
        partition_areas_lem (overlap a) d.partitions,
        any_slot_lem no_region (λ r. overlap a (area_for r)) _ d.regions v.region_slots (λ i h. region_meets m a _ _ (region_in_lem m d t v i h)),
        any_slot_lem no_partition (λ p. overlap a (area_of p)) _ d.partitions v.partition_slots (λ i h. partition_meets m a _ _ (partition_in m d t v i h)),
      )
