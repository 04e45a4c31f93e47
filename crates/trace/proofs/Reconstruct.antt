-- Receipts read off a sound record: with them the invariant holds. So whatever is proved of the invariant's states holds of every sound
-- record. Assumes nothing.
pub mod Region
pub mod Waits
pub mod Queue
pub mod Partition
use mathlib.Core.Path.{◌≡◌, refl, sym, ap, ◌∙◌}
use mathlib.Core.Bool.{true}
use mathlib.Core.List.{List}
use mathlib.Core.Logic.{⊎_elim}
use Prim.Native.Nat.{ℕ, ◌<◌}
use native.Mathlib.Omega.{arith}
use lib.ListN.{length, get_or}
use borrow.Author.Tests.{eq-eqb}
use Rattle.manager.specs.Lists.{every}
use Rattle.manager.proofs.Laws.Lists.{every_at}
use Rattle.manager.specs.Record.{slots, tasks, no_region, no_partition, slot_of, id_of, region_of, partition_of}
use Rattle.manager.specs.Sound.{sound_region, sound_partition, sound}
use Rattle.manager.specs.Regions.{region_generation}
use Rattle.manager.specs.Partitions.{partition_generation}
use Rattle.manager.specs.declared.Manager.{Manager}
use Rattle.manager.specs.declared.Region as region
use Rattle.manager.specs.declared.Partition as partition
use Rattle.manager.proofs.Laws.Ids.{id_back, Live, live_object, live_within, object_cases}
use Rattle.manager.proofs.Laws.Sound.{sound_length_lem, sound_regions, sound_partitions, sound_names_lem, sound_areas_lem, sound_queue_lem, region_generation_lem, empty_of}
use Rattle.manager.proofs.Laws.Names.{region_names, partition_names}
use Rattle.manager.proofs.Laws.Partition.Live.{partition_generation_lem, empty_partition_lem}
use Rattle.trace.specs.Receipts.{Receipts}
use Rattle.trace.proofs.Invariant.{RegionSlotIs, PartitionSlotIs, Inv}
use Region.{slot_entry, no_region_lem, region_read}
use Partition.{partition_slot, no_partition_lem, partition_read}
use Waits.{waits_of}
use Queue.{waits_read}

-- what a record says of loans and waits, and of deletes: a slot's generation
abbrev pub receipts_of : List ℕ → Manager → Receipts
receipts_of m d =
    record {
      regions = λ id. slot_entry m (region_of d id);
      partitions = λ id. partition_slot m (partition_of d id);
      region_deletes = region_generation d;
      partition_deletes = partition_generation d;
      waits = waits_of d.waiters;
    }

module _ (m : List ℕ) (d : Manager) (nr : length d.regions ≡ slots) (np : length d.partitions ≡ slots) where
  -- the object of any id is sound
  pub region_clause : every (sound_region m) d.regions ≡ true → (id : ℕ) → sound_region m (region_of d id) ≡ true
  unfolding sound_region
  region_clause e id =
      ⊎_elim
      (λ (s : Live (λ (r : region.Region). r.name) (λ r. r.generation) no_region d.regions id).
      rw s.is (every_at (sound_region m) d.regions (slot_of id) no_region e (live_within (λ r. r.name) (λ r. r.generation) no_region d.regions refl id s)))
      (λ (h : region_of d id ≡ no_region). ap (sound_region m) h) (object_cases (λ r. r.name) (λ r. r.generation) no_region d.regions id)

  pub partition_clause : every (sound_partition m) d.partitions ≡ true → (id : ℕ) → sound_partition m (partition_of d id) ≡ true
  unfolding sound_partition
  partition_clause e id =
      ⊎_elim
      (λ (s : Live (λ (p : partition.Partition). p.name) (λ p. p.generation) no_partition d.partitions id).
      rw s.is (every_at (sound_partition m) d.partitions (slot_of id) no_partition e (live_within (λ p. p.name) (λ p. p.generation) no_partition d.partitions refl id s)))
      (λ (h : partition_of d id ≡ no_partition). ap (sound_partition m) h) (object_cases (λ p. p.name) (λ p. p.generation) no_partition d.partitions id)

  -- so is each slot
  region_slot : every (sound_region m) d.regions ≡ true → (i : ℕ) → i < slots → RegionSlotIs (get_or d.regions i no_region) (region_generation d i)
  region_slot e i h =
      let r = get_or d.regions i no_region in
      let s = every_at (sound_region m) d.regions i no_region e (omega arith) in
      record { same = refl; sound = region_generation_lem m r s; empty = λ n. no_region_lem r n (empty_of m r s (eq-eqb r.name 0 n)) }

  partition_slot_lem : every (sound_partition m) d.partitions ≡ true → (i : ℕ) → i < slots → PartitionSlotIs (get_or d.partitions i no_partition) (partition_generation d i)
  partition_slot_lem e i h =
      let p = get_or d.partitions i no_partition in
      let s = every_at (sound_partition m) d.partitions i no_partition e (omega arith) in
      record { same = refl; sound = partition_generation_lem m p s; empty = λ n. no_partition_lem p n (empty_partition_lem m p s (eq-eqb p.name 0 n)) }

  -- a live id is the one that its slot has now
  id_now_lem : (id : ℕ) → ¬ ((region_of d id).name ≡ 0) → id ≡ id_of (slot_of id) (region_generation d (slot_of id))
  id_now_lem id n =
      let s = live_object (λ r. r.name) (λ r. r.generation) no_region d.regions refl id n in
      let h = live_within (λ r. r.name) (λ r. r.generation) no_region d.regions refl id s in
      sym (ap (id_of (slot_of id)) s.same ∙ id_back id (omega arith))

  -- A SOUND RECORD IS THE PICTURE OF RECEIPTS
  pub sound_inv : length d.waiters ≡ tasks → sound m d ≡ true → Inv m d (receipts_of m d)
  sound_inv nw e =
      let rs = sound_regions m d e in
      let ps = sound_partitions m d e in
      record {
        picture = record {
          words = sound_length_lem m d e;
          region_slots = nr;
          partition_slots = np;
          regions = λ id. region_read m (region_of d id) (region_clause rs id);
          partitions = λ id. partition_read m (partition_of d id) (partition_clause ps id);
          region_is = region_slot rs;
          partition_is = partition_slot_lem ps;
          region_names = region_names d (sound_names_lem m d e);
          partition_names = partition_names d (sound_names_lem m d e);
          areas = sound_areas_lem m d e;
        };
        waits = waits_read m d (receipts_of m d) (λ id. refl) (region_clause rs) id_now_lem nw refl (sound_queue_lem m d e);
      }
