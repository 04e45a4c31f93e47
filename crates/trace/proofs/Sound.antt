-- The invariant gives a sound record, clause by clause: each slot's picture is what its test asks. The queue's clause is a premise here.
-- Assumes nothing.
use Rattle.std.specs.Prelude.{Option}
use mathlib.Core.Path.{◌≡◌}
use mathlib.Core.Bool.{true}
use mathlib.Core.List.{List}
use Prim.Native.Nat.{ℕ, ◌%◌, ◌≤◌, ◌<◌}
use native.Mathlib.Omega.{arith}
use lib.ListN.{get_or}
use borrow.Author.Tests.{eq-eqb, ne_eqb, le-leb}
use Rattle.manager.specs.Record.{slots, no_region, no_partition}
use Rattle.manager.specs.Sound.{sound_page, sound_generation, live_region, sound_region, sound_partition, sound_queue, sound}
use Rattle.manager.specs.declared.Manager.{Manager}
use Rattle.manager.specs.declared.Region.{Region}
use Rattle.manager.specs.declared.Partition.{Partition}
use Rattle.manager.proofs.Laws.Areas.{at_every}
use Rattle.manager.proofs.Laws.Names.{names_made}
use Rattle.trace.specs.Receipts.{Receipts, RegionEntry, PartitionEntry, unit, pages_in}
use Rattle.trace.specs.Replies.{region_now, partition_now}
use Rattle.trace.proofs.Invariant.{region_as, RegionIs, RegionSlot, PartitionSlot, Inv, empty, live}
use Rattle.trace.proofs.Slots.{region_in_lem, partition_in}
use Rattle.trace.proofs.Frame.{unit_least, unit_most, unit_whole}
use Rattle.trace.proofs.Loans.Lawful as lawful
use Rattle.trace.proofs.Segments.{law}

-- a page size as create leaves it
pub unit_sound : (e : RegionEntry) → 1 ≤ e.page → e.page ≤ 4096 → sound_page (unit e) ≡ true
unit_sound e l h =
    rw (le-leb 8 (unit e) (unit_least e l), le-leb (unit e) 4096 (unit_most e h), eq-eqb (unit e % 8) 0 (unit_whole e))

-- a live region's clause
pub region_live : (m : List ℕ) (g : ℕ) (e : RegionEntry) → RegionIs m e → live_region m (region_as g e) ≡ true
unfolding live_region
region_live m g e is =
    rw (is.inside, unit_sound e is.page_some is.page_most, le-leb 1 (pages_in e) is.some_page, is.map)
    (lawful.sound (law e) (lawful.drawn_is (law e) is.fits))

pub region_sound : (m : List ℕ) (r : Region) (o : Option RegionEntry) → RegionSlot m r o → sound_generation r.name r.generation ≡ true → sound_region m r ≡ true
unfolding sound_region
region_sound m r o (empty g) h = rw h
region_sound m r o (live g e is) h = rw (h, ne_eqb e.name 0 is.named) (region_live m g e is)

-- a live partition's
pub partition_sound : (m : List ℕ) (p : Partition) (o : Option PartitionEntry) → PartitionSlot m p o → sound_generation p.name p.generation ≡ true → sound_partition m p ≡ true
unfolding sound_partition
partition_sound m p o (empty g) h = rw h
partition_sound m p o (live q e is) h = rw (h, ne_eqb p.name 0 is.named) is.sound

-- THE INVARIANT GIVES A SOUND RECORD
pub inv_sound : (m : List ℕ) (d : Manager) (t : Receipts) → Inv m d t → sound_queue m d ≡ true → sound m d ≡ true
unfolding sound
inv_sound m d t v q =
    rw (
      v.picture.words,
      at_every no_region (sound_region m) d.regions (λ i h.
          let u : i < slots = omega (arith, v.picture.region_slots) in
          let s = v.picture.region_is i u in
          region_sound m (get_or d.regions i no_region) (t.regions (region_now t i)) (region_in_lem m d t v.picture i u) (rw s.same s.sound)),
      at_every no_partition (sound_partition m) d.partitions (λ i h.
          let u : i < slots = omega (arith, v.picture.partition_slots) in
          let s = v.picture.partition_is i u in
          partition_sound m (get_or d.partitions i no_partition) (t.partitions (partition_now t i)) (partition_in m d t v.picture i u) (rw s.same s.sound)),
      names_made d v.picture.region_names v.picture.partition_names,
      v.picture.areas,
    ) q
