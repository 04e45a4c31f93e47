-- The invariant holds at a fresh start, over any memory of allowed length: nothing is live and nobody waits. Assumes nothing.
use Rattle.std.specs.Prelude.{None}
use mathlib.Core.Path.{◌≡◌, refl, sym, subst}
use mathlib.Core.Bool.{true}
use mathlib.Core.List.{List}
use Prim.Native.Nat.{ℕ, zero, suc, ◌≤◌}
use lib.ListN.{length, get_or, replicate}
use borrow.Author.Tests.{eq-eqb, le-leb}
use Rattle.manager.specs.Lists.{every, pairwise, In, Distinct}
use Rattle.manager.specs.Record.{slots, most_words, emptied_region, emptied_partition, object_of, slot_of, fresh}
use Rattle.manager.proofs.Laws.Ids.{object_none}
use Rattle.manager.specs.Region.{region_areas, partition_areas}
use Rattle.manager.specs.Sound.{other_name, sound_areas}
use Rattle.manager.specs.declared.Region.{Region}
use Rattle.manager.specs.declared.Partition.{Partition}
use Rattle.trace.specs.Receipts.{blank}
use Rattle.trace.specs.Queue.{insert_all}
use Rattle.trace.specs.Claims.{waiters_of}
use Rattle.trace.proofs.Invariant.{RegionSlot, PartitionSlot, SlotIs, Inv, Waits, tasks_of, empty}

-- any place of a list of one value has it
pub get_d_same : {A : Type 0} (n i : ℕ) (z : A) → get_or (replicate n z) i z ≡ z
get_d_same zero i z = refl
get_d_same (suc n) zero z = refl
get_d_same (suc n) (suc i) z = get_d_same n i z

fresh_regions : pairwise (other_name (λ r. r.name)) fresh.regions ≡ true
unfolding pairwise every
fresh_regions = refl

fresh_partitions : pairwise (other_name (λ p. p.name)) fresh.partitions ≡ true
unfolding pairwise every
fresh_partitions = refl

fresh_areas : sound_areas fresh ≡ true
unfolding pairwise every region_areas partition_areas
fresh_areas = refl

fresh_waits : Waits fresh blank
unfolding In Distinct tasks_of insert_all waiters_of
fresh_waits = record { each = λ w m. absurd m; once = tt; queue = refl }

-- of either kind: no id names an object, and every slot is of generation 0
module _ {A : Type 0} (name generation : A → ℕ) (emptied : ℕ → A) (z : name (emptied 0) ≡ 0) (g : generation (emptied 0) ≡ 0) where
  none_there : (id : ℕ) → object_of name generation (emptied 0) (replicate slots (emptied 0)) id ≡ emptied 0
  none_there id =
      object_none name generation (emptied 0) (replicate slots (emptied 0)) id
      (rw (get_d_same slots (slot_of id) (emptied 0), eq-eqb (name (emptied 0)) 0 z))

  slot_new : (i : ℕ) → SlotIs name generation emptied (get_or (replicate slots (emptied 0)) i (emptied 0)) 0
  slot_new i = rw (get_d_same slots i (emptied 0)) (record { same = g; sound = rw (eq-eqb (name (emptied 0)) 0 z); empty = λ n. refl })

-- THE INVARIANT AT THE START
pub start_inv : (m : List ℕ) → 1 ≤ length m → length m ≤ most_words → Inv m fresh blank
start_inv m l h =
    record {
      picture = record {
        words = rw (le-leb 1 (length m) l, le-leb (length m) most_words h);
        region_slots = refl;
        partition_slots = refl;
        regions = λ id. subst (λ (r : Region). RegionSlot m r None) (sym (none_there (λ r. r.name) (λ r. r.generation) emptied_region refl refl id)) (empty 0);
        partitions = λ id. subst (λ (p : Partition). PartitionSlot m p None) (sym (none_there (λ p. p.name) (λ p. p.generation) emptied_partition refl refl id)) (empty 0);
        region_is = λ i h. slot_new (λ r. r.name) (λ r. r.generation) emptied_region refl refl i;
        partition_is = λ i h. slot_new (λ p. p.name) (λ p. p.generation) emptied_partition refl refl i;
        region_names = fresh_regions;
        partition_names = fresh_partitions;
        areas = fresh_areas;
      };
      waits = fresh_waits;
    }
