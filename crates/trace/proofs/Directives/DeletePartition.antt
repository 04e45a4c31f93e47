-- A delete of a partition with nothing lent: its slot is emptied, with the next generation, and no word changes. Assumes nothing.
use Rattle.std.specs.Prelude.{None}
use mathlib.Core.Path.{◌≡◌, refl, sym, subst}
use mathlib.Core.List.{List, [], ◌∷◌}
use mathlib.Core.Bool.{not}
use mathlib.Core.Logic.{inl, inr}
use Prim.Native.Nat.{ℕ, ◌+◌}
use native.Mathlib.Omega.{arith}
use lib.ListN.{length}
use lib.Dec.{eqb}
use borrow.Author.Tests.{eq-eqb, ne_eqb}
use Rattle.manager.specs.Record.{no_partition, emptied_partition, partition_of, slot_of, generation_of, with_partition}
use Rattle.manager.specs.Lists as lists
use Rattle.manager.specs.Partitions.{delete_partition}
use Rattle.manager.specs.declared.Manager.{Manager}
use Rattle.manager.specs.declared.Call.TheVariants.{DeletePartition}
use Rattle.manager.proofs.Laws.Ids.{id_back}
use Rattle.manager.proofs.Laws.Result.{Passed}
use Rattle.manager.specs.Result.{check, done}
use Rattle.manager.specs.Partition.{buffers}
use Rattle.manager.specs.declared.Partition.{Partition}
use Rattle.manager.specs.declared.Status.TheVariants.{ResourceInUse}
use Rattle.manager.proofs.Laws.Areas.{no_area_lem}
use Rattle.trace.specs.Receipts.{Receipts, PartitionEntry, deleted, reply_of, with_partition_deletes}
use Rattle.trace.specs.Replies.{lent_any, by_receipts}
use Rattle.trace.proofs.Invariant.{Inv, empty, PartitionIs, PartitionSlot, PartitionSlotIs}
use Rattle.trace.proofs.Frame.{only_refl}
use Rattle.trace.proofs.Slots.{slot_emptied, deleted_other}
use Rattle.trace.proofs.Areas.{area_in, areas_no_partition}
use Rattle.trace.proofs.Names.{names_none}
use Rattle.trace.proofs.Regions.Checks.{Kept, kept_checked, Right}
use Rattle.trace.proofs.Regions.Queue.{sound_inv}
use Rattle.trace.proofs.Partitions.Slot.{partition_entry_lem, keeping, gone, put_keeps, live_slot, live_in, kept_done, free_unlent}
use Rattle.trace.proofs.Replies.Checks.{test, acted, agree, answers, at_partition}

module _ (m : List ℕ) (p : Partition) (e : PartitionEntry) (is : PartitionIs m p e) where
  -- something is lent where not every buffer is free
  any_lent : not (eqb p.free (buffers p)) ≡ lent_any e.lent
  any_lent = go e.lent is.counted
    where
      go : (l : List ℕ) → length l + length e.unlent ≡ buffers p → not (eqb p.free (buffers p)) ≡ lent_any l
      go [] c = rw (eq-eqb p.free (buffers p) (omega (arith, free_unlent m p e is)))
      go (x ∷ l) c = rw (ne_eqb p.free (buffers p) (λ f. omega (arith, free_unlent m p e is)))

module _ (m : List ℕ) (d : Manager) (t : Receipts) (v : Inv m d t) where
  -- what its slot has then
  abbrev emptied : ℕ → Partition
  emptied id = emptied_partition ((partition_of d id).generation + 1)

  emptied_keeps : (id : ℕ) (e : PartitionEntry) → PartitionIs m (partition_of d id) e
      → Inv m (with_partition d (slot_of id) (emptied id)) (with_partition_deletes (deleted id t.partition_deletes) (keeping id None t))
  emptied_keeps id e is =
      let slot = live_slot m d t v id e is in
      let h = live_in m d t v id e is in
      put_keeps m d t v id (slot_of id) (generation_of id) h (id_back id h) (emptied id) (inr slot.same) (inl refl) m None
      (deleted id t.partition_deletes) (only_refl 0 0 m) (λ x n. no_area_lem (area_in d x))
      (names_none (λ p. p.name) no_partition d.partitions v.picture.partition_slots v.picture.partition_names (slot_of id) h (emptied id) refl)
      (areas_no_partition d v.picture.region_slots v.picture.partition_slots (slot_of id) h v.picture.areas ((partition_of d id).generation + 1))
      (subst (λ (p : Partition). PartitionSlot m p None)
      (sym (gone m d t v id (slot_of id) (generation_of id) h (id_back id h) (emptied id) refl)) (empty 0))
      (slot_emptied (λ p. p.name) (λ p. p.generation) emptied_partition no_partition (partition_of d id) id t.partition_deletes
      (subst (λ (p : Partition). PartitionSlotIs p (t.partition_deletes (slot_of id))) (sym slot.is) (v.picture.partition_is (slot_of id) h))
      is.named (λ g. refl) (λ g. refl))
      (deleted_other id t.partition_deletes)

  -- it empties the slot and changes no word
  keeps_delete : (id : ℕ) → Kept (DeletePartition id) m t (delete_partition m d id)
  unfolding delete_partition lists.every Passed
  keeps_delete id =
      kept_checked (DeletePartition id) m d t v _ _ (sound_inv m d t v) refl
      (λ c. let s = partition_entry_lem m (partition_of d id) (t.partitions id) (v.picture.partitions id) c.0 in
      kept_done (DeletePartition id) m t (with_partition_deletes (deleted id t.partition_deletes) (keeping id None t)) m (with_partition d (slot_of id) (emptied id)) 0 refl
      (emptied_keeps id s.0 s.2)
      (λ w h h'. refl))

  replies_delete : (id : ℕ) → reply_of (delete_partition m d id) ≡ by_receipts (length m) t (DeletePartition id)
  unfolding delete_partition by_receipts
  replies_delete id =
      answers m d _ _ _ (sound_inv m d t v)
      (at_partition m d (partition_of d id) (t.partitions id) (v.picture.partitions id)
      (λ p. check (not (eqb p.free (buffers p))) ResourceInUse ∷ []) (λ p. done m (with_partition d (slot_of id) (emptied_partition (p.generation + 1))) 0) _
      (λ e is q. agree (test (any_lent m (partition_of d id) e is) (λ z. acted refl))))

  pub right : (id : ℕ) → Right (DeletePartition id) m t (delete_partition m d id)
  right id = record { kept = keeps_delete id; replies = replies_delete id }
