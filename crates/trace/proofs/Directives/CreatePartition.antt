-- A create: the lowest empty slot that is not spent has the partition that was asked for, all its buffers chained by address, and its entry lends none.
-- Its area meets no other, so all other objects stay as they were. Assumes nothing.
use Rattle.std.specs.Prelude.{Some}
use mathlib.Core.Path.{◌≡◌, refl, ◌∙◌, sym, ap, subst}
use mathlib.Core.Bool.{true, false}
use mathlib.Core.List.{List, []}
use mathlib.Core.Logic.{inl, inr}
use Prim.Native.Nat.{ℕ, zero, suc, ◌+◌, ◌*◌, ◌/◌, ◌%◌, ◌≤◌, ◌<◌}
use native.Mathlib.Nat.{zero-mul}
use native.Mathlib.Omega.{arith}
use lib.ListN.{length, get_or}
use lib.Dec.{eqb, leb, ltb}
use borrow.Author.Tests.{eqb-true, eqb-false, ltb-false, leb-false, not-false}
use Rattle.manager.specs.Record.{slots, no_partition, emptied_partition, unspent, with_partition}
use Rattle.manager.specs.Result.{done}
use Rattle.manager.specs.Lists as lists
use Rattle.manager.specs.Region.{area_of}
use Rattle.manager.specs.Regions.{overlaps}
use Rattle.manager.specs.Partition.{buffer_at, link_all}
use Rattle.manager.proofs.Laws.Partition.Created.{addresses, all_length, all_clear, create_chain}
use Rattle.manager.proofs.Laws.Partition.Area.{create_outside}
use Rattle.manager.proofs.Laws.Partition.Live.{new_laid, new_created, live_new}
use Rattle.manager.proofs.Laws.Lists.{and_first, index_passes}
use Rattle.manager.proofs.Laws.Result.{Passed}
use Rattle.manager.specs.Partitions.{unspent_partition, partition_named, partition_generation, partition_id, new_partition, create_partition}
use Rattle.manager.specs.declared.Manager.{Manager}
use Rattle.manager.specs.declared.Partition.{Partition}
use Rattle.manager.specs.declared.Call.TheVariants.{CreatePartition}
use Rattle.manager.specs.Lists.{In, Distinct}
use Rattle.trace.specs.Receipts.{Receipts, PartitionEntry, buffers_from, reply_of}
use Rattle.trace.specs.Replies.{yes, new_partition_slot, by_receipts}
use Rattle.trace.proofs.Invariant.{Only, PartitionIs, PartitionSlot, Inv, live}
use Rattle.trace.proofs.Slots.{slot_filled}
use Rattle.trace.proofs.Areas.{overlaps_clear, areas_new_partition}
use Rattle.trace.proofs.Names.{names_new}
use Rattle.trace.proofs.Buffers.{length_buffers, numbered_buffers, buffer_within}
use Rattle.trace.proofs.Clients.{NoLink, owned_no_link}
use Rattle.trace.proofs.Regions.Picture.{update_here}
use Rattle.trace.proofs.Regions.Checks.{Kept, kept_checked, Right}
use Rattle.trace.proofs.Regions.Queue.{sound_inv}
use Rattle.trace.proofs.Partitions.Slot.{keeping, there, put_keeps, outside, kept_done}
use Rattle.trace.proofs.Replies.Checks.{same, test, acted, agree, answers}
use Rattle.trace.proofs.Replies.Ids.{new_partition_lem, partition_slot_lem, partition_id_lem, area_asked}
use Rattle.manager.specs.Sound.{Shaped}

-- the addresses of buffers, by number and one after the other
addresses_from : (n : ℕ) (p : Partition) (k a : ℕ) → buffer_at p k ≡ a → addresses n p k ≡ buffers_from n p.size a
unfolding addresses buffers_from
addresses_from zero p k a e = refl
addresses_from (suc n) p k a e = rw (e, addresses_from n p (k + 1) (a + p.size) (omega arith))

-- the entry that is asked for, and the memory with its buffers chained
abbrev asked : ℕ → ℕ → ℕ → ℕ → PartitionEntry
asked name start bytes size =
    record { name = name; start = start; bytes = bytes; size = size; lent = []; unlent = buffers_from (bytes / size) size start }

abbrev chaining : List ℕ → ℕ → ℕ → ℕ → ℕ → ℕ → List ℕ
chaining m g name start bytes size = link_all (bytes / size) m (new_partition g name start bytes size) 0

module _ (m : List ℕ) (g name start bytes size : ℕ) (named : ¬ (name ≡ 0)) (a : ¬ (start ≡ 0)) (b : start % 4 ≡ 0) (c : start + bytes ≤ 4 * length m)
    (d : size ≤ bytes) (e : size % 4 ≡ 0) (f : 8 ≤ size) where
  abbrev new : Partition
  new = new_partition g name start bytes size

  shaped : Shaped new
  shaped = (new_laid m g name start bytes size a b c d e f).shaped

  new_only : Only start bytes m (chaining m g name start bytes size)
  new_only = record { size = all_length (bytes / size) m new 0; same = λ w n. create_outside new shaped m w (outside new shaped w n) }

  -- only link words of its buffers differ
  new_words : (w : ℕ) → NoLink (buffers_from (bytes / size) size start) w → get_or (chaining m g name start bytes size) w 0 ≡ get_or m w 0
  new_words w n = all_clear (bytes / size) m new 0 w (λ j x y. n (buffer_at new j) (numbered_buffers (bytes / size) size start j (omega arith)))

  -- A LIVE PARTITION, WITH NOTHING LENT
  new_is : PartitionIs (chaining m g name start bytes size) new (asked name start bytes size)
  unfolding In Distinct
  new_is =
      record {
        named = named;
        name = refl;
        start = refl;
        bytes = refl;
        size = refl;
        sound = live_new m g name start bytes size a b c d e f;
        chained =
            create_chain m new (new_laid m g name start bytes size a b c d e f) (new_created m g name start bytes size a b c d e f)
            ∙ addresses_from (bytes / size) new 0 start (omega (arith, zero-mul size));
        once = tt;
        buffer = λ x w. absurd w;
        either = λ x y. inr (buffer_within new shaped x y);
        apart = λ x w u. w;
        counted = omega (arith, length_buffers (bytes / size) size start);
      }

module _ (m : List ℕ) (d : Manager) (t : Receipts) (v : Inv m d t) (name start bytes size : ℕ) where
  -- the slot that it takes, its generation, and the id that it has then
  abbrev slot : ℕ
  slot = unspent_partition d

  abbrev generation : ℕ
  generation = partition_generation d slot

  abbrev id : ℕ
  id = partition_id d slot

  abbrev made : Partition
  made = new_partition generation name start bytes size

  abbrev memory : List ℕ
  memory = chaining m generation name start bytes size

  module _ (within : slot < slots) (new : ltb (partition_named d name) slots ≡ false) (clear : overlaps d (area_of made) ≡ false) (only : Only start bytes m memory)
      (is : PartitionIs memory made (asked name start bytes size)) where
    free_slot : unspent (get_or d.partitions slot no_partition).name generation ≡ true
    free_slot = index_passes no_partition (λ p. unspent p.name p.generation) d.partitions (omega (arith, v.picture.partition_slots))

    after : Inv memory (with_partition d slot made) (keeping id (Some (asked name start bytes size)) t)
    after =
        let nr = v.picture.region_slots in
        let np = v.picture.partition_slots in
        let unnamed = eqb-true _ 0 (and_first (eqb (get_or d.partitions slot no_partition).name 0) _ free_slot) in
        put_keeps m d t v id slot generation within refl made (inl unnamed) (inr refl) memory (Some (asked name start bytes size)) t.partition_deletes only
        (λ x n. overlaps_clear d nr np (area_of made) clear x)
        (names_new (λ p. p.name) no_partition d.partitions np v.picture.partition_names slot within made new)
        (areas_new_partition d nr np slot within v.picture.areas made clear)
        (subst (λ (p : Partition). PartitionSlot memory p (Some (asked name start bytes size)))
        (sym (there m d t v id slot generation within refl made is.named refl)) (live made (asked name start bytes size) is))
        (slot_filled (λ p. p.name) (λ p. p.generation) emptied_partition no_partition _ _ _ (v.picture.partition_is slot within) free_slot refl is.named)
        (λ j n. refl)

    act_kept : ((w : ℕ) → NoLink (buffers_from (bytes / size) size start) w → get_or memory w 0 ≡ get_or m w 0)
        → Kept (CreatePartition name start bytes size) m t (done memory (with_partition d slot made) id)
    act_kept words =
        let e = asked name start bytes size in
        kept_done (CreatePartition name start bytes size) m t (keeping id (Some e) t) _ (with_partition d slot made) id refl after
        (λ w h h'. words w (owned_no_link _ _ (keeping id (Some e) t) after id e (update_here id (Some e) t.partitions) w h'))

  -- A CREATE KEEPS THE PICTURE
  keeps_create : Kept (CreatePartition name start bytes size) m t (create_partition m d name start bytes size)
  unfolding create_partition lists.every Passed
  keeps_create =
      kept_checked (CreatePartition name start bytes size) m d t v _ _ (sound_inv m d t v) refl
      (λ c. let named = eqb-false name 0 c.0 in
      let started = eqb-false start 0 c.1.1.0 in
      let aligned = eqb-true (start % 4) 0 (not-false (eqb (start % 4) 0) c.1.1.1.0) in
      let upto = ltb-false (4 * length m) (start + bytes) c.1.1.1.1.0 in
      let some_buffer = ltb-false bytes size c.1.1.1.1.1.1.1.0 in
      let whole = eqb-true (size % 4) 0 (not-false (eqb (size % 4) 0) c.1.1.1.1.1.1.1.1.0) in
      let big = ltb-false size 8 c.1.1.1.1.1.1.1.1.1.0 in
      act_kept (leb-false slots slot c.1.1.1.1.1.1.1.1.1.1.1.0) c.1.0 c.1.1.1.1.1.1.1.1.1.1.0
      (new_only m generation name start bytes size named started aligned upto some_buffer whole big)
      (new_is m generation name start bytes size named started aligned upto some_buffer whole big)
      (new_words m generation name start bytes size named started aligned upto some_buffer whole big))

-- IT IS ANSWERED AS THE RECEIPTS SAY
module _ (m : List ℕ) (d : Manager) (t : Receipts) (v : Inv m d t) where
  replies_create : (name start bytes size : ℕ)
      → reply_of (create_partition m d name start bytes size) ≡ by_receipts (length m) t (CreatePartition name start bytes size)
  unfolding create_partition by_receipts
  replies_create name start bytes size =
      let e = new_partition_lem m d t v.picture in
      answers m d _ _ _ (sound_inv m d t v)
      (agree (test refl (λ u.
      test (ap (λ (i : ℕ). ltb i slots) (sym (partition_slot_lem m d t v.picture name (eqb-false name 0 u)))) (λ w.
      same (same (same (same (same (same (same (same
      (test (area_asked m d t v.picture (record { start = start; length = bytes })) (λ z.
      test (ap (leb slots) (sym e)) (λ z. acted (ap yes (partition_id_lem m d t v.picture (unspent_partition d) (new_partition_slot t) e z))))))))))))))))

  pub right : (name start bytes size : ℕ) → Right (CreatePartition name start bytes size) m t (create_partition m d name start bytes size)
  right name start bytes size = record { kept = keeps_create m d t v name start bytes size; replies = replies_create name start bytes size }
