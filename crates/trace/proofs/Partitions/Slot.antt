-- A partition put into a slot, and its entry under the slot's id: where only words of its area differ, and its area meets no other
-- object's, everything else is as it was. The waits rest on regions alone. Assumes nothing.
use Rattle.std.specs.Prelude.{Option, Some}
use mathlib.Core.Path.{◌≡◌, refl, sym, ap, ◌∙◌, subst}
use mathlib.Core.Bool.{Bool, true, false, cond}
use mathlib.Core.List.{List}
use mathlib.Core.Logic.{inl, inr}
use Prim.Native.Nat.{ℕ, ◌+◌, ◌*◌, ◌<◌}
use native.Mathlib.Omega.{arith}
use lib.ListN.{length, get_or, set, length-set}
use lib.Dec.{leb}
use borrow.Author.Tests.{leb-true, leb-false}
use Rattle.manager.specs.Record.{slots, no_partition, emptied_partition, slot_of, generation_of, id_of, region_of, partition_of, with_partition}
use Rattle.manager.specs.Result.{done}
use Rattle.manager.specs.Region.{area_of}
use Rattle.manager.specs.Partition.{dead_partition, buffers}
use Rattle.manager.proofs.Laws.Ids.{id_back, Live, live_object, live_within, OfGeneration, put_there, put_empty, put_others}
use Rattle.manager.proofs.Laws.Partition.Area.{Outside}
use Rattle.manager.proofs.Laws.Partition.Repeats.{chain_length}
use Rattle.manager.proofs.Laws.Partition.Live.{live_chain}
use Rattle.manager.specs.declared.Area.{Area}
use Rattle.manager.specs.declared.Manager.{Manager}
use Rattle.manager.specs.declared.Partition.{Partition}
use Rattle.manager.specs.declared.Call.{Call}
use Rattle.manager.specs.declared.Status.TheVariants.{Successful}
use Rattle.manager.specs.Lists.{pairwise, Distinct}
use Rattle.manager.proofs.Laws.Areas.{Clear}
use Rattle.trace.specs.Receipts.{Receipts, PartitionEntry, buffers_in, update, map_option, with_partitions, on_partition, with_partition_deletes}
use Rattle.trace.specs.Replies.{entered}
use Rattle.trace.specs.Trace.{Object, region, partition}
use Rattle.trace.proofs.Invariant.{Inside, Only, PartitionIs, PartitionSlot, PartitionSlotIs, Waits, Inv, empty, live}
use Rattle.trace.proofs.Frame.{partition_shaped}
use Rattle.trace.proofs.Buffers.{chain_once}
use Rattle.trace.proofs.Areas.{area_in, sound_clear, areas_same_partition, region_kept, partition_kept}
use Rattle.trace.proofs.Slots.{slots_put}
use Rattle.trace.proofs.Names.{names_same}
use Rattle.trace.proofs.Loans.Tests.{by_eqb}
use Rattle.trace.proofs.Queue.Tasks.{wait_same}
use Rattle.trace.proofs.Clients.{Stays}
use Rattle.trace.proofs.Regions.Checks.{Kept, note_done}
use Rattle.trace.proofs.Regions.Picture.{words_same}
use Rattle.manager.specs.Sound.{other_name, sound_areas, Shaped}

-- ---- what stands in a slot

-- a slot that is not empty is in the receipts
pub partition_entry_lem : (m : List ℕ) (p : Partition) (o : Option PartitionEntry) → PartitionSlot m p o → dead_partition p ≡ false
    → (e : PartitionEntry) × (o ≡ Some e) × PartitionIs m p e
partition_entry_lem m p o (empty g) q = let z : ◌≡◌ {A = ℕ} 0 1 = cc in absurd (omega arith)
partition_entry_lem m p o (live x e is) q = (e, refl, is)

-- what a live partition's entry says of its numbers
module _ (m : List ℕ) (p : Partition) (e : PartitionEntry) (is : PartitionIs m p e) where
  -- as many buffers are free as are not lent
  pub free_unlent : p.free ≡ length e.unlent
  free_unlent = sym (chain_length m p (partition_shaped m p e is) (live_chain m p is.sound)) ∙ ap length is.chained

  -- there are as many buffers as its entry asks for
  pub buffers_in_lem : buffers p ≡ buffers_in e
  buffers_in_lem = rw (is.bytes, is.size)

  pub unlent_once : Distinct e.unlent
  unlent_once = subst (λ (l : List ℕ). Distinct l) is.chained (chain_once m p is.sound)

-- ---- another entry for a partition

abbrev pub keeping : ℕ → Option PartitionEntry → Receipts → Receipts
keeping id o t = with_partitions (update id o t.partitions) t

pub on_partition_lem : (id : ℕ) (e : PartitionEntry) (t : Receipts) (g : PartitionEntry → PartitionEntry) → t.partitions id ≡ Some e
    → on_partition id g t ≡ keeping id (Some (g e)) t
on_partition_lem id e t g q = ap (λ (o : Option PartitionEntry). keeping id (map_option g o) t) q

-- the waits rest on regions alone
pub waits_kept : (id : ℕ) (o : Option PartitionEntry) (f : ℕ → ℕ) (t : Receipts) (d d' : Manager) → d'.waiters ≡ d.waiters → Waits d t → Waits d' (with_partition_deletes f (keeping id o t))
waits_kept id o f t d d' e v =
    record { each = λ w m. wait_same t (with_partition_deletes f (keeping id o t)) w (v.each w m) refl refl; once = v.once; queue = e ∙ v.queue }

-- ---- a partition put into slot i, of generation g before and after, or without a name

module _ (m : List ℕ) (d : Manager) (t : Receipts) (v : Inv m d t) (id i g : ℕ) (h : i < slots) (is : id_of i g ≡ id) (p : Partition) where
  abbrev putting : Manager
  putting = with_partition d i p

  fits : i < length d.partitions
  fits = omega (arith, v.picture.partition_slots)

  pub there : ¬ (p.name ≡ 0) → p.generation ≡ g → partition_of (with_partition d i p) id ≡ p
  there n e = ap (partition_of putting) (sym is) ∙ put_there (λ p. p.name) (λ p. p.generation) no_partition d.partitions i h fits p g n e

  pub gone : p.name ≡ 0 → partition_of (with_partition d i p) id ≡ no_partition
  gone n = ap (partition_of putting) (sym is) ∙ put_empty (λ p. p.name) (λ p. p.generation) no_partition d.partitions i h fits p g n

  module _ (old : OfGeneration (λ p. p.name) (λ p. p.generation) g (get_or d.partitions i no_partition))
      (new : OfGeneration (λ p. p.name) (λ p. p.generation) g p) where
    elsewhere : (j : ℕ) → ¬ (j ≡ id) → partition_of (with_partition d i p) j ≡ partition_of d j
    elsewhere j n = put_others (λ p. p.name) (λ p. p.generation) no_partition d.partitions i h fits p g old new j (λ e. n (e ∙ is))

    -- THE INVARIANT, where the partition is as its entry says
    module _ (m' : List ℕ) (o : Option PartitionEntry) (deletes : ℕ → ℕ) (only : Only p.start p.length m m')
        (clear : (x : Object) → ¬ (x ≡ partition id) → Clear (area_of p) (area_in d x)) (names : pairwise (other_name (λ p. p.name)) (set d.partitions i p) ≡ true)
        (areas : sound_areas (with_partition d i p) ≡ true)
        (here : PartitionSlot m' (partition_of (with_partition d i p) id) o) (slot : PartitionSlotIs p (deletes i))
        (same : (j : ℕ) → ¬ (j ≡ i) → deletes j ≡ t.partition_deletes j) where
      slot_at : (j : ℕ) → PartitionSlot m' (partition_of putting j) (update id o t.partitions j)
      slot_at j =
          by_eqb j id (λ (b : Bool). PartitionSlot m' (partition_of putting j) (cond b o (t.partitions j)))
          (λ e. rw e here)
          (λ n. subst (λ (x : Partition). PartitionSlot m' x (t.partitions j)) (sym (elsewhere j n))
          (partition_kept m m' (area_of p) (partition_of d j) (t.partitions j) only
          (clear (partition j) (λ (e : partition j ≡ partition id). n (cc))) (v.picture.partitions j)))

      pub put_keeps : Inv m' (with_partition d i p) (with_partition_deletes deletes (keeping id o t))
      put_keeps =
          record {
            picture = record {
              words = words_same m m' only.size v.picture.words;
              region_slots = v.picture.region_slots;
              partition_slots = length-set d.partitions i p ∙ v.picture.partition_slots;
              regions = λ j. region_kept m m' (area_of p) (region_of d j) (t.regions j) only
                  (clear (region j) (λ (e : region j ≡ partition id). let z : ◌≡◌ {A = ℕ} 0 1 = cc in omega arith)) (v.picture.regions j);
              partitions = slot_at;
              region_is = v.picture.region_is;
              partition_is = slots_put (λ p. p.name) (λ p. p.generation) emptied_partition no_partition d.partitions i fits p t.partition_deletes deletes same slot v.picture.partition_is;
              region_names = v.picture.region_names;
              partition_names = names;
              areas = areas;
            };
            waits = waits_kept id o deletes t d putting refl v.waits;
          }

-- what is live has a slot, and an area that meets no other object's
module _ (m : List ℕ) (d : Manager) (t : Receipts) (v : Inv m d t) (id : ℕ) (e : PartitionEntry) (is : PartitionIs m (partition_of d id) e) where
  pub live_slot : Live (λ (p : Partition). p.name) (λ p. p.generation) no_partition d.partitions id
  live_slot = live_object (λ p. p.name) (λ p. p.generation) no_partition d.partitions refl id is.named

  pub live_in : slot_of id < slots
  live_in = let k = live_within (λ p. p.name) (λ p. p.generation) no_partition d.partitions refl id live_slot in omega (arith, v.picture.partition_slots)

  pub live_clear : (x : Object) → ¬ (x ≡ partition id) → Clear (area_of (partition_of d id)) (area_in d x)
  live_clear x n = sound_clear d v.picture.region_slots v.picture.partition_slots v.picture.areas (partition id) x (λ (f : partition id ≡ x). n (sym f))

  -- ANOTHER STATE OF IT IN ITS PLACE, with the same name, generation and area
  module _ (p : Partition) (name : p.name ≡ (partition_of d id).name) (generation : p.generation ≡ (partition_of d id).generation)
      (area : area_of p ≡ area_of (partition_of d id)) (m' : List ℕ) (e' : PartitionEntry) (only : Only p.start p.length m m')
      (is' : PartitionIs m' p e') where
    pub put_live : Inv m' (with_partition d (slot_of id) p) (keeping id (Some e') t)
    put_live =
        let slot = live_slot.is in
        let g : p.generation ≡ generation_of id = generation ∙ ap (λ (q : Partition). q.generation) slot ∙ live_slot.same in
        let before = v.picture.partition_is (slot_of id) live_in in
        put_keeps m d t v id (slot_of id) (generation_of id) live_in (id_back id live_in) p (inr live_slot.same) (inr g) m' (Some e') t.partition_deletes only
        (subst (λ (a : Area). (x : Object) → ¬ (x ≡ partition id) → Clear a (area_in d x)) (sym area) live_clear)
        (names_same (λ p. p.name) no_partition d.partitions v.picture.partition_slots v.picture.partition_names (slot_of id) live_in p
        (name ∙ ap (λ (q : Partition). q.name) slot))
        (areas_same_partition d v.picture.region_slots v.picture.partition_slots (slot_of id) live_in v.picture.areas p (area ∙ ap area_of slot))
        (subst (λ (q : Partition). PartitionSlot m' q (Some e')) (sym (there m d t v id (slot_of id) (generation_of id) live_in (id_back id live_in) p is'.named g)) (live p e' is'))
        (record {
          same = generation ∙ ap (λ (q : Partition). q.generation) slot ∙ before.same;
          sound = rw (name, ap (λ (q : Partition). q.name) slot) before.sound;
          empty = λ n. absurd (is'.named n);
        })
        (λ j n. refl)

-- ---- words outside the area

pub outside : (p : Partition) → Shaped p → (w : ℕ) → ¬ Inside p.start p.length w → Outside p w
outside p s w n = go (leb p.start (4 * w)) refl
  where
    go : (b : Bool) → leb p.start (4 * w) ≡ b → Outside p w
    go false f = inl (omega (arith, s.aligned, leb-false p.start (4 * w) f))
    go true f = upto (leb (4 * w + 4) (p.start + p.length)) refl
      where
        upto : (c : Bool) → leb (4 * w + 4) (p.start + p.length) ≡ c → Outside p w
        upto true g = absurd (n (record { low = leb-true p.start (4 * w) f; high = leb-true (4 * w + 4) (p.start + p.length) g }))
        upto false g = inr (omega (arith, leb-false (4 * w + 4) (p.start + p.length) g))

-- ---- what a directive that acts keeps

pub kept_done : (c : Call) (m : List ℕ) (t u : Receipts) (m' : List ℕ) (d : Manager) (n : ℕ) → entered c n t ≡ u → Inv m' d u → Stays t u m m'
    → Kept c m t (done m' d n)
kept_done c m t u m' d n e v s =
    let f = note_done c m' d t n Successful refl ∙ e in
    record {
      inv = subst (λ (r : Receipts). Inv m' d r) (sym f) v;
      stays = subst (λ (r : Receipts). Stays t r m m') (sym f) s;
      undamaged = refl;
    }
