-- Slots and ids, of either kind: an entry is under the id that its slot has now, what stands in a slot is the picture of that entry, and
-- what a slot is like after another object is put into one. Assumes nothing.
use Rattle.std.specs.Prelude.{Option, None, Some}
use mathlib.Core.Path.{◌≡◌, refl, sym, ap, ◌∙◌, subst}
use mathlib.Core.Bool.{true}
use mathlib.Core.List.{List}
use mathlib.Core.Logic.{⊎_elim}
use Prim.Native.Nat.{ℕ, suc, ◌+◌, ◌<◌}
use native.Mathlib.Omega.{arith}
use lib.ListN.{length, get_or, set}
use lib.Seq.{get_or-set_same, get_or-set_other}
use lib.Dec.{eqb, ltb}
use borrow.Author.Tests.{eq-eqb, ne_eqb, le-leb, ltb-true}
use Rattle.manager.specs.Record.{slots, generations, no_region, no_partition, emptied_region, emptied_partition, slot_of, generation_of, id_of, unspent, object_of}
use Rattle.manager.specs.declared.Manager.{Manager}
use Rattle.manager.specs.declared.Region.{Region}
use Rattle.manager.specs.declared.Partition.{Partition}
use Rattle.manager.proofs.Laws.Lists.{and_second}
use Rattle.manager.proofs.Laws.Distinct.{same_or_not}
use Rattle.manager.proofs.Laws.Sound.{generation_live}
use Rattle.manager.proofs.Laws.Ids.{id_back, live_object, live_within, slot_object, slot_empty}
use Rattle.trace.specs.Receipts.{Receipts, RegionEntry, PartitionEntry, deleted}
use Rattle.trace.specs.Replies.{region_now, partition_now}
use Rattle.trace.proofs.Invariant.{RegionSlot, PartitionSlot, SlotIs, Picture, empty, live}

-- an id is the one that its slot has now, after so many deletes
pub record Now (deletes : ℕ → ℕ) (id : ℕ) : Type 0 where
  pub within : slot_of id < slots
  pub is : id ≡ id_of (slot_of id) (deletes (slot_of id))
  pub generation : generation_of id ≡ deletes (slot_of id)

-- two ids of one slot that are both the one that it has now are one id
pub now_same : (deletes : ℕ → ℕ) (id j : ℕ) → id ≡ id_of (slot_of id) (deletes (slot_of id)) → j ≡ id_of (slot_of j) (deletes (slot_of j)) → slot_of id ≡ slot_of j → id ≡ j
now_same deletes id j e f g = e ∙ ap (λ (i : ℕ). id_of i (deletes i)) g ∙ sym f

-- the deletes of a slot after one more, and of the others
pub deleted_here : (id : ℕ) (f : ℕ → ℕ) → deleted id f (slot_of id) ≡ suc (f (slot_of id))
deleted_here id f = rw (eq-eqb (slot_of id) (slot_of id) refl)

pub deleted_other : (id : ℕ) (f : ℕ → ℕ) (j : ℕ) → ¬ (j ≡ slot_of id) → deleted id f j ≡ f j
deleted_other id f j n = rw (ne_eqb j (slot_of id) n)

module _ {A : Type 0} (name generation : A → ℕ) (emptied : ℕ → A) (z : A) where
  -- AN OBJECT PUT INTO A SLOT, with deletes that are as they were for the others
  pub slots_put : (l : List A) (i : ℕ) → i < length l → (x : A) (f g : ℕ → ℕ) → ((j : ℕ) → ¬ (j ≡ i) → g j ≡ f j)
      → SlotIs name generation emptied x (g i)
      → ((j : ℕ) → j < slots → SlotIs name generation emptied (get_or l j z) (f j))
      → (j : ℕ) → j < slots → SlotIs name generation emptied (get_or (set l i x) j z) (g j)
  slots_put l i u x f g same new old j h =
      ⊎_elim
      (λ (e : j ≡ i). rw (e, get_or-set_same l i x z u) new)
      (λ (n : j ≡ i → ⊥). rw (get_or-set_other l i j x z n, same j n) (old j h))
      (same_or_not j i)

  -- A CREATE: another object of the slot's generation in an empty slot that is not spent
  pub slot_filled : (x y : A) (n : ℕ) → SlotIs name generation emptied x n → unspent (name x) (generation x) ≡ true → generation y ≡ generation x → ¬ (name y ≡ 0)
      → SlotIs name generation emptied y n
  slot_filled x y n v u e h =
      let g : generation x < generations = ltb-true (generation x) generations (and_second (eqb (name x) 0) (ltb (generation x) generations) u) in
      record {
        same = e ∙ v.same;
        sound = rw (ne_eqb (name y) 0 h) (le-leb n 65535 (omega (arith, v.same)));
        empty = λ z. absurd (h z);
      }

  -- A DELETE: the slot of an id is emptied, and its generation rises by one
  pub slot_emptied : (x : A) (id : ℕ) (f : ℕ → ℕ) → SlotIs name generation emptied x (f (slot_of id)) → ¬ (name x ≡ 0)
      → ((g : ℕ) → name (emptied g) ≡ 0) → ((g : ℕ) → generation (emptied g) ≡ g)
      → SlotIs name generation emptied (emptied (generation x + 1)) (deleted id f (slot_of id))
  slot_emptied x id f v n unnamed is =
      let g = generation_live (name x) (f (slot_of id)) v.sound n in
      let e : generation x + 1 ≡ suc (f (slot_of id)) = omega (arith, v.same) in
      rw (deleted_here id f, e)
      (record {
        same = is (suc (f (slot_of id)));
        sound = rw (eq-eqb (name (emptied (suc (f (slot_of id))))) 0 (unnamed (suc (f (slot_of id))))) (le-leb (suc (f (slot_of id))) generations (omega arith));
        empty = λ z. refl;
      })

-- ---- what the picture by ids says of slots

module _ {A E : Type 0} (name generation : A → ℕ) (emptied : ℕ → A) (z : A) (S : A → Option E → Type 0) (zero : name z ≡ 0)
    (unnamed : (x : A) (o : Option E) → S x o → name x ≡ 0 → o ≡ None) (named : (x : A) (o : Option E) (e : E) → S x o → o ≡ Some e → ¬ (name x ≡ 0))
    (nothing : (g : ℕ) → S (emptied g) None) (l : List A) (size : length l ≡ slots) (entries : ℕ → Option E) (deletes : ℕ → ℕ)
    (at : (id : ℕ) → S (object_of name generation z l id) (entries id))
    (is : (i : ℕ) → i < slots → SlotIs name generation emptied (get_or l i z) (deletes i)) where
  -- AN ENTRY IS UNDER THE ID THAT ITS SLOT HAS NOW
  entry_now : (id : ℕ) (e : E) → entries id ≡ Some e → Now deletes id
  entry_now id e q =
      let v = live_object name generation z l zero id (named _ (entries id) e (at id) q) in
      let w : slot_of id < slots = (let k = live_within name generation z l zero id v in omega arith) in
      let g : generation_of id ≡ deletes (slot_of id) = sym v.same ∙ (is (slot_of id) w).same in
      record { within = w; is = sym (id_back id w) ∙ ap (id_of (slot_of id)) g; generation = g }

  -- WHAT STANDS IN A SLOT IS THE PICTURE OF THE ENTRY UNDER THAT ID
  slot_at : (i : ℕ) → i < slots → S (get_or l i z) (entries (id_of i (deletes i)))
  slot_at i h =
      ⊎_elim
      (λ (n : name (get_or l i z) ≡ 0).
      let o = unnamed _ _ (at (id_of i (deletes i))) (ap name (slot_empty name generation z l i h n (deletes i)) ∙ zero) in
      rw (o, (is i h).empty n) (nothing (deletes i)))
      (λ (n : name (get_or l i z) ≡ 0 → ⊥).
      subst (λ (x : A). S x (entries (id_of i (deletes i))))
      (ap (λ (g : ℕ). object_of name generation z l (id_of i g)) (sym (is i h).same) ∙ slot_object name generation z l i h n) (at (id_of i (deletes i))))
      (same_or_not (name (get_or l i z)) 0)

module _ (m : List ℕ) where
  -- a slot that is empty is not in the receipts, and one that is there has a name
  pub region_unnamed : (r : Region) (o : Option RegionEntry) → RegionSlot m r o → r.name ≡ 0 → o ≡ None
  region_unnamed r o (empty g) q = refl
  region_unnamed r o (live g e is) q = absurd (is.named q)

  pub region_named_lem : (r : Region) (o : Option RegionEntry) (e : RegionEntry) → RegionSlot m r o → o ≡ Some e → ¬ (r.name ≡ 0)
  region_named_lem r o e (empty g) q = absurd (let y : ◌≡◌ {A = ℕ} 0 1 = cc in omega arith)
  region_named_lem r o e (live g e' is) q = is.named

  pub partition_unnamed : (p : Partition) (o : Option PartitionEntry) → PartitionSlot m p o → p.name ≡ 0 → o ≡ None
  partition_unnamed p o (empty g) q = refl
  partition_unnamed p o (live x e is) q = absurd (is.named q)

  pub partition_named_lem : (p : Partition) (o : Option PartitionEntry) (e : PartitionEntry) → PartitionSlot m p o → o ≡ Some e → ¬ (p.name ≡ 0)
  partition_named_lem p o e (empty g) q = absurd (let y : ◌≡◌ {A = ℕ} 0 1 = cc in omega arith)
  partition_named_lem p o e (live x e' is) q = is.named

module _ (m : List ℕ) (d : Manager) (t : Receipts) (v : Picture m d t) where
  pub region_now_lem : (id : ℕ) (e : RegionEntry) → t.regions id ≡ Some e → Now t.region_deletes id
  region_now_lem =
      entry_now (λ r. r.name) (λ r. r.generation) emptied_region no_region (RegionSlot m) refl (region_unnamed m) (region_named_lem m) empty
      d.regions v.region_slots t.regions t.region_deletes v.regions v.region_is

  pub region_in_lem : (i : ℕ) → i < slots → RegionSlot m (get_or d.regions i no_region) (t.regions (region_now t i))
  region_in_lem =
      slot_at (λ r. r.name) (λ r. r.generation) emptied_region no_region (RegionSlot m) refl (region_unnamed m) (region_named_lem m) empty
      d.regions v.region_slots t.regions t.region_deletes v.regions v.region_is

  pub partition_now_lem : (id : ℕ) (e : PartitionEntry) → t.partitions id ≡ Some e → Now t.partition_deletes id
  partition_now_lem =
      entry_now (λ p. p.name) (λ p. p.generation) emptied_partition no_partition (PartitionSlot m) refl (partition_unnamed m) (partition_named_lem m) empty
      d.partitions v.partition_slots t.partitions t.partition_deletes v.partitions v.partition_is

  pub partition_in : (i : ℕ) → i < slots → PartitionSlot m (get_or d.partitions i no_partition) (t.partitions (partition_now t i))
  partition_in =
      slot_at (λ p. p.name) (λ p. p.generation) emptied_partition no_partition (PartitionSlot m) refl (partition_unnamed m) (partition_named_lem m) empty
      d.partitions v.partition_slots t.partitions t.partition_deletes v.partitions v.partition_is
