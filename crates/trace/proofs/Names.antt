-- The names of the live objects of a kind: an object put into a slot leaves them different where its name is new, is none, or is the one
-- that was there; and so, by the receipts, no two objects have one name. Assumes nothing.
use Rattle.std.specs.Prelude.{Option, Some}
use mathlib.Core.Path.{◌≡◌, refl, sym, ap, ◌∙◌}
use mathlib.Core.Bool.{true, false}
use mathlib.Core.List.{List}
use mathlib.Core.Logic.{⊎_elim}
use Prim.Native.Nat.{ℕ, ◌<◌}
use native.Mathlib.Omega.{arith}
use lib.ListN.{length, get_or, set}
use lib.Dec.{eqb, ltb}
use borrow.Author.Tests.{ltb-false}
use Rattle.manager.specs.Record.{slots, no_region, no_partition, slot_of, id_of}
use Rattle.manager.specs.Lists.{index_of, pairwise}
use Rattle.manager.specs.Sound.{other_name}
use Rattle.manager.specs.declared.Manager.{Manager}
use Rattle.manager.specs.declared.Region.{Region}
use Rattle.manager.specs.declared.Partition.{Partition}
use Rattle.manager.proofs.Laws.Distinct.{same_or_not}
use Rattle.manager.proofs.Laws.Names.{only_one, not_named, names_put}
use Rattle.trace.specs.Receipts.{Receipts, RegionEntry, PartitionEntry}
use Rattle.trace.proofs.Invariant.{RegionSlot, PartitionSlot, Picture, empty, live}
use Rattle.trace.proofs.Slots.{Now, now_same, region_now_lem, region_in_lem, partition_now_lem, partition_in}

-- BY THE RECEIPTS, of a kind by its entries: each is under the id that its slot has now, and has a name that no other has
pub record EachNamed {E : Type 0} (entries : ℕ → Option E) (deletes : ℕ → ℕ) (name : E → ℕ) : Type 0 where
  pub now : (id : ℕ) (e : E) → entries id ≡ Some e → Now deletes id
  pub named : (id : ℕ) (e : E) → entries id ≡ Some e → ¬ (name e ≡ 0)
  pub differ : (id k : ℕ) (e f : E) → entries id ≡ Some e → entries k ≡ Some f → name e ≡ name f → id ≡ k

module _ {A : Type 0} (name : A → ℕ) (z : A) (l : List A) (size : length l ≡ slots) (e : pairwise (other_name name) l ≡ true) where
  -- ---- an object put into a slot

  module _ (i : ℕ) (h : i < slots) (x : A) where
    within : i < length l
    within = omega arith

    -- of a name that no slot has
    pub names_new : ltb (index_of (λ y. eqb (name y) (name x)) l) slots ≡ false → pairwise (other_name name) (set l i x) ≡ true
    names_new f =
        names_put name z l i x within e
        (λ j u n g. absurd (not_named name z l (name x) (let k = ltb-false (index_of (λ y. eqb (name y) (name x)) l) slots f in omega arith) j u g))

    -- of none
    pub names_none : name x ≡ 0 → pairwise (other_name name) (set l i x) ≡ true
    names_none f = names_put name z l i x within e (λ j u n g. f)

    -- of the name that was there
    pub names_same : name x ≡ name (get_or l i z) → pairwise (other_name name) (set l i x) ≡ true
    names_same f =
        names_put name z l i x within e
        (λ j u n g.
        ⊎_elim (λ (q : name x ≡ 0). q)
        (λ (q : name x ≡ 0 → ⊥). absurd (n (only_one name z l e j i u within (g ∙ f) (λ o. q (sym g ∙ o)))))
        (same_or_not (name x) 0))

  -- by the receipts, of which each entry has the name that its slot has
  module _ {E : Type 0} (entries : ℕ → Option E) (deletes : ℕ → ℕ) (called : E → ℕ) (now : (id : ℕ) (x : E) → entries id ≡ Some x → Now deletes id)
      (at : (i : ℕ) → i < slots → (x : E) → entries (id_of i (deletes i)) ≡ Some x → (name (get_or l i z) ≡ called x) × (¬ (called x ≡ 0))) where
    here : (id : ℕ) (x : E) → entries id ≡ Some x → (name (get_or l (slot_of id) z) ≡ called x) × (¬ (called x ≡ 0))
    here id x q = let u = now id x q in at (slot_of id) u.within x (ap entries (sym u.is) ∙ q)

    entries_named : EachNamed entries deletes called
    entries_named =
        record {
          now = now;
          named = λ id x q. (here id x q).1;
          differ = λ id k x y p q c.
              let u = now id x p in
              let w = now k y q in
              let a = here id x p in
              now_same deletes id k u.is w.is
              (only_one name z l e (slot_of id) (slot_of k) (omega (arith, u.within)) (omega (arith, w.within)) (a.0 ∙ c ∙ sym (here k y q).0) (λ o. a.1 (sym a.0 ∙ o)));
        }

-- the name of a slot is its entry's
region_name : (m : List ℕ) (r : Region) (o : Option RegionEntry) (e : RegionEntry) → RegionSlot m r o → o ≡ Some e → (r.name ≡ e.name) × (¬ (e.name ≡ 0))
region_name m r o e (empty g) q = absurd (let y : ◌≡◌ {A = ℕ} 0 1 = cc in omega arith)
region_name m r o e (live g x is) q = let f : x ≡ e = cc in rw (← f) (refl, is.named)

partition_name : (m : List ℕ) (p : Partition) (o : Option PartitionEntry) (e : PartitionEntry) → PartitionSlot m p o → o ≡ Some e → (p.name ≡ e.name) × (¬ (e.name ≡ 0))
partition_name m p o e (empty g) q = absurd (let y : ◌≡◌ {A = ℕ} 0 1 = cc in omega arith)
partition_name m p o e (live x y is) q = let f : y ≡ e = cc in rw (← f) (is.name, λ z. is.named (is.name ∙ z))

-- NO TWO LIVE OBJECTS OF A KIND HAVE ONE NAME
module _ (m : List ℕ) (d : Manager) (t : Receipts) (v : Picture m d t) where
  pub regions_named : EachNamed t.regions t.region_deletes (λ e. e.name)
  regions_named =
      entries_named (λ r. r.name) no_region d.regions v.region_slots v.region_names t.regions t.region_deletes (λ e. e.name) (region_now_lem m d t v)
      (λ i h e. region_name m _ _ e (region_in_lem m d t v i h))

  pub partitions_named : EachNamed t.partitions t.partition_deletes (λ e. e.name)
  partitions_named =
      entries_named (λ p. p.name) no_partition d.partitions v.partition_slots v.partition_names t.partitions t.partition_deletes (λ e. e.name)
      (partition_now_lem m d t v) (λ i h e. partition_name m _ _ e (partition_in m d t v i h))
