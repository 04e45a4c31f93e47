-- A region put into a slot, and its entry under the slot's id: where only words of its area differ, and its area meets no other object's,
-- everything else is as it was. Assumes nothing.
use Rattle.std.specs.Prelude.{Option}
use mathlib.Core.Path.{◌≡◌, sym, ap, ◌∙◌, subst}
use mathlib.Core.Bool.{Bool, true, cond}
use mathlib.Core.List.{List}
use Prim.Native.Nat.{ℕ, ◌<◌}
use native.Mathlib.Omega.{arith}
use lib.ListN.{length, get_or, set, length-set}
use Rattle.manager.specs.Record.{slots, no_region, emptied_region, id_of, region_of, partition_of, with_region}
use Rattle.manager.specs.Lists.{pairwise}
use Rattle.manager.specs.Sound.{other_name, sound_areas}
use Rattle.manager.specs.declared.Manager.{Manager}
use Rattle.manager.specs.declared.Region.{Region}
use Rattle.manager.proofs.Laws.Ids.{OfGeneration, put_there, put_empty, put_others}
use Rattle.manager.proofs.Laws.Areas.{area_for, Clear}
use Rattle.trace.specs.Receipts.{Receipts, RegionEntry, update, with_region_deletes}
use Rattle.trace.specs.Trace.{Object, region, partition}
use Rattle.trace.proofs.Invariant.{Only, RegionSlot, RegionSlotIs, Picture}
use Rattle.trace.proofs.Slots.{slots_put}
use Rattle.trace.proofs.Areas.{area_in, region_kept, partition_kept}
use Rattle.trace.proofs.Loans.Tests.{by_eqb}
use Rattle.trace.proofs.Regions.Picture.{words_same, registering}

-- in slot i, of generation g before and after, or without a name
module _ (m : List ℕ) (d : Manager) (t : Receipts) (v : Picture m d t) (id i g : ℕ) (h : i < slots) (is : id_of i g ≡ id) (r : Region) where
  abbrev putting : Manager
  putting = with_region d i r

  fits : i < length d.regions
  fits = omega (arith, v.region_slots)

  pub region_there : ¬ (r.name ≡ 0) → r.generation ≡ g → region_of (with_region d i r) id ≡ r
  region_there n e = ap (region_of putting) (sym is) ∙ put_there (λ r. r.name) (λ r. r.generation) no_region d.regions i h fits r g n e

  pub region_gone : r.name ≡ 0 → region_of (with_region d i r) id ≡ no_region
  region_gone n = ap (region_of putting) (sym is) ∙ put_empty (λ r. r.name) (λ r. r.generation) no_region d.regions i h fits r g n

  module _ (old : OfGeneration (λ r. r.name) (λ r. r.generation) g (get_or d.regions i no_region))
      (new : OfGeneration (λ r. r.name) (λ r. r.generation) g r) where
    elsewhere : (j : ℕ) → ¬ (j ≡ id) → region_of (with_region d i r) j ≡ region_of d j
    elsewhere j n = put_others (λ r. r.name) (λ r. r.generation) no_region d.regions i h fits r g old new j (λ e. n (e ∙ is))

    -- THE PICTURE, where the region is as its entry says
    module _ (m' : List ℕ) (o : Option RegionEntry) (deletes : ℕ → ℕ) (only : Only r.start r.length m m')
        (clear : (x : Object) → ¬ (x ≡ region id) → Clear (area_for r) (area_in d x)) (names : pairwise (other_name (λ r. r.name)) (set d.regions i r) ≡ true)
        (areas : sound_areas (with_region d i r) ≡ true)
        (here : RegionSlot m' (region_of (with_region d i r) id) o) (slot : RegionSlotIs r (deletes i))
        (same : (j : ℕ) → ¬ (j ≡ i) → deletes j ≡ t.region_deletes j) where
      slot_at : (j : ℕ) → RegionSlot m' (region_of putting j) (update id o t.regions j)
      slot_at j =
          by_eqb j id (λ (b : Bool). RegionSlot m' (region_of putting j) (cond b o (t.regions j)))
          (λ e. rw e here)
          (λ n. subst (λ (x : Region). RegionSlot m' x (t.regions j)) (sym (elsewhere j n))
          (region_kept m m' (area_for r) (region_of d j) (t.regions j) only
          (clear (region j) (λ (e : region j ≡ region id). n (cc))) (v.regions j)))

      pub put_region : Picture m' (with_region d i r) (with_region_deletes deletes (registering id o t))
      put_region =
          record {
            words = words_same m m' only.size v.words;
            region_slots = length-set d.regions i r ∙ v.region_slots;
            partition_slots = v.partition_slots;
            regions = slot_at;
            partitions = λ j. partition_kept m m' (area_for r) (partition_of d j) (t.partitions j) only
                (clear (partition j) (λ (e : partition j ≡ region id). let z : ◌≡◌ {A = ℕ} 0 1 = cc in omega arith)) (v.partitions j);
            region_is = slots_put (λ r. r.name) (λ r. r.generation) emptied_region no_region d.regions i fits r t.region_deletes deletes same slot v.region_is;
            partition_is = v.partition_is;
            region_names = names;
            partition_names = v.partition_names;
            areas = areas;
          }
