-- The areas of a sound record share no byte, so that a change inside one object's area leaves every other object's picture as it was: two
-- different objects have areas that share no byte, where an id that names none has no byte at all. And putting an object into a slot
-- keeps the areas sound where its area meets those in no other place. Assumes nothing.
use Rattle.std.specs.Prelude.{Option}
use mathlib.Core.Path.{◌≡◌, refl, sym, ap, ◌∙◌, subst}
use mathlib.Core.Bool.{true, false, cond, not}
use mathlib.Core.List.{List, [], ◌∷◌, ◌++◌}
use mathlib.Core.Logic.{◌⊎◌, inl, inr, ⊎_elim}
use Prim.Native.Nat.{ℕ, zero, suc, ◌+◌, ◌-◌, ◌/◌, ◌<◌}
use native.Mathlib.Omega.{arith}
use lib.ListN.{length, get_or, set, length-append, length-set}
use lib.Seq.{get_or-append-add, get_or-set_same, get_or-set_other, set-append_left}
use lib.Dec.{ltb}
use borrow.Author.Tests.{le-ltb, lt-ltb, not-true}
use Rattle.manager.specs.Record.{slots, no_region, no_partition, emptied_region, emptied_partition, slot_of, id_of, region_of, partition_of, with_region, with_partition}
use Rattle.manager.specs.Lists.{pairwise}
use Rattle.manager.specs.Region.{area_of, region_areas, partition_areas, areas, overlap}
use Rattle.manager.specs.Regions.{overlaps, region_id}
use Rattle.manager.specs.Partitions.{partition_id}
use Rattle.manager.specs.Sound.{sound_areas}
use Rattle.manager.specs.declared.Area.{Area}
use Rattle.manager.specs.declared.Manager.{Manager}
use Rattle.manager.specs.declared.Region.{Region}
use Rattle.manager.specs.declared.Partition.{Partition}
use Rattle.manager.proofs.Laws.Distinct.{same_or_not}
use Rattle.manager.proofs.Laws.Ids.{id_back, Live, live_within, object_cases}
use Rattle.trace.specs.Receipts.{RegionEntry, PartitionEntry}
use Rattle.trace.specs.Trace.{Object, region, partition}
use Rattle.trace.proofs.Invariant.{Inside, Only, region_for, RegionSlot, PartitionSlot, empty, live}
use Rattle.trace.proofs.Frame.{region_inside, region_same, chained_buffer, buffer_inside, link_next, link_before, partition_same}
use Rattle.manager.proofs.Laws.Areas.{same_or_apart, pairwise_at, at_pairwise, none_at, Clear, clear_flip, clear_of, overlap_of, area_for, no_area, no_area_lem, length_regions, length_partitions, partition_area, region_place, places_clear}
use Rattle.trace.proofs.Disjoint.{clear_words}

-- ---- the areas of objects

-- the area of an object of the record; that of an empty slot has no byte
abbrev pub area_in : Manager → Object → Area
area_in d (region id) = area_for (region_of d id)
area_in d (partition id) = area_of (partition_of d id)

-- the place of an object's area in the list of all
abbrev place_of : Object → ℕ
place_of (region id) = slot_of id
place_of (partition id) = slots + slot_of id

-- and the object of a place, by the generation of its slot
unfoldable object_at : Manager → ℕ → Object
object_at d i = cond (ltb i slots) (region (region_id d i)) (partition (partition_id d (i - slots)))

object_region : (d : Manager) (i : ℕ) → i < slots → object_at d i ≡ region (region_id d i)
unfolding object_at
object_region d i h = rw (lt-ltb i slots h)

object_partition : (d : Manager) (i : ℕ) → object_at d (slots + i) ≡ partition (partition_id d i)
unfolding object_at
object_partition d i =
    let e : slots + i - slots ≡ i = omega arith in
    rw (le-ltb (slots + i) slots (omega arith), e)

module _ (d : Manager) (nr : length d.regions ≡ slots) (np : length d.partitions ≡ slots) where
  length_all : length (areas d) ≡ slots + slots
  length_all = length-append (region_areas d.regions) (partition_areas d.partitions) ∙ omega (arith, length_regions d.regions, length_partitions d.partitions)

  partition_place : (i : ℕ) → get_or (areas d) (slots + i) no_area ≡ area_of (get_or d.partitions i no_partition)
  partition_place i =
      let e : slots + i ≡ length (region_areas d.regions) + i = omega (arith, length_regions d.regions) in
      ap (λ (k : ℕ). get_or (areas d) k no_area) e
      ∙ get_or-append-add (region_areas d.regions) (partition_areas d.partitions) i no_area
      ∙ partition_area d.partitions i

  -- an object has an area at its place, or one without a byte
  record Listed (o : Object) : Type 0 where
    within : place_of o < slots + slots
    is : get_or (areas d) (place_of o) no_area ≡ area_in d o
    object : object_at d (place_of o) ≡ o

  listed : (o : Object) → Listed o ⊎ (area_in d o ≡ no_area)
  listed (region id) =
      ⊎_elim
      (λ (v : Live (λ (r : Region). r.name) (λ r. r.generation) no_region d.regions id).
      let w : slot_of id < slots = (let k = live_within (λ (r : Region). r.name) (λ r. r.generation) no_region d.regions refl id v in omega arith) in
      inl (record {
        within = omega arith;
        is = region_place d (slot_of id) (omega arith) ∙ ap area_for (sym v.is);
        object = object_region d (slot_of id) w ∙ ap region (ap (id_of (slot_of id)) v.same ∙ id_back id w);
      }))
      (λ (e : region_of d id ≡ no_region). inr (ap area_for e))
      (object_cases (λ r. r.name) (λ r. r.generation) no_region d.regions id)
  listed (partition id) =
      ⊎_elim
      (λ (v : Live (λ (p : Partition). p.name) (λ p. p.generation) no_partition d.partitions id).
      let w : slot_of id < slots = (let k = live_within (λ (p : Partition). p.name) (λ p. p.generation) no_partition d.partitions refl id v in omega arith) in
      inl (record {
        within = omega arith;
        is = partition_place (slot_of id) ∙ ap area_of (sym v.is);
        object = object_partition d (slot_of id) ∙ ap partition (ap (id_of (slot_of id)) v.same ∙ id_back id w);
      }))
      (λ (e : partition_of d id ≡ no_partition). inr (ap area_of e))
      (object_cases (λ p. p.name) (λ p. p.generation) no_partition d.partitions id)

  -- EVERY TWO OBJECTS HAVE AREAS THAT SHARE NO BYTE
  pub sound_clear : sound_areas d ≡ true → (o q : Object) → ¬ (o ≡ q) → Clear (area_in d o) (area_in d q)
  sound_clear e o q n = go (listed o) (listed q)
    where
      go : Listed o ⊎ (area_in d o ≡ no_area) → Listed q ⊎ (area_in d q ≡ no_area) → Clear (area_in d o) (area_in d q)
      go (inr f) y = subst (λ (a : Area). Clear a (area_in d q)) (sym f) (no_area_lem (area_in d q))
      go (inl x) (inr f) = subst (λ (a : Area). Clear (area_in d o) a) (sym f) (clear_flip no_area (area_in d o) (no_area_lem (area_in d o)))
      go (inl x) (inl y) =
          let c = places_clear d e (place_of o) (place_of q) (omega (arith, length_all, x.within)) (omega (arith, length_all, y.within)) (λ (f : place_of o ≡ place_of q). n (sym x.object ∙ ap (object_at d) f ∙ y.object)) in
          rw (x.is, y.is) at c

  -- an area that meets none
  pub overlaps_clear : (a : Area) → overlaps d a ≡ false → (o : Object) → Clear a (area_in d o)
  overlaps_clear a e o = go (listed o)
    where
      go : Listed o ⊎ (area_in d o ≡ no_area) → Clear a (area_in d o)
      go (inr f) = subst (λ (b : Area). Clear a b) (sym f) (clear_flip no_area a (no_area_lem a))
      go (inl x) =
          rw x.is at (clear_of a (get_or (areas d) (place_of o) no_area)
          (none_at no_area (overlap a) (areas d) (place_of o) e (omega (arith, length_all, x.within))))

-- ---- an object put into a slot

pub same_object : (o q : Object) → (o ≡ q) ⊎ (¬ (o ≡ q))
same_object (region i) (region j) =
    ⊎_elim (λ (e : i ≡ j). inl (ap region e))
    (λ (u : (i < j) ⊎ (j < i)). inr (λ (e : region i ≡ region j). let f : i ≡ j = cc in ⊎_elim (λ (l : i < j). omega arith) (λ (l : j < i). omega arith) u))
    (same_or_apart i j)
same_object (partition i) (partition j) =
    ⊎_elim (λ (e : i ≡ j). inl (ap partition e))
    (λ (u : (i < j) ⊎ (j < i)). inr (λ (e : partition i ≡ partition j). let f : i ≡ j = cc in ⊎_elim (λ (l : i < j). omega arith) (λ (l : j < i). omega arith) u))
    (same_or_apart i j)
same_object (region i) (partition j) = inr (λ (e : region i ≡ partition j). let z : ◌≡◌ {A = ℕ} 0 1 = cc in omega arith)
same_object (partition i) (region j) = inr (λ (e : partition i ≡ region j). let z : ◌≡◌ {A = ℕ} 0 1 = cc in omega arith)

-- another area in one place, which meets those in no other, leaves a sound list sound
put_sound : (l : List Area) (i : ℕ) (a : Area) → pairwise (λ a b. not (overlap a b)) l ≡ true → i < length l
    → ((j : ℕ) → j < length l → ¬ (j ≡ i) → Clear a (get_or l j no_area)) → pairwise (λ a b. not (overlap a b)) (set l i a) ≡ true
put_sound l i a e h c = at_pairwise no_area (λ a b. not (overlap a b)) (set l i a) (λ j k u w. rw (overlap_of _ _ (two j k u (omega (arith, length-set l i a)))))
  where
    old : (j k : ℕ) → j < k → k < length l → Clear (get_or l j no_area) (get_or l k no_area)
    old j k u w = clear_of _ _ (not-true _ (pairwise_at no_area (λ a b. not (overlap a b)) l j k e u w))

    two : (j k : ℕ) → j < k → k < length l → Clear (get_or (set l i a) j no_area) (get_or (set l i a) k no_area)
    two j k u w =
        ⊎_elim
        (λ (p : j ≡ i). rw (p, get_or-set_same l i a no_area h, get_or-set_other l i k a no_area (λ q. omega arith)) (c k w (λ q. omega arith)))
        (λ (p : j ≡ i → ⊥).
        rw (get_or-set_other l i j a no_area p)
        (⊎_elim
        (λ (q : k ≡ i). rw (q, get_or-set_same l i a no_area h) (clear_flip a (get_or l j no_area) (c j (omega arith) p)))
        (λ (q : k ≡ i → ⊥). rw (get_or-set_other l i k a no_area q) (old j k u w))
        (same_or_not k i)))
        (same_or_not j i)

-- the areas with another object in a slot
areas_set : (rs : List Region) (i : ℕ) (r : Region) → region_areas (set rs i r) ≡ set (region_areas rs) i (area_for r)
unfolding region_areas
areas_set [] i r = refl
areas_set (x ∷ rs) zero r = refl
areas_set (x ∷ rs) (suc i) r = ap (λ (l : List Area). area_for x ∷ l) (areas_set rs i r)

partition_areas_set : (ps : List Partition) (i : ℕ) (p : Partition) → partition_areas (set ps i p) ≡ set (partition_areas ps) i (area_of p)
unfolding partition_areas
partition_areas_set [] i p = refl
partition_areas_set (x ∷ ps) zero p = refl
partition_areas_set (x ∷ ps) (suc i) p = ap (λ (l : List Area). area_of x ∷ l) (partition_areas_set ps i p)

set_append_right : {A : Type 0} (xs ys : List A) (i : ℕ) (a : A) → xs ++ set ys i a ≡ set (xs ++ ys) (length xs + i) a
set_append_right [] ys i a = let e : 0 + i ≡ i = omega arith in rw e
set_append_right (x ∷ xs) ys i a = let e : suc (length xs) + i ≡ suc (length xs + i) = omega arith in rw e (ap (◌∷◌ x) (set_append_right xs ys i a))

-- AN OBJECT PUT INTO A SLOT KEEPS THE AREAS SOUND: a new one whose area meets no other, one without an area, one with the area that was there
module _ (d : Manager) (nr : length d.regions ≡ slots) (np : length d.partitions ≡ slots) (i : ℕ) (h : i < slots) (e : sound_areas d ≡ true) where
  region_put : (r : Region) → ((j : ℕ) → j < length (areas d) → ¬ (j ≡ i) → Clear (area_for r) (get_or (areas d) j no_area)) → sound_areas (with_region d i r) ≡ true
  region_put r c =
      let rs = region_areas d.regions in
      let ps = partition_areas d.partitions in
      let f : set rs i (area_for r) ++ ps ≡ set (rs ++ ps) i (area_for r) = sym (set-append_left rs ps i (area_for r) (omega (arith, length_regions d.regions))) in
      rw (areas_set d.regions i r, f) (put_sound (areas d) i (area_for r) e (omega (arith, length_all d nr np)) c)

  partition_put : (p : Partition) → ((j : ℕ) → j < length (areas d) → ¬ (j ≡ slots + i) → Clear (area_of p) (get_or (areas d) j no_area)) → sound_areas (with_partition d i p) ≡ true
  partition_put p c =
      let rs = region_areas d.regions in
      let ps = partition_areas d.partitions in
      let k : length rs + i ≡ slots + i = omega (arith, length_regions d.regions) in
      rw (partition_areas_set d.partitions i p, set_append_right rs ps i (area_of p), k)
      (put_sound (areas d) (slots + i) (area_of p) e (omega (arith, length_all d nr np)) c)

  meets_none : (a : Area) → overlaps d a ≡ false → (k j : ℕ) → j < length (areas d) → ¬ (j ≡ k) → Clear a (get_or (areas d) j no_area)
  meets_none a f k j u n = clear_of a (get_or (areas d) j no_area) (none_at no_area (overlap a) (areas d) j f u)

  pub areas_new_region : (r : Region) → overlaps d (area_for r) ≡ false → sound_areas (with_region d i r) ≡ true
  areas_new_region r f = region_put r (meets_none (area_for r) f i)

  pub areas_no_region : (g : ℕ) → sound_areas (with_region d i (emptied_region g)) ≡ true
  areas_no_region g = region_put (emptied_region g) (λ j u n. no_area_lem (get_or (areas d) j no_area))

  pub areas_new_partition : (p : Partition) → overlaps d (area_of p) ≡ false → sound_areas (with_partition d i p) ≡ true
  areas_new_partition p f = partition_put p (meets_none (area_of p) f (slots + i))

  pub areas_no_partition : (g : ℕ) → sound_areas (with_partition d i (emptied_partition g)) ≡ true
  areas_no_partition g = partition_put (emptied_partition g) (λ j u n. no_area_lem (get_or (areas d) j no_area))

  pub areas_same_partition : (p : Partition) → area_of p ≡ area_of (get_or d.partitions i no_partition) → sound_areas (with_partition d i p) ≡ true
  areas_same_partition p q =
      partition_put p
      (λ j u n. subst (λ (a : Area). Clear a (get_or (areas d) j no_area)) (partition_place d nr np i ∙ sym q)
      (places_clear d e (slots + i) j (omega (arith, length_all d nr np)) u (λ f. n (sym f))))

-- ---- a change inside one area

-- a word that is not inside the area of a change is as it was
pub region_kept : (m m' : List ℕ) (a : Area) (r : Region) (o : Option RegionEntry) → Only a.start a.length m m' → Clear a (area_for r)
    → RegionSlot m r o → RegionSlot m' r o
region_kept m m' a r o c f s = go r o f s
  where
    go : (r : Region) (o : Option RegionEntry) → Clear a (area_for r) → RegionSlot m r o → RegionSlot m' r o
    go r o f (empty g) = empty g
    go r o f (live g e is) =
        live g e (region_same m e is m' c.size
        (λ w l h. c.same w (λ (i : Inside a.start a.length w). clear_words a (area_for (region_for e)) w f i (region_inside m e is w l h))))

pub partition_kept : (m m' : List ℕ) (a : Area) (p : Partition) (o : Option PartitionEntry) → Only a.start a.length m m' → Clear a (area_of p)
    → PartitionSlot m p o → PartitionSlot m' p o
partition_kept m m' a p o c f s = go p o f s
  where
    go : (p : Partition) (o : Option PartitionEntry) → Clear a (area_of p) → PartitionSlot m p o → PartitionSlot m' p o
    go p o f (empty g) = empty g
    go p o f (live q e is) =
        let stays : (w : ℕ) → Inside p.start p.length w → get_or m' w 0 ≡ get_or m w 0 =
        λ w h. c.same w (λ (i : Inside a.start a.length w). clear_words a (area_of p) w f i h) in
        live p e (partition_same m p e is m' c.size
        (λ b u. let v = chained_buffer m p e is b u in
        record {
          next = stays (b / 4) (buffer_inside m p e is b (b / 4) v (link_next m p e is b v));
          before = stays (b / 4 + 1) (buffer_inside m p e is b (b / 4 + 1) v (link_before m p e is b v));
        }))
