-- What a caller knows where a search has found something, and where it has not. Assumes nothing.
use Rattle.std.proofs.Common.{◌≡◌, ℕ, ◌≤◌, ◌<◌, Bool, true, false, cond, List, ltb, leb, refl, sym, ap, ◌∙◌, Some, None}
use Rattle.std.proofs.lemmas.Option.{none-some, same_Some, cond_some}
use mathlib.Core.Logic.{⊎_elim}
use borrow.Author.Tests.{eqb-true, eqb-false, ltb-true, ltb-false, le-leb, lt-leb}
use Rattle.manager.specs.Record.{no_region, no_partition, object_of}
use Rattle.manager.proofs.Laws.Ids.{Live, object_cases}
use Rattle.manager.specs.Region.{dead}
use Rattle.manager.specs.Partition.{dead_partition}
use Rattle.manager.specs.declared.Region.{Region}
use Rattle.manager.specs.declared.Partition.{Partition}
use Rattle.objects.specs.Slots.{live, below}

-- a choice between nothing and a value, by which it was
module _ {A : Type 0} where
  was_none : (b : Bool) (x : A) → None ≡ cond b None (Some x) → b ≡ true
  was_none true x e = refl
  was_none false x e = absurd (none-some x e)

  was_some : (b : Bool) (x y : A) → Some y ≡ cond b None (Some x) → (b ≡ false) × (y ≡ x)
  was_some true x y e = absurd (none-some y (sym e))
  was_some false x y e = (refl, same_Some y x e)

  was_absent : (b : Bool) (x : A) → None ≡ cond b (Some x) None → b ≡ false
  was_absent true x e = absurd (none-some x e)
  was_absent false x e = refl

unused : {A : Type 0} (name g : A → ℕ) (z : A) (l : List A) (id : ℕ) → name (object_of name g z l id) ≡ 0 → object_of name g z l id ≡ z
unused {A = A} name g z l id e =
    ⊎_elim (λ (v : Live name g z l id). absurd (v.named (ap name (sym v.is) ∙ e))) (λ (f : object_of name g z l id ≡ z). f) (object_cases name g z l id)

-- AN OBJECT, by `find`: none is live under the id; or this is the one, and it is live
module _ (rs : List Region) (id : ℕ) where
  abbrev the_region : Region
  the_region = object_of (λ r. r.name) (λ r. r.generation) no_region rs id

  pub region_missing : None ≡ live (λ (r : Region). r.name) the_region → dead the_region ≡ true
  region_missing e = was_none (dead the_region) the_region e

  -- and then what stands for it is a slot that was never used
  pub region_unused : None ≡ live (λ (r : Region). r.name) the_region → the_region ≡ no_region
  region_unused e =
      unused (λ (r : Region). r.name) (λ r. r.generation) no_region rs id (eqb-true the_region.name 0 (region_missing e))

  module _ (r : Region) (e : Some r ≡ live (λ (r : Region). r.name) the_region) where
    pub region_found : r ≡ the_region
    region_found = let v = was_some (dead the_region) the_region r e in v.1

    pub region_live : dead the_region ≡ false
    region_live = let v = was_some (dead the_region) the_region r e in v.0

    pub region_has_name : r.name ≡ 0 → ⊥
    region_has_name e = eqb-false the_region.name 0 region_live (ap (λ (x : Region). x.name) (sym region_found) ∙ e)

module _ (ps : List Partition) (id : ℕ) where
  abbrev the_partition : Partition
  the_partition = object_of (λ p. p.name) (λ p. p.generation) no_partition ps id

  pub partition_missing : None ≡ live (λ (p : Partition). p.name) the_partition → dead_partition the_partition ≡ true
  partition_missing e = was_none (dead_partition the_partition) the_partition e

  module _ (p : Partition) (e : Some p ≡ live (λ (p : Partition). p.name) the_partition) where
    pub partition_found : p ≡ the_partition
    partition_found = let v = was_some (dead_partition the_partition) the_partition p e in v.1

    pub partition_live : dead_partition the_partition ≡ false
    partition_live = let v = was_some (dead_partition the_partition) the_partition p e in v.0

    pub partition_has_name : p.name ≡ 0 → ⊥
    partition_has_name e = eqb-false the_partition.name 0 partition_live (ap (λ (x : Partition). x.name) (sym partition_found) ∙ e)

pub ruleset objects_found = (region_missing, region_unused, region_found, region_live, region_has_name, partition_missing, partition_found, partition_live, partition_has_name)

-- A PLACE, by `named` and `unspent`: i is past the last of n; or this is i, and one of them
module _ (n i : ℕ) where
  pub place_missing : None ≡ below n i → n ≤ i
  place_missing e = ltb-false i n (was_absent (ltb i n) i e)

  pub place_unlisted : None ≡ below n i → ltb i n ≡ false
  place_unlisted e = was_absent (ltb i n) i e

  pub place_past : None ≡ below n i → leb n i ≡ true
  place_past e = le-leb n i (place_missing e)

  module _ (k : ℕ) (e : Some k ≡ below n i) where
    pub place_found : k ≡ i
    place_found = let v = cond_some (ltb i n) i k (sym e) in sym v.1

    pub place_listed : ltb i n ≡ true
    place_listed = let v = cond_some (ltb i n) i k (sym e) in v.0

    pub place_within : k < n
    place_within = rw place_found (ltb-true i n place_listed)

    pub place_before : leb n i ≡ false
    place_before = lt-leb n i (ltb-true i n place_listed)

pub ruleset places_found = (place_missing, place_unlisted, place_past, place_found, place_listed, place_within, place_before)
