-- WRONG NAMES: the managers 76 to 83, by which two live objects of a kind have one name, a name that no other of its kind has is refused,
-- or the names of damaged records are not compared. Assumes nothing.
use mathlib.Core.Path.{◌≡◌, refl}
use mathlib.Core.Bool.{cond, not, ◌&&◌}
use mathlib.Core.List.{List, [], ◌∷◌, map}
use Prim.Native.Nat.{ℕ, ◌+◌}
use native.Mathlib.Omega.{arith}
use lib.ListN.{get_or}
use lib.Dec.{eqb, ltb}
use Rattle.manager.specs.Status.{number_of}
use Rattle.manager.specs.Record.{slots, no_region, no_partition, with_region, with_partition}
use Rattle.manager.specs.Result.{Result, refused, done}
use Rattle.manager.specs.Lists.{any, pairwise}
use Rattle.manager.specs.Region.{dead}
use Rattle.manager.specs.Regions.{unspent_region, region_named, region_id, new_region}
use Rattle.manager.specs.Partition.{dead_partition}
use Rattle.manager.specs.Partitions.{unspent_partition, partition_named}
use Rattle.manager.specs.Perform.{Implementation, perform, asked}
use Rattle.manager.specs.declared.Manager.{Manager}
use Rattle.manager.specs.declared.Region.{Region}
use Rattle.manager.specs.declared.Partition.{Partition}
use Rattle.manager.specs.declared.Call.{Call}
use Rattle.manager.specs.declared.Call.TheVariants.{CreateRegion, IdentRegion, CreatePartition}
use Rattle.manager.specs.declared.Order.TheVariants.{Fifo}
use Rattle.manager.specs.declared.Status.TheVariants.{InvalidName, InternalError}
use Rattle.trace.specs.Trace.{Ask, call}
use Rattle.trace.specs.Claims.{Demand3}
use Rattle.effects.specs.Effects.{Demand1}
use Rattle.refuted.proofs.Refute.{claimed, differs, passes_unsound}
use Rattle.refuted.proofs.Calls.{create, delete, divide, everything}
use Rattle.refuted.proofs.Wrong.{region_create, region_ident, partition_create, answering, but, keeping}
use Rattle.refuted.proofs.Effects.{reached}

-- a create as if no live object of its kind had the name: the names of all are others meanwhile
abbrev otherwise : Region → Region
otherwise r =
    record {
      name = cond (dead r) 0 (r.name + 1000);
      generation = r.generation;
      start = r.start;
      length = r.length;
      page = r.page;
      order = r.order;
    }

abbrev creates : List ℕ → Manager → Call → Result
creates m d c =
    let a = perform m (record { regions = map otherwise d.regions; partitions = d.partitions; waiters = d.waiters }) c in
    let slot = unspent_region d in
    keeping a (with_region d slot (get_or a.manager.regions slot no_region))

-- 76. A NAME IN USE IS TAKEN, as it was before request 6
abbrev takes_names : Implementation
takes_names = but region_create 3 λ m d c a. creates m d c

-- a region in each half of the memory
abbrev low : ℕ → Ask
low name = call (CreateRegion name 4 124 64 Fifo)

abbrev high : ℕ → Ask
high name = call (CreateRegion name 128 128 64 Fifo)

-- by the receipts two live regions have one name
not_takes_names : ¬ Demand3 takes_names
unfolding everything
not_takes_names h =
    let n : ◌≡◌ {A = ℕ} 1 2 = (claimed takes_names h (low 1 ∷ high 1 ∷ [])).region_names.differ 1 2 _ _ refl refl refl in
    omega arith

-- 77. NAMES ARE COMPARED ACROSS KINDS: a region isn't given the name of a partition
abbrev across_kinds : Implementation
across_kinds = but region_create 0 λ m d c a. cond (ltb (partition_named d (asked c).number) slots) (refused m d InvalidName) a

not_across_kinds : ¬ Demand3 across_kinds
unfolding everything
not_across_kinds = differs across_kinds (divide ∷ high 1 ∷ []) refl

-- 78. ONLY LOWER SLOTS ARE COMPARED than the one that the new region takes, which a delete made empty
abbrev only_lower : Implementation
only_lower = but region_create 3 λ m d c a. cond (ltb (region_named d (asked c).number) (unspent_region d)) a (creates m d c)

not_only_lower : ¬ Demand3 only_lower
unfolding everything
not_only_lower = differs only_lower (low 1 ∷ high 2 ∷ delete ∷ low 2 ∷ []) refl

-- 79. THE NAME IS TESTED AFTER THE AREA: one that meets another is answered first
abbrev after_area : Implementation
after_area =
    but region_create 3 λ m d c a.
    let b = creates m d c in
    cond (eqb (number_of b.status) 9) (refused m d b.status) a

not_after_area : ¬ Demand3 after_area
unfolding everything
not_after_area = differs after_area (create ∷ create ∷ []) refl

-- 80. EMPTY SLOTS ARE COMPARED, too: two of them have name 0, and the records are called damaged
abbrev compares_empty : Implementation
compares_empty = answering λ m d c a. cond (pairwise (λ r s. not (eqb r.name s.name)) d.regions) a (refused m d InternalError)

not_compares_empty : ¬ Demand3 compares_empty
unfolding everything
not_compares_empty = differs compares_empty (create ∷ []) refl

-- 81. TWO LIVE REGIONS OF ONE NAME ARE NOT NOTICED: an ident answers the lower one, as it did before request 6
abbrev names_unchecked : Implementation
names_unchecked = but region_ident 25 λ m d c a. done m d (region_id d (region_named d (asked c).number))

abbrev alike : Manager → Manager
alike d = with_region d 1 (new_region 0 1 128 128 64 Fifo)

not_names_unchecked : ¬ Demand1 names_unchecked
unfolding everything
not_names_unchecked =
    let s = reached (low 1 ∷ high 2 ∷ []) in
    passes_unsound names_unchecked s.memory (alike s.manager) (IdentRegion 1) refl refl

-- 82. ONLY THE NAMES OF REGIONS ARE COMPARED: a partition's may be in use
abbrev otherwise_partition : Partition → Partition
otherwise_partition p =
    record {
      name = cond (dead_partition p) 0 (p.name + 1000);
      generation = p.generation;
      start = p.start;
      length = p.length;
      size = p.size;
      front = p.front;
      rear = p.rear;
      free = p.free;
    }

abbrev only_regions : Implementation
only_regions =
    but partition_create 3 λ m d c a.
    let b = perform m (record { regions = d.regions; partitions = map otherwise_partition d.partitions; waiters = d.waiters }) c in
    let slot = unspent_partition d in
    keeping b (with_partition d slot (get_or b.manager.partitions slot no_partition))

not_only_regions : ¬ Demand3 only_regions
unfolding everything
not_only_regions h =
    let n : ◌≡◌ {A = ℕ} 1 2 = (claimed only_regions h (divide ∷ call (CreatePartition 1 64 48 16) ∷ [])).partition_names.differ 1 2 _ _ refl refl refl in
    omega arith

-- 83. THE CHECK COMPARES ACROSS KINDS: where a region and a partition have one name, the records are called damaged
abbrev checks_both : Implementation
checks_both =
    answering λ m d c a.
    cond (any (λ r. not (dead r) && any (λ p. eqb p.name r.name) d.partitions) d.regions) (refused m d InternalError) a

not_checks_both : ¬ Demand3 checks_both
unfolding everything
not_checks_both = differs checks_both (divide ∷ high 1 ∷ call (IdentRegion 1) ∷ []) refl
