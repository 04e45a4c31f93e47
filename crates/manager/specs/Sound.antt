-- Rules 10 (the paper's sound books): what a sound manager record over a memory is, clause by clause. Assumes nothing.
use Rattle.std.specs.Prelude.{ℕ, ◌+◌, ◌-◌, ◌*◌, ◌%◌, ◌≤◌, ◌<◌, ◌≡◌, Bool, true, false, cond, not, ◌&&◌, ◌||◌, List, length, get_or, eqb, leb}
use Rattle.manager.specs.Record.{slots, tasks, most_words, generations, no_region, region_of}
use Rattle.manager.specs.Lists.{every, pairwise, adjacent}
use Rattle.manager.specs.Map.{sound_map}
use Rattle.manager.specs.Region.{dead, kind, pages_of, map_words, any_held, is_alignment, need_of, servable, areas, overlap}
use Rattle.manager.specs.Partition.{dead_partition, sound_chain}
use Rattle.manager.specs.Queue.{goes_before}
use Rattle.manager.specs.declared.Manager.{Manager}
use Rattle.manager.specs.declared.Region.{Region}
use Rattle.manager.specs.declared.Partition.{Partition}
use Rattle.manager.specs.declared.Waiter.{Waiter}
use Rattle.manager.specs.declared.Order.{Order}
use Rattle.manager.specs.declared.Order.TheVariants.{Fifo, Priority, HalvesFifo, HalvesPriority}

-- "Memory of allowed length"
abbrev pub sound_length : List ℕ → Bool
sound_length m = leb 1 (length m) && leb (length m) most_words

-- "areas inside the memory, start not 0"
abbrev pub inside : List ℕ → ℕ → ℕ → Bool
inside m start bytes = not (eqb start 0) && leb (start + bytes) (4 * length m)

-- a page size that create allows, 1 to 4,096, rounded up to a multiple of 8
abbrev pub sound_page : ℕ → Bool
sound_page page = leb 8 page && (leb page 4096 && eqb (page % 8) 0)

-- buffers of a multiple of 4, at least 8, and at least one of them
abbrev pub sound_size : ℕ → ℕ → Bool
sound_size bytes size = leb size bytes && (eqb (size % 4) 0 && leb 8 size)

abbrev pub is_fifo : Order → Bool
is_fifo Fifo = true
is_fifo Priority = false
is_fifo HalvesFifo = false
is_fifo HalvesPriority = false

-- "empty slots zero", but for the generation
abbrev pub empty_region : Region → Bool
empty_region r = eqb r.start 0 && (eqb r.length 0 && (eqb r.page 0 && is_fifo r.order))

abbrev pub empty_partition : Partition → Bool
empty_partition p =
    eqb p.start 0 && (eqb p.length 0 && (eqb p.size 0 && (eqb p.front 0 && (eqb p.rear 0 && eqb p.free 0))))

-- "region sizes as their creates allow, page sizes rounded; maps as above"
unfoldable pub live_region : List ℕ → Region → Bool
live_region m r =
    inside m r.start r.length && (sound_page r.page && (leb 1 (pages_of r) && sound_map (kind r).proper (map_words m r)))

-- "partition sizes as their creates allow; chains that run from front to rear over real buffers"
unfoldable pub live_partition : List ℕ → Partition → Bool
live_partition m p =
    inside m p.start p.length && (eqb (p.start % 4) 0 && (sound_size p.length p.size && sound_chain m p))

-- a live slot's generation is at most 65,535, an empty one's at most 65,536
abbrev pub sound_generation : ℕ → ℕ → Bool
sound_generation name generation = leb generation (cond (eqb name 0) generations (generations - 1))

-- "live names not 0": a slot without a name is empty
unfoldable pub sound_region : List ℕ → Region → Bool
sound_region m r = sound_generation r.name r.generation && cond (dead r) (empty_region r) (live_region m r)

unfoldable pub sound_partition : List ℕ → Partition → Bool
sound_partition m p = sound_generation p.name p.generation && cond (dead_partition p) (empty_partition p) (live_partition m p)

-- "different names within a kind", of two of its slots by what their names are; an empty slot has none, and shares none
abbrev pub other_name : {A : Type 0} → (A → ℕ) → A → A → Bool
other_name name x y = eqb (name x) 0 || not (eqb (name x) (name y))

unfoldable pub sound_names : Manager → Bool
sound_names d = pairwise (other_name (λ r. r.name)) d.regions && pairwise (other_name (λ p. p.name)) d.partitions

-- "no two overlapping (the whole asked area counts)"
abbrev pub sound_areas : Manager → Bool
sound_areas d = pairwise (λ a b. not (overlap a b)) (areas d)

abbrev pub unused : Waiter → Bool
unused w = eqb w.task 0

-- "unused queue places zero", and behind the used ones
abbrev pub empty_waiter : Waiter → Bool
empty_waiter w =
    eqb w.task 0 && (eqb w.region 0 && (eqb w.size 0 && (eqb w.alignment 0 && (eqb w.priority 0 && eqb w.ticks 0))))

-- "each waiting task of 1 to 16, in a live region with something held, with a size from 1 that region can hold, a priority from 1 to
-- 255"; and with an alignment that a get of it allows, on which the region with nothing held could serve it
unfoldable pub sound_waiter : List ℕ → Manager → Waiter → Bool
sound_waiter m d w =
    let r = region_of d w.region in
    leb w.task tasks
    && (not (dead r)
    && (any_held m r
    && (leb 1 w.size
    && ((kind r).aligns w.alignment
    && (is_alignment r.page w.alignment
    && (servable r (need_of r w.size w.alignment)
    && (leb 1 w.priority && leb w.priority 255)))))))

unfoldable pub sound_place : List ℕ → Manager → Waiter → Bool
sound_place m d w = cond (unused w) (empty_waiter w) (sound_waiter m d w)

-- "once"
abbrev pub other_task : Waiter → Waiter → Bool
other_task w x = unused w || not (eqb w.task x.task)

-- "the queue in its order": nobody behind goes before; used places come first
abbrev pub in_order : Manager → Waiter → Waiter → Bool
in_order d w x = unused x || not (goes_before (region_of d x.region).order x w)

unfoldable pub sound_queue : List ℕ → Manager → Bool
sound_queue m d = every (sound_place m d) d.waiters && (pairwise other_task d.waiters && adjacent (in_order d) d.waiters)

-- Sound books. "Anything else is answered 25, and sound books never are"
unfoldable pub sound : List ℕ → Manager → Bool
sound m d =
    sound_length m
    && (every (sound_region m) d.regions
    && (every (sound_partition m) d.partitions
    && (sound_names d
    && (sound_areas d && sound_queue m d))))

-- ---- what the functions of a directive ask of the region or the partition that they act on

-- a region whose map and pages lie in a memory
pub record Laid (m : List ℕ) (r : Region) : Type 0 where
  pub words : length m ≤ 16384
  pub inside : r.start + r.length ≤ 4 * length m
  pub page_low : 8 ≤ r.page
  pub page_high : r.page ≤ 4096
  pub some : 1 ≤ pages_of r

-- and whose map is sound: a live region
pub record Sited (m : List ℕ) (r : Region) : Type 0 where
  pub laid : Laid m r
  pub sound : sound_map (kind r).proper (map_words m r) ≡ true

-- all regions of a record so: each live one, of a generation that its slot may have, in as many slots as there are, and no two areas overlap
pub record Sites (m : List ℕ) (d : Manager) : Type 0 where
  pub sited : (i : ℕ) → i < slots → ¬ ((get_or d.regions i no_region).name ≡ 0) → Sited m (get_or d.regions i no_region)
  pub generation : (i : ℕ) → i < slots → (get_or d.regions i no_region).generation ≤ generations
  pub size : length d.regions ≡ slots
  pub areas : sound_areas d ≡ true

-- a partition as create allows it, and one whose buffers lie in a memory
pub record Shaped (p : Partition) : Type 0 where
  pub start_in : 0 < p.start
  pub aligned : p.start % 4 ≡ 0
  pub whole : p.size % 4 ≡ 0
  pub big : 8 ≤ p.size

pub record LaidPartition (m : List ℕ) (p : Partition) : Type 0 where
  pub shaped : Shaped p
  pub inside : p.start + p.length ≤ 4 * length m
