-- The invariant of the trace theorem: the receipts are right in themselves (waits), and the memory and the record are their picture
-- (regions, partitions, areas, queue). Everything that the manager keeps is determined by the receipts, but for what clients wrote.
use Rattle.std.specs.Prelude.{Option, None, Some}
use mathlib.Core.Path.{◌≡◌}
use mathlib.Core.Bool.{true}
use mathlib.Core.List.{List, [], ◌∷◌}
use mathlib.Core.Logic.{◌⊎◌}
use Prim.Native.Nat.{ℕ, ◌+◌, ◌*◌, ◌≤◌, ◌<◌}
use lib.ListN.{length, get_or}
use Rattle.manager.specs.Record.{slots, tasks, no_region, no_partition, no_waiter, emptied_region, emptied_partition, slot_of, region_of, partition_of}
use Rattle.manager.specs.Result.{pad}
use Rattle.manager.specs.Map.{draw}
use Rattle.manager.specs.Region.{map_at, map_words}
use Rattle.manager.specs.Partition.{is_buffer, buffers, chain}
use Rattle.manager.specs.Sound.{sound_length, sound_generation, inside, live_partition, other_name, sound_areas}
use Rattle.manager.specs.declared.Manager.{Manager}
use Rattle.manager.specs.declared.Region.{Region}
use Rattle.manager.specs.declared.Partition.{Partition}
use Rattle.manager.specs.Lists.{pairwise, In, Distinct}
use Rattle.trace.specs.Loans.{Loan}
use Rattle.trace.specs.Receipts.{Receipts, RegionEntry, PartitionEntry, Wait, unit, pages_in, span_in, page_loans, reading, Alignment, Servable}
use Rattle.trace.specs.Queue.{in_line}
use Rattle.trace.specs.Replies.{region_now}
use Rattle.trace.specs.Claims.{waiters_of}
use Rattle.trace.proofs.Loans.Addresses.{at_pages}

-- word w lies wholly in the n bytes from a on
pub record Inside (a n w : ℕ) : Type 0 where
  pub low : a ≤ 4 * w
  pub high : 4 * w + 4 ≤ a + n

-- only words that lie wholly in the n bytes from a on differ
pub record Only (a n : ℕ) (m m' : List ℕ) : Type 0 where
  pub size : length m' ≡ length m
  pub same : (w : ℕ) → ¬ Inside a n w → get_or m' w 0 ≡ get_or m w 0

-- the region that an entry asks for, in a slot of a generation; and of the first one: what rests on its area and its pages alone is the
-- same of any
abbrev pub region_as : ℕ → RegionEntry → Region
region_as g e = record { name = e.name; generation = g; start = e.start; length = e.bytes; page = unit e; order = e.order }

abbrev pub region_for : RegionEntry → Region
region_for e = region_as 0 e

-- loans by their pages, at the addresses of an entry's pages
abbrev pub at_addresses : RegionEntry → List Loan → List Loan
at_addresses e l = at_pages (unit e) l

-- only map words of an entry's region differ
abbrev pub OnlyMap : RegionEntry → List ℕ → List ℕ → Type 0
OnlyMap e m m' = Only (4 * map_at (region_for e)) (4 * pages_in e) m m'

-- a live region, and its picture: its loans are at addresses of its pages, they fit, and the map is drawn from them
pub record RegionIs (m : List ℕ) (e : RegionEntry) : Type 0 where
  pub named : ¬ (e.name ≡ 0)
  pub inside : inside m e.start e.bytes ≡ true
  pub page_some : 1 ≤ e.page
  pub page_most : e.page ≤ 4096
  pub some_page : 1 ≤ pages_in e
  pub placed : e.loans ≡ at_addresses e (page_loans e)
  pub fits : (reading e).Fits (span_in e) (page_loans e)
  pub map : map_words m (region_for e) ≡ draw ((reading e).drawn (span_in e) (page_loans e))

pub data RegionSlot (m : List ℕ) : Region → Option RegionEntry → Type 0 where
  empty : (g : ℕ) → RegionSlot m (emptied_region g) None
  live : (g : ℕ) (e : RegionEntry) → RegionIs m e → RegionSlot m (region_as g e) (Some e)

-- a live partition, and its picture: the chain is the buffers that are not lent, and each buffer is lent or not, once
pub record PartitionIs (m : List ℕ) (p : Partition) (e : PartitionEntry) : Type 0 where
  pub named : ¬ (p.name ≡ 0)
  pub name : p.name ≡ e.name
  pub start : p.start ≡ e.start
  pub bytes : p.length ≡ e.bytes
  pub size : p.size ≡ e.size
  pub sound : live_partition m p ≡ true
  pub chained : chain m p ≡ e.unlent
  pub once : Distinct e.lent
  pub buffer : (a : ℕ) → In a e.lent → is_buffer p a ≡ true
  pub either : (a : ℕ) → is_buffer p a ≡ true → In a e.lent ⊎ In a e.unlent
  pub apart : (a : ℕ) → In a e.lent → ¬ In a e.unlent
  pub counted : length e.lent + length e.unlent ≡ buffers p

pub data PartitionSlot (m : List ℕ) : Partition → Option PartitionEntry → Type 0 where
  empty : (g : ℕ) → PartitionSlot m (emptied_partition g) None
  live : (p : Partition) (e : PartitionEntry) → PartitionIs m p e → PartitionSlot m p (Some e)

-- a slot of either kind: its generation is the number of its deletes, one that it may have, and an empty one keeps nothing else
pub record SlotIs {A : Type 0} (name generation : A → ℕ) (emptied : ℕ → A) (x : A) (deletes : ℕ) : Type 0 where
  pub same : generation x ≡ deletes
  pub sound : sound_generation (name x) deletes ≡ true
  pub empty : name x ≡ 0 → x ≡ emptied deletes

abbrev pub RegionSlotIs : Region → ℕ → Type 0
RegionSlotIs r n = SlotIs (λ x. x.name) (λ x. x.generation) emptied_region r n

abbrev pub PartitionSlotIs : Partition → ℕ → Type 0
PartitionSlotIs p n = SlotIs (λ x. x.name) (λ x. x.generation) emptied_partition p n

-- a wait: of a task, in a live region that lends something, with arguments that the checks let pass, and time left
pub record WaitIs (t : Receipts) (w : Wait) : Type 0 where
  pub entry : RegionEntry
  pub found : t.regions w.id ≡ Some entry
  pub lending : ¬ (entry.loans ≡ [])
  pub id_now_lem : w.id ≡ region_now t (slot_of w.id)
  pub task_some : 1 ≤ w.task
  pub task_most : w.task ≤ tasks
  pub size_some : 1 ≤ w.size
  pub alignment : Alignment entry w.alignment
  pub size_most : Servable entry w.size w.alignment
  pub priority_some : 1 ≤ w.priority
  pub priority_most : w.priority ≤ 255
  pub time : (w.ticks ≡ 0) ⊎ (w.since < w.ticks)

unfoldable pub tasks_of : List Wait → List ℕ
tasks_of [] = []
tasks_of (w ∷ ws) = w.task ∷ tasks_of ws

-- the waits, and their picture: the record keeps them as they stand in line
pub record Waits (d : Manager) (t : Receipts) : Type 0 where
  pub each : (w : Wait) → In w t.waits → WaitIs t w
  pub once : Distinct (tasks_of t.waits)
  pub queue : d.waiters ≡ pad tasks no_waiter (waiters_of (in_line t))

-- the picture of the objects: the memory and the record as the receipts say
pub record Picture (m : List ℕ) (d : Manager) (t : Receipts) : Type 0 where
  pub words : sound_length m ≡ true
  pub region_slots : length d.regions ≡ slots
  pub partition_slots : length d.partitions ≡ slots
  pub regions : (id : ℕ) → RegionSlot m (region_of d id) (t.regions id)
  pub partitions : (id : ℕ) → PartitionSlot m (partition_of d id) (t.partitions id)
  pub region_is : (i : ℕ) → i < slots → RegionSlotIs (get_or d.regions i no_region) (t.region_deletes i)
  pub partition_is : (i : ℕ) → i < slots → PartitionSlotIs (get_or d.partitions i no_partition) (t.partition_deletes i)
  pub region_names : pairwise (other_name (λ r. r.name)) d.regions ≡ true
  pub partition_names : pairwise (other_name (λ p. p.name)) d.partitions ≡ true
  pub areas : sound_areas d ≡ true

-- THE INVARIANT
pub record Inv (m : List ℕ) (d : Manager) (t : Receipts) : Type 0 where
  pub picture : Picture m d t
  pub waits : Waits d t

pub with_waits_lem : {m : List ℕ} {d : Manager} {t : Receipts} → Picture m d t → Waits d t → Inv m d t
with_waits_lem p w = record { picture = p; waits = w }
