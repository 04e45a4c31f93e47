-- Rules 12: the directives on partitions. Each has its checks in the order of "Order of checks". Assumes nothing.
use Rattle.std.specs.Prelude.{ℕ, ◌+◌, ◌-◌, ◌%◌, not, List, [], ◌∷◌, get_or, eqb, leb, ltb}
use Rattle.manager.specs.Record.{slots, no_partition, emptied_partition, unspent, partition_of, slot_of, id_of, with_partition}
use Rattle.manager.specs.Result.{Result, check, done}
use Rattle.manager.specs.Lists.{index_of}
use Rattle.manager.specs.Partition.{dead_partition, buffers, buffer_at, is_buffer, is_free, link_all, after_get, gotten, after_return, returned}
use Rattle.manager.specs.Regions.{answered, overlaps, past_memory}
use Rattle.manager.specs.Sound.{sound}
use Rattle.manager.specs.declared.Manager.{Manager}
use Rattle.manager.specs.declared.Partition.{Partition}
use Rattle.manager.specs.declared.Status.TheVariants.{InvalidName, InvalidId, TooMany, InvalidSize, InvalidAddress, ResourceInUse, Unsatisfied}

-- Create takes the lowest empty slot that isn't spent, ident the one with the name: in sound records no two live ones have it
abbrev pub unspent_partition : Manager → ℕ
unspent_partition d = index_of (λ p. unspent p.name p.generation) d.partitions

abbrev pub partition_named : Manager → ℕ → ℕ
partition_named d name = index_of (λ p. eqb p.name name) d.partitions

-- the generation of a slot, and the id of what is in it
abbrev pub partition_generation : Manager → ℕ → ℕ
partition_generation d i = (get_or d.partitions i no_partition).generation

abbrev pub partition_id : Manager → ℕ → ℕ
partition_id d i = id_of i (partition_generation d i)

-- the new partition: every buffer is free, in the order of their addresses
abbrev pub new_partition : ℕ → ℕ → ℕ → ℕ → ℕ → Partition
new_partition generation name start bytes size =
    let p : Partition = record { name = name; generation = generation; start = start; length = bytes; size = size; front = 0; rear = 0; free = 0 } in
    record {
      name = name;
      generation = generation;
      start = start;
      length = bytes;
      size = size;
      front = start;
      rear = buffer_at p (buffers p - 1);
      free = buffers p;
    }

-- create partition: 3, a name that a live partition has 3, start 9, alignment 9, past memory 9, length or size 0 (8), length below size 8,
-- size not a multiple of 4 or below 8 (8), overlap 9, 5
unfoldable pub create_partition : List ℕ → Manager → ℕ → ℕ → ℕ → ℕ → Result
create_partition m d name start bytes size =
    let slot = unspent_partition d in
    let p = new_partition (partition_generation d slot) name start bytes size in
    answered (sound m d) m d
    (check (eqb name 0) InvalidName
    ∷ check (ltb (partition_named d name) slots) InvalidName
    ∷ check (eqb start 0) InvalidAddress
    ∷ check (not (eqb (start % 4) 0)) InvalidAddress
    ∷ check (past_memory m start bytes) InvalidAddress
    ∷ check (eqb bytes 0) InvalidSize
    ∷ check (eqb size 0) InvalidSize
    ∷ check (ltb bytes size) InvalidSize
    ∷ check (not (eqb (size % 4) 0)) InvalidSize
    ∷ check (ltb size 8) InvalidSize
    ∷ check (overlaps d (record { start = start; length = bytes })) InvalidAddress
    ∷ check (leb slots slot) TooMany
    ∷ [])
    (done (link_all (buffers p) m p 0) (with_partition d slot p) (partition_id d slot))

-- ident: 3
unfoldable pub ident_partition : List ℕ → Manager → ℕ → Result
ident_partition m d name =
    answered (sound m d) m d
    (check (eqb name 0) InvalidName
    ∷ check (leb slots (partition_named d name)) InvalidName
    ∷ [])
    (done m d (partition_id d (partition_named d name)))

-- delete: 4, 12; it changes no word of memory, and the generation rises by one
unfoldable pub delete_partition : List ℕ → Manager → ℕ → Result
delete_partition m d id =
    let p = partition_of d id in
    answered (sound m d) m d
    (check (dead_partition p) InvalidId
    ∷ check (not (eqb p.free (buffers p))) ResourceInUse
    ∷ [])
    (done m (with_partition d (slot_of id) (emptied_partition (p.generation + 1))) 0)

-- get of a buffer: 4, 13; the front of the chain
unfoldable pub get_buffer : List ℕ → Manager → ℕ → Result
get_buffer m d id =
    let p = partition_of d id in
    answered (sound m d) m d
    (check (dead_partition p) InvalidId
    ∷ check (eqb p.free 0) Unsatisfied
    ∷ [])
    (done (after_get m p) (with_partition d (slot_of id) (gotten m p)) p.front)

-- return of a buffer: 4, 9; whether it is held is found from the chain
unfoldable pub return_buffer : List ℕ → Manager → ℕ → ℕ → Result
return_buffer m d id address =
    let p = partition_of d id in
    answered (sound m d) m d
    (check (dead_partition p) InvalidId
    ∷ check (not (is_buffer p address)) InvalidAddress
    ∷ check (is_free m p address) InvalidAddress
    ∷ [])
    (done (after_return m p address) (with_partition d (slot_of id) (returned p address)) 0)
