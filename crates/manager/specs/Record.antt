-- Rules 1 (the paper's desk): the manager record, its limits, and a fresh one. Assumes nothing.
use Rattle.std.specs.Prelude.{ℕ, suc, ◌+◌, ◌*◌, ◌/◌, ◌%◌, Bool, cond, not, ◌&&◌, List, get_or, set, replicate, eqb, ltb}
use Rattle.manager.specs.declared.Manager.{Manager}
use Rattle.manager.specs.declared.Region.{Region}
use Rattle.manager.specs.declared.Partition.{Partition}
use Rattle.manager.specs.declared.Waiter.{Waiter}
use Rattle.manager.specs.declared.Notice.{Notice}
use Rattle.manager.specs.declared.Information.{Information}
use Rattle.manager.specs.declared.Order.TheVariants.{Fifo}
use Rattle.manager.specs.declared.Status.TheVariants.{Successful}

-- 8 region slots and 8 partition slots; tasks 1 to 16; a memory of 1 to 16,384 words
abbrev pub slots : ℕ
slots = 8

abbrev pub tasks : ℕ
tasks = 16

abbrev pub most_words : ℕ
most_words = 16384

-- generations 0 to 65,535
abbrev pub generations : ℕ
generations = 65536

-- an empty slot: it keeps its generation, and is otherwise zero
abbrev pub emptied_region : ℕ → Region
emptied_region g = record { name = 0; generation = g; start = 0; length = 0; page = 0; order = Fifo }

abbrev pub emptied_partition : ℕ → Partition
emptied_partition g = record { name = 0; generation = g; start = 0; length = 0; size = 0; front = 0; rear = 0; free = 0 }

-- a slot that was never used, an unused place of the queue and of the notices: all zeros
abbrev pub no_region : Region
no_region = emptied_region 0

abbrev pub no_partition : Partition
no_partition = emptied_partition 0

abbrev pub no_waiter : Waiter
no_waiter = record { task = 0; region = 0; size = 0; alignment = 0; priority = 0; ticks = 0 }

abbrev pub no_notice : Notice
no_notice = record { task = 0; status = Successful; address = 0 }

abbrev pub no_information : Information
no_information = record { free_count = 0; free_largest = 0; free_total = 0; held_count = 0; held_largest = 0; held_total = 0 }

-- the fresh record
abbrev pub fresh : Manager
fresh = record { regions = replicate slots no_region; partitions = replicate slots no_partition; waiters = replicate tasks no_waiter }

-- AN ID IS SLOT + 16 X GENERATION, with its slot's number in its low four bits. Slots are numbered from 1 and counted from 0 in the
-- record: number n is at place n - 1; number 0 is no slot's, and its place, 15, is past every slot's. Nothing but these three knows 16
unfoldable pub slot_of : ℕ → ℕ
slot_of id = (id % 16 + 15) % 16

unfoldable pub generation_of : ℕ → ℕ
generation_of id = id / 16

unfoldable pub id_of : ℕ → ℕ → ℕ
id_of i g = suc i + 16 * g

-- An id is live where its slot holds an object, and the rest of it is that slot's generation
abbrev pub has_id : ℕ → ℕ → ℕ → Bool
has_id name generation id = not (eqb name 0) && eqb generation (generation_of id)

-- a slot that create may take: empty, and not spent
abbrev pub unspent : ℕ → ℕ → Bool
unspent name generation = eqb name 0 && ltb generation generations

-- the object that an id names, of a kind's slots, by their names and generations; a slot that was never used where it names none
unfoldable pub object_of : {A : Type 0} → (A → ℕ) → (A → ℕ) → A → List A → ℕ → A
object_of name generation none l id = let x = get_or l (slot_of id) none in cond (has_id (name x) (generation x) id) x none

abbrev pub region_of : Manager → ℕ → Region
region_of d id = object_of (λ r. r.name) (λ r. r.generation) no_region d.regions id

abbrev pub partition_of : Manager → ℕ → Partition
partition_of d id = object_of (λ p. p.name) (λ p. p.generation) no_partition d.partitions id

-- the record with another object in a slot, and with another queue
abbrev pub with_region : Manager → ℕ → Region → Manager
with_region d i r = record { regions = set d.regions i r; partitions = d.partitions; waiters = d.waiters }

abbrev pub with_partition : Manager → ℕ → Partition → Manager
with_partition d i p = record { regions = d.regions; partitions = set d.partitions i p; waiters = d.waiters }

abbrev pub with_queue : Manager → List Waiter → Manager
with_queue d ws = record { regions = d.regions; partitions = d.partitions; waiters = ws }
