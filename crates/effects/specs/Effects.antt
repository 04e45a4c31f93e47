-- Demand 1: "Whatever numbers, manager record and memory words it is given, each directive ends with one of the numbered
-- answers. It checks its records itself; a refusal changes no word and no field; only its own bookkeeping words are ever written." It is
-- stated of any implementation, over any memory and record and not only over those that a list of calls reaches. Assumes nothing.
use Rattle.std.specs.Prelude.{◌≡◌, Bool, true, false, cond, not, ◌&&◌, List, [], ◌∷◌, ◌⊎◌, ◌↔◌, ℕ, ◌+◌, ◌*◌, ◌/◌, ◌≤◌, length, take, drop, eqb}
use Rattle.manager.specs.Status.{number_of}
use Rattle.manager.specs.Record.{slots, tasks, region_of, partition_of, with_queue}
use Rattle.manager.specs.Result.{Result, tasks_told, replied, refused}
use Rattle.manager.specs.Region.{dead, held_at}
use Rattle.manager.specs.Words.{OneOf, MapWord, Only}
use Rattle.manager.specs.Partition.{is_free}
use Rattle.manager.specs.Lists.{In, Distinct}
use Rattle.manager.specs.Sound.{sound}
use Rattle.manager.specs.Access.{words_in}
use Rattle.manager.specs.Perform.{Implementation}
use Rattle.manager.specs.declared.Manager.{Manager}
use Rattle.manager.specs.declared.Partition.{Partition}
use Rattle.manager.specs.declared.Call.{Call}
use Rattle.manager.specs.declared.Call.TheVariants.{CreateRegion, IdentRegion, DeleteRegion, GetSegment, ReturnSegment, SegmentSize, ResizeSegment, RegionInformation, CreatePartition, IdentPartition, DeletePartition, GetBuffer, ReturnBuffer, Tick}
use Rattle.manager.specs.declared.Wait.TheVariants.{No, Yes}
use Rattle.manager.specs.declared.Status.{Status}
use Rattle.manager.specs.declared.Status.TheVariants.{Successful, InternalError, Waiting}

-- THE NUMBERED ANSWERS of each directive: success, and what its checks can say. 6 is nobody's, for it stands in notices only; 255 is
-- that of a get that may wait
abbrev pub answers_of : Call → List ℕ
answers_of (CreateRegion name start bytes page order) = 0 ∷ 3 ∷ 5 ∷ 8 ∷ 9 ∷ 25 ∷ []
answers_of (IdentRegion name) = 0 ∷ 3 ∷ 25 ∷ []
answers_of (DeleteRegion id) = 0 ∷ 4 ∷ 12 ∷ 25 ∷ []
answers_of (GetSegment id size alignment No task priority ticks) = 0 ∷ 4 ∷ 8 ∷ 11 ∷ 13 ∷ 25 ∷ []
answers_of (GetSegment id size alignment Yes task priority ticks) = 0 ∷ 4 ∷ 8 ∷ 10 ∷ 11 ∷ 14 ∷ 19 ∷ 25 ∷ 255 ∷ []
answers_of (ReturnSegment id address) = 0 ∷ 4 ∷ 9 ∷ 25 ∷ []
answers_of (SegmentSize id address) = 0 ∷ 4 ∷ 9 ∷ 25 ∷ []
answers_of (ResizeSegment id address size) = 0 ∷ 4 ∷ 8 ∷ 9 ∷ 13 ∷ 25 ∷ []
answers_of (RegionInformation id) = 0 ∷ 4 ∷ 25 ∷ []
answers_of (CreatePartition name start bytes size) = 0 ∷ 3 ∷ 5 ∷ 8 ∷ 9 ∷ 25 ∷ []
answers_of (IdentPartition name) = 0 ∷ 3 ∷ 25 ∷ []
answers_of (DeletePartition id) = 0 ∷ 4 ∷ 12 ∷ 25 ∷ []
answers_of (GetBuffer id) = 0 ∷ 4 ∷ 13 ∷ 25 ∷ []
answers_of (ReturnBuffer id address) = 0 ∷ 4 ∷ 9 ∷ 25 ∷ []
answers_of Tick = 0 ∷ 25 ∷ []

-- and of a write
abbrev pub write_answers : List ℕ
write_answers = 0 ∷ 4 ∷ 8 ∷ 9 ∷ 25 ∷ []

-- A REFUSAL: an answer other than 0 and 255. Its value is 0, but of a resize with 13 the old length
abbrev pub refusing : Status → Bool
refusing s = not (eqb (number_of s) 0) && not (eqb (number_of s) 255)

abbrev pub old_length : List ℕ → Manager → Call → ℕ
old_length m d (ResizeSegment id address size) = held_at m (region_of d id) address * (region_of d id).page
old_length m d (CreateRegion name start bytes page order) = 0
old_length m d (IdentRegion name) = 0
old_length m d (DeleteRegion id) = 0
old_length m d (GetSegment id size alignment wait task priority ticks) = 0
old_length m d (ReturnSegment id address) = 0
old_length m d (SegmentSize id address) = 0
old_length m d (RegionInformation id) = 0
old_length m d (CreatePartition name start bytes size) = 0
old_length m d (IdentPartition name) = 0
old_length m d (DeletePartition id) = 0
old_length m d (GetBuffer id) = 0
old_length m d (ReturnBuffer id address) = 0
old_length m d Tick = 0

abbrev pub refused_value : List ℕ → Manager → Call → Status → ℕ
refused_value m d c s = cond (eqb (number_of s) 13) (old_length m d c) 0

-- WORDS: beside those of a region's map, word 0 or 1 of a buffer on a partition's chain
abbrev pub LinkWord : List ℕ → Partition → ℕ → Type 0
LinkWord m p j = (a : ℕ) × (is_free m p a ≡ true) × ((j ≡ a / 4) ⊎ (j ≡ a / 4 + 1))

-- THE BOOKKEEPING WORDS of the object that a call names: a region's map; the links of the buffers on a partition's chain, as it is before
-- a get, and after a return or a create. A create names the object whose id it answers, as the record has it then. A tick names no
-- object, and those of any live region are its own. The other calls have none
abbrev pub Bookkeeping : List ℕ → Manager → Result → Call → ℕ → Type 0
Bookkeeping m d s (CreateRegion name start bytes page order) j = MapWord (region_of s.manager s.value) j
Bookkeeping m d s (GetSegment id size alignment wait task priority ticks) j = MapWord (region_of d id) j
Bookkeeping m d s (ReturnSegment id address) j = MapWord (region_of d id) j
Bookkeeping m d s (ResizeSegment id address size) j = MapWord (region_of d id) j
Bookkeeping m d s (CreatePartition name start bytes size) j = LinkWord s.memory (partition_of s.manager s.value) j
Bookkeeping m d s (GetBuffer id) j = LinkWord m (partition_of d id) j
Bookkeeping m d s (ReturnBuffer id address) j = LinkWord s.memory (partition_of s.manager id) j
Bookkeeping m d s (IdentRegion name) j = ⊥
Bookkeeping m d s (DeleteRegion id) j = ⊥
Bookkeeping m d s (SegmentSize id address) j = ⊥
Bookkeeping m d s (RegionInformation id) j = ⊥
Bookkeeping m d s (IdentPartition name) j = ⊥
Bookkeeping m d s (DeletePartition id) j = ⊥
Bookkeeping m d s Tick j = (id : ℕ) × (dead (region_of d id) ≡ false) × MapWord (region_of d id) j

-- a record with all its slots and places, as every record of the language has them
pub record Whole (d : Manager) : Type 0 where
  pub regions : length d.regions ≡ slots
  pub partitions : length d.partitions ≡ slots
  pub waiters : length d.waiters ≡ tasks

-- WHAT A CALL MAY DO
pub record CallEffects (m : List ℕ) (d : Manager) (c : Call) (s : Result) : Type 0 where
  -- each directive ends with one of the numbered answers
  pub numbered : In (number_of s.status) (answers_of c)
  -- it checks its records itself: 25 exactly when they are not sound
  pub checks : (s.status ≡ InternalError) ↔ (sound m d ≡ false)
  -- a refusal changes no word and no field; it has no notice, no information, and the value 0 or that old length
  pub refusal : refusing s.status ≡ true → s ≡ replied m d s.status (refused_value m d c s.status)
  -- 255: the task now waits; value 0, no notice, and only the queue changes
  pub waits : s.status ≡ Waiting → s ≡ replied m (with_queue d s.manager.waiters) Waiting 0
  -- only its own bookkeeping words are ever written: the memory keeps its length and every other word, whatever the answer
  pub only : Whole d → Only (Bookkeeping m d s c) m s.memory

-- WHAT A WRITE OF A HELD SEGMENT MAY DO: the same, and the words that it writes are those that it names
pub record WriteEffects (m : List ℕ) (d : Manager) (id address first : ℕ) (words : List ℕ) (s : Result) : Type 0 where
  pub numbered : In (number_of s.status) write_answers
  pub checks : (s.status ≡ InternalError) ↔ (sound m d ≡ false)
  pub refusal : refusing s.status ≡ true → s ≡ refused m d s.status
  -- it changes no field of the record, whatever it answers
  pub keeps : s.manager ≡ d
  pub only : Only (OneOf (address / 4 + first) (length words)) m s.memory
  -- and these are words of the segment that is held at the address
  pub inside : s.status ≡ Successful → first + length words ≤ words_in m d id address

-- WHAT A READ MAY DO: it hands back words of the memory from its address on, and nothing else, so that it can't change anything; none
-- where the records are not sound
pub record ReadEffects (m : List ℕ) (d : Manager) (address : ℕ) (words : List ℕ) : Type 0 where
  pub part : words ≡ take (length words) (drop (address / 4) m)
  pub checks : sound m d ≡ false → words ≡ []

-- DEMAND 1
pub record Demand1 (i : Implementation) : Type 0 where
  pub call : (m : List ℕ) (d : Manager) (c : Call) → CallEffects m d c (i.call m d c)
  -- one call gives each task at most one notice, and all its notices have places in the answer
  pub once : (m : List ℕ) (d : Manager) (c : Call) → Whole d → Distinct (tasks_told (i.call m d c).notices)
  pub few : (m : List ℕ) (d : Manager) (c : Call) → Whole d → length (i.call m d c).notices ≤ tasks
  pub write : (m : List ℕ) (d : Manager) (id address first : ℕ) (words : List ℕ)
      → WriteEffects m d id address first words (i.write m d id address first words)
  pub read : (m : List ℕ) (d : Manager) (id address : ℕ) → ReadEffects m d address (i.read m d id address)
