-- An id never opens another object: what a list of calls says of ids. Assumes nothing.
use Rattle.std.specs.Prelude.{◌≡◌, List, [], ℕ}
use Rattle.manager.specs.Perform.{Implementation}
use Rattle.manager.specs.declared.Call.{Call}
use Rattle.manager.specs.declared.Call.TheVariants.{CreateRegion, DeleteRegion, GetSegment, ReturnSegment, SegmentSize, ResizeSegment, RegionInformation, CreatePartition, DeletePartition, GetBuffer, ReturnBuffer}
use Rattle.manager.specs.declared.Order.{Order}
use Rattle.manager.specs.declared.Wait.{Wait}
use Rattle.manager.specs.declared.Status.TheVariants.{Successful, InvalidId}
use Rattle.trace.specs.Trace.{call, State, answer, answer_write, after, Object, region, partition, Runs}

-- in a state, a create is answered 0, and its value is the object's id
pub data Creates (i : Implementation) (s : State) : Call → Object → Type 0 where
  creates_region : (name start bytes page : ℕ) (order : Order) → (answer i s (CreateRegion name start bytes page order)).status ≡ Successful
      → Creates i s (CreateRegion name start bytes page order) (region (answer i s (CreateRegion name start bytes page order)).value)
  creates_partition : (name start bytes size : ℕ) → (answer i s (CreatePartition name start bytes size)).status ≡ Successful
      → Creates i s (CreatePartition name start bytes size) (partition (answer i s (CreatePartition name start bytes size)).value)

-- a delete of the object is answered 0
pub data Deletes (i : Implementation) (s : State) : Call → Object → Type 0 where
  deletes_region : (id : ℕ) → (answer i s (DeleteRegion id)).status ≡ Successful → Deletes i s (DeleteRegion id) (region id)
  deletes_partition : (id : ℕ) → (answer i s (DeletePartition id)).status ≡ Successful → Deletes i s (DeletePartition id) (partition id)

-- a call names the object by its id, and no check ahead of the one for 4 refuses it: a get or a resize of no bytes is answered 8
pub data Names : Call → Object → Type 0 where
  by_delete : (id : ℕ) → Names (DeleteRegion id) (region id)
  by_get : (id size alignment : ℕ) (wait : Wait) (task priority ticks : ℕ) → ¬ (size ≡ 0)
      → Names (GetSegment id size alignment wait task priority ticks) (region id)
  by_return : (id address : ℕ) → Names (ReturnSegment id address) (region id)
  by_size : (id address : ℕ) → Names (SegmentSize id address) (region id)
  by_resize : (id address size : ℕ) → ¬ (size ≡ 0) → Names (ResizeSegment id address size) (region id)
  by_information : (id : ℕ) → Names (RegionInformation id) (region id)
  by_delete_partition : (id : ℕ) → Names (DeletePartition id) (partition id)
  by_get_buffer : (id : ℕ) → Names (GetBuffer id) (partition id)
  by_return_buffer : (id address : ℕ) → Names (ReturnBuffer id address) (partition id)

-- the object's id is answered 4, whatever call names it. A write of a region's segment is answered so too, and a read hands back nothing
abbrev pub NoAccess : Implementation → State → Object → Type 0
NoAccess i s (region id) =
    ((address first : ℕ) (words : List ℕ) → (answer_write i s id address first words).status ≡ InvalidId)
    × ((address : ℕ) → i.read s.memory s.manager id address ≡ [])
NoAccess i s (partition id) = Unit {0}

pub record Gone (i : Implementation) (s : State) (o : Object) : Type 0 where
  pub calls : (c : Call) → Names c o → (answer i s c).status ≡ InvalidId
  pub access : NoAccess i s o

-- WHAT IS CLAIMED OF IDS, from a state on: in no list of calls from there does a create answer an id that a create of its kind was answered
-- in that state; and what is deleted in that state is answered 4 ever after
pub record IdClaims (i : Implementation) (s : State) : Type 0 where
  pub once : (c : Call) (o : Object) → Creates i s c o → (u : State) → Runs i (after i (call c) s) u → (c' : Call) → ¬ Creates i u c' o
  pub gone : (c : Call) (o : Object) → Deletes i s c o → (u : State) → Runs i (after i (call c) s) u → Gone i u o
