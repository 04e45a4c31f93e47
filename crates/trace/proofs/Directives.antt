-- EVERY CALL, in every state that the receipts picture, keeps the picture and the words of clients, is answered as the receipts say, and
-- never 25. A module for each directive shows it of that one. Assumes nothing.
pub mod CreateRegion
pub mod IdentRegion
pub mod DeleteRegion
pub mod GetSegment
pub mod ReturnSegment
pub mod SegmentSize
pub mod ResizeSegment
pub mod RegionInformation
pub mod CreatePartition
pub mod IdentPartition
pub mod DeletePartition
pub mod GetBuffer
pub mod ReturnBuffer
pub mod Tick
use mathlib.Core.List.{List}
use Prim.Native.Nat.{ℕ}
use Rattle.manager.specs.Perform.{perform}
use Rattle.manager.specs.declared.Manager.{Manager}
use Rattle.manager.specs.declared.Call.{Call}
use Rattle.manager.specs.declared.Call.TheVariants as call
use Rattle.trace.specs.Receipts.{Receipts}
use Rattle.trace.proofs.Invariant.{Inv}
use Rattle.trace.proofs.Regions.Checks.{Right}

module _ (m : List ℕ) (d : Manager) (t : Receipts) (v : Inv m d t) where
  pub performs : (c : Call) → Right c m t (perform m d c)
  unfolding perform
  performs (call.CreateRegion name start bytes page order) = CreateRegion.right m d t v name start bytes page order
  performs (call.IdentRegion name) = IdentRegion.right m d t v name
  performs (call.DeleteRegion id) = DeleteRegion.right m d t v id
  performs (call.GetSegment id size alignment wait task priority ticks) = GetSegment.right m d t v id size alignment wait task priority ticks
  performs (call.ReturnSegment id a) = ReturnSegment.right m d t v id a
  performs (call.SegmentSize id a) = SegmentSize.right m d t v id a
  performs (call.ResizeSegment id a size) = ResizeSegment.right m d t v id a size
  performs (call.RegionInformation id) = RegionInformation.right m d t v id
  performs (call.CreatePartition name start bytes size) = CreatePartition.right m d t v name start bytes size
  performs (call.IdentPartition name) = IdentPartition.right m d t v name
  performs (call.DeletePartition id) = DeletePartition.right m d t v id
  performs (call.GetBuffer id) = GetBuffer.right m d t v id
  performs (call.ReturnBuffer id a) = ReturnBuffer.right m d t v id a
  performs call.Tick = Tick.right m d t v
