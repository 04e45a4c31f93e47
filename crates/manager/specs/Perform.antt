-- A call of any directive, and its parts; and the manager as three functions, so that the demands can be stated of any other. Assumes nothing.
use Rattle.std.specs.Prelude.{ℕ, List}
use Rattle.manager.specs.Access.{read_segment, write_segment}
use Rattle.manager.specs.Result.{Result}
use Rattle.manager.specs.Regions.{create_region, ident_region, delete_region, get_segment, return_segment, segment_size, resize_segment, region_information, tick}
use Rattle.manager.specs.Partitions.{create_partition, ident_partition, delete_partition, get_buffer, return_buffer}
use Rattle.manager.specs.declared.Manager.{Manager}
use Rattle.manager.specs.declared.Call.{Call}
use Rattle.manager.specs.declared.Call.TheVariants.{CreateRegion, IdentRegion, DeleteRegion, GetSegment, ReturnSegment, SegmentSize, ResizeSegment, RegionInformation, CreatePartition, IdentPartition, DeletePartition, GetBuffer, ReturnBuffer, Tick}

unfoldable pub perform : List ℕ → Manager → Call → Result
perform m d (CreateRegion name start bytes page order) = create_region m d name start bytes page order
perform m d (IdentRegion name) = ident_region m d name
perform m d (DeleteRegion id) = delete_region m d id
perform m d (GetSegment id size alignment wait task priority ticks) = get_segment m d id size alignment wait task priority ticks
perform m d (ReturnSegment id address) = return_segment m d id address
perform m d (SegmentSize id address) = segment_size m d id address
perform m d (ResizeSegment id address size) = resize_segment m d id address size
perform m d (RegionInformation id) = region_information m d id
perform m d (CreatePartition name start bytes size) = create_partition m d name start bytes size
perform m d (IdentPartition name) = ident_partition m d name
perform m d (DeletePartition id) = delete_partition m d id
perform m d (GetBuffer id) = get_buffer m d id
perform m d (ReturnBuffer id address) = return_buffer m d id address
perform m d Tick = tick m d

-- A CALL IN PARTS, which tell it from others: its directive's number, the id that it names, its size, address or name, and its alignment; 0
-- for what it has not. No statement and no contract rests on it: wrong managers are made by it
pub record Asked : Type 0 where
  pub directive : ℕ
  pub id : ℕ
  pub number : ℕ
  pub alignment : ℕ

abbrev asks : ℕ → ℕ → ℕ → Asked
asks directive id number = record { directive = directive; id = id; number = number; alignment = 0 }

abbrev pub asked : Call → Asked
asked (CreateRegion name start bytes page order) = asks 1 0 name
asked (IdentRegion name) = asks 2 0 name
asked (DeleteRegion id) = asks 3 id 0
asked (GetSegment id size alignment wait task priority ticks) = record { directive = 4; id = id; number = size; alignment = alignment }
asked (ReturnSegment id address) = asks 5 id address
asked (SegmentSize id address) = asks 6 id address
asked (ResizeSegment id address size) = asks 7 id size
asked (RegionInformation id) = asks 8 id 0
asked (CreatePartition name start bytes size) = asks 9 0 name
asked (IdentPartition name) = asks 10 0 name
asked (DeletePartition id) = asks 11 id 0
asked (GetBuffer id) = asks 12 id 0
asked (ReturnBuffer id address) = asks 13 id address
asked Tick = asks 14 0 0

-- WHAT ANSWERS: from a memory and a record, what a call leaves; what a read of a segment hands back; what a write leaves
pub record Implementation : Type 0 where
  pub call : List ℕ → Manager → Call → Result
  pub read : List ℕ → Manager → ℕ → ℕ → List ℕ
  pub write : List ℕ → Manager → ℕ → ℕ → ℕ → List ℕ → Result

-- the manager of these definitions
abbrev pub defined : Implementation
defined = record { call = perform; read = read_segment; write = write_segment }
