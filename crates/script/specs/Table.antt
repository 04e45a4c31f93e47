-- Rule 15.2: the keys of a script with the largest number of each, and the calls with their keys. A new key or call is
-- written here: nothing else in specs/ or in the laws names one, but for the proof that each call has its row (proofs/Rows.antt). Assumes nothing.
use Rattle.std.specs.Prelude.{ℕ, zero, suc, List, [], ◌∷◌, Bool, true, false, get_or}
use Prim.Native.String.{String, ◌++◌}
use Rattle.text.specs.Bytes.{bytes}
use Rattle.manager.specs.declared.Order.{Order}
use Rattle.manager.specs.declared.Order.TheVariants.{Fifo, Priority, HalvesFifo, HalvesPriority}
use Rattle.manager.specs.declared.Wait.{Wait}
use Rattle.manager.specs.declared.Wait.TheVariants.{No, Yes}
use Rattle.manager.specs.declared.Call.{Call}
use Rattle.manager.specs.declared.Call.TheVariants.{CreateRegion, IdentRegion, DeleteRegion, GetSegment, ReturnSegment, SegmentSize, ResizeSegment, RegionInformation, CreatePartition, IdentPartition, DeletePartition, GetBuffer, ReturnBuffer, Tick}

-- ---- the keys

pub record Key : Type 0 where
  pub text : List ℕ
  pub most : ℕ

abbrev pub key : String → ℕ → Key
key word most = record { text = bytes (word ++ "="); most = most }

-- the largest number: each is below 2^32
abbrev pub largest : ℕ
largest = 4294967295

abbrev pub name_key : Key
name_key = key "name" largest

abbrev pub start_key : Key
start_key = key "start" largest

abbrev pub length_key : Key
length_key = key "length" largest

abbrev pub page_key : Key
page_key = key "page" largest

-- "order 0 FIFO or 1 priority"
abbrev pub order_key : Key
order_key = key "order" 3

abbrev pub id_key : Key
id_key = key "id" largest

abbrev pub size_key : Key
size_key = key "size" largest

-- "In scripts the key comes after size"
abbrev pub align_key : Key
align_key = key "align" largest

-- "wait 0 or 1"
abbrev pub wait_key : Key
wait_key = key "wait" 1

abbrev pub task_key : Key
task_key = key "task" largest

abbrev pub priority_key : Key
priority_key = key "priority" largest

abbrev pub ticks_key : Key
ticks_key = key "ticks" largest

abbrev pub address_key : Key
address_key = key "address" largest

abbrev pub keys : List Key
keys =
    name_key ∷ start_key ∷ length_key ∷ page_key ∷ order_key ∷ id_key ∷ size_key ∷ align_key ∷ wait_key ∷ task_key ∷ priority_key ∷ ticks_key ∷ address_key ∷ []

abbrev pub no_key : Key
no_key = record { text = []; most = 0 }

-- ---- the calls

abbrev pub order_of : ℕ → Order
order_of zero = Fifo
order_of (suc zero) = Priority
order_of (suc (suc zero)) = HalvesFifo
order_of (suc (suc (suc n))) = HalvesPriority

abbrev pub wait_of : ℕ → Wait
wait_of zero = No
wait_of (suc n) = Yes

-- a call: the line that names it, its keys, whether its answer has six values, and the call that the numbers of the keys make
pub record Row : Type 0 where
  pub line : List ℕ
  pub keys : List Key
  pub six_values : Bool
  pub call : List ℕ → Call

-- the number at a place
abbrev pub number : List ℕ → ℕ → ℕ
number v i = get_or v i 0

-- how many values its answer has: `six` or `one`
abbrev pub six : Bool
six = true

abbrev pub one : Bool
one = false

abbrev pub row : String → List Key → Bool → (List ℕ → Call) → Row
row word keys six_values call = record { line = bytes ("call=" ++ (word ++ "\n")); keys = keys; six_values = six_values; call = call }

abbrev pub create_region_row : Row
create_region_row = row "create-region" (name_key ∷ start_key ∷ length_key ∷ page_key ∷ order_key ∷ []) one λ v. CreateRegion (number v 0) (number v 1) (number v 2) (number v 3) (order_of (number v 4))

abbrev pub create_partition_row : Row
create_partition_row = row "create-partition" (name_key ∷ start_key ∷ length_key ∷ size_key ∷ []) one λ v. CreatePartition (number v 0) (number v 1) (number v 2) (number v 3)

abbrev pub ident_region_row : Row
ident_region_row = row "ident-region" (name_key ∷ []) one λ v. IdentRegion (number v 0)

abbrev pub ident_partition_row : Row
ident_partition_row = row "ident-partition" (name_key ∷ []) one λ v. IdentPartition (number v 0)

abbrev pub delete_region_row : Row
delete_region_row = row "delete-region" (id_key ∷ []) one λ v. DeleteRegion (number v 0)

abbrev pub delete_partition_row : Row
delete_partition_row = row "delete-partition" (id_key ∷ []) one λ v. DeletePartition (number v 0)

abbrev pub information_row : Row
information_row = row "info" (id_key ∷ []) six λ v. RegionInformation (number v 0)

abbrev pub get_buffer_row : Row
get_buffer_row = row "get-buffer" (id_key ∷ []) one λ v. GetBuffer (number v 0)

abbrev pub get_segment_row : Row
get_segment_row = row "get" (id_key ∷ size_key ∷ align_key ∷ wait_key ∷ task_key ∷ priority_key ∷ ticks_key ∷ []) one λ v. GetSegment (number v 0) (number v 1) (number v 2) (wait_of (number v 3)) (number v 4) (number v 5) (number v 6)

abbrev pub return_segment_row : Row
return_segment_row = row "return" (id_key ∷ address_key ∷ []) one λ v. ReturnSegment (number v 0) (number v 1)

abbrev pub segment_size_row : Row
segment_size_row = row "size" (id_key ∷ address_key ∷ []) one λ v. SegmentSize (number v 0) (number v 1)

abbrev pub return_buffer_row : Row
return_buffer_row = row "return-buffer" (id_key ∷ address_key ∷ []) one λ v. ReturnBuffer (number v 0) (number v 1)

abbrev pub resize_segment_row : Row
resize_segment_row = row "resize" (id_key ∷ address_key ∷ size_key ∷ []) one λ v. ResizeSegment (number v 0) (number v 1) (number v 2)

abbrev pub tick_row : Row
tick_row = row "tick" [] one λ v. Tick

abbrev pub calls : List Row
calls =
    create_region_row ∷
    create_partition_row ∷
    ident_region_row ∷
    ident_partition_row ∷
    delete_region_row ∷
    delete_partition_row ∷
    information_row ∷
    get_buffer_row ∷
    get_segment_row ∷
    return_segment_row ∷
    segment_size_row ∷
    return_buffer_row ∷
    resize_segment_row ∷
    tick_row ∷
    []

abbrev pub no_row : Row
no_row = record { line = []; keys = []; six_values = one; call = λ v. Tick }

-- ---- a call by its row

abbrev pub order_number : Order → ℕ
order_number Fifo = 0
order_number Priority = 1
order_number HalvesFifo = 2
order_number HalvesPriority = 3

abbrev pub wait_number : Wait → ℕ
wait_number No = 0
wait_number Yes = 1

-- a call's row, and its numbers in the order of the row's keys
pub record Filled : Type 0 where
  pub row : Row
  pub numbers : List ℕ

abbrev pub fill : Row → List ℕ → Filled
fill r vs = record { row = r; numbers = vs }

abbrev pub filled : Call → Filled
filled (CreateRegion n s l p o) = fill create_region_row (n ∷ s ∷ l ∷ p ∷ order_number o ∷ [])
filled (CreatePartition n s l z) = fill create_partition_row (n ∷ s ∷ l ∷ z ∷ [])
filled (IdentRegion n) = fill ident_region_row (n ∷ [])
filled (IdentPartition n) = fill ident_partition_row (n ∷ [])
filled (DeleteRegion i) = fill delete_region_row (i ∷ [])
filled (DeletePartition i) = fill delete_partition_row (i ∷ [])
filled (RegionInformation i) = fill information_row (i ∷ [])
filled (GetBuffer i) = fill get_buffer_row (i ∷ [])
filled (GetSegment i z l w t p k) = fill get_segment_row (i ∷ z ∷ l ∷ wait_number w ∷ t ∷ p ∷ k ∷ [])
filled (ReturnSegment i a) = fill return_segment_row (i ∷ a ∷ [])
filled (SegmentSize i a) = fill segment_size_row (i ∷ a ∷ [])
filled (ReturnBuffer i a) = fill return_buffer_row (i ∷ a ∷ [])
filled (ResizeSegment i a z) = fill resize_segment_row (i ∷ a ∷ z ∷ [])
filled Tick = fill tick_row []

abbrev pub row_of : Call → Row
row_of c = (filled c).row

abbrev pub arguments_of : Call → List ℕ
arguments_of c = (filled c).numbers
