-- Ways to make a manager that is wrong in one rule: the right one, with the calls of one directive answered otherwise. Assumes nothing.
use mathlib.Core.Bool.{cond, ◌&&◌}
use mathlib.Core.List.{List}
use Prim.Native.Nat.{ℕ}
use lib.ListN.{replicate}
use lib.Dec.{eqb}
use Rattle.manager.specs.Status.{number_of}
use Rattle.manager.specs.Record.{tasks, no_waiter, with_queue}
use Rattle.manager.specs.Result.{Result}
use Rattle.manager.specs.Access.{read_segment, write_segment}
use Rattle.manager.specs.Perform.{Implementation, perform, asked}
use Rattle.manager.specs.declared.Manager.{Manager}
use Rattle.manager.specs.declared.Notice.{Notice}
use Rattle.manager.specs.declared.Call.{Call}
use Rattle.manager.specs.declared.Call.TheVariants.{CreateRegion, IdentRegion, DeleteRegion, GetSegment, ReturnSegment, ResizeSegment, RegionInformation, CreatePartition, GetBuffer, ReturnBuffer, Tick}
use Rattle.manager.specs.declared.Order.TheVariants.{Fifo}
use Rattle.manager.specs.declared.Wait.TheVariants.{No}

-- the directives that some manager has wrong, each by a call of it
abbrev pub region_create : Call
region_create = CreateRegion 0 0 0 0 Fifo

abbrev pub region_ident : Call
region_ident = IdentRegion 0

abbrev pub region_delete : Call
region_delete = DeleteRegion 0

abbrev pub segment_get : Call
segment_get = GetSegment 0 0 0 No 0 0 0

abbrev pub segment_return : Call
segment_return = ReturnSegment 0 0

abbrev pub segment_resize : Call
segment_resize = ResizeSegment 0 0 0

abbrev pub region_information_lem : Call
region_information_lem = RegionInformation 0

abbrev pub partition_create : Call
partition_create = CreatePartition 0 0 0 0

abbrev pub buffer_get : Call
buffer_get = GetBuffer 0

abbrev pub buffer_return : Call
buffer_return = ReturnBuffer 0 0

abbrev pub clock_tick : Call
clock_tick = Tick

-- the right manager with other answers to calls, made from the memory, the record, the call and the right answer
abbrev pub answering : (List ℕ → Manager → Call → Result → Result) → Implementation
answering wrong = record { call = λ m d c. wrong m d c (perform m d c); read = read_segment; write = write_segment }

-- only to the calls of one directive that are answered with one status number
abbrev pub but : Call → ℕ → (List ℕ → Manager → Call → Result → Result) → Implementation
but x n wrong =
    answering λ m d c a.
    cond (eqb (asked c).directive (asked x).directive && eqb (number_of a.status) n) (wrong m d c a) a

-- an answer with another value, other notices, another memory, another record; an empty queue
abbrev pub valued : Result → ℕ → Result
valued a v = record { memory = a.memory; status = a.status; value = v; information = a.information; notices = a.notices; manager = a.manager }

abbrev pub noticing : Result → List Notice → Result
noticing a ns = record { memory = a.memory; status = a.status; value = a.value; information = a.information; notices = ns; manager = a.manager }

abbrev pub leaving : Result → List ℕ → Result
leaving a m = record { memory = m; status = a.status; value = a.value; information = a.information; notices = a.notices; manager = a.manager }

abbrev pub keeping : Result → Manager → Result
keeping a d = record { memory = a.memory; status = a.status; value = a.value; information = a.information; notices = a.notices; manager = d }

abbrev pub emptied : Manager → Manager
emptied d = with_queue d (replicate tasks no_waiter)
