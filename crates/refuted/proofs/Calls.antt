-- The calls of the lists: over a region of 3 pages of 64 bytes, at 64, 128 and 192, and over a partition of 3 buffers of 16 bytes, at 16, 32
-- and 48. Assumes nothing.
use Prim.Native.Nat.{ℕ}
use Rattle.manager.specs.declared.Call.TheVariants.{CreateRegion, IdentRegion, DeleteRegion, GetSegment, ReturnSegment, ResizeSegment, CreatePartition, GetBuffer, ReturnBuffer, Tick}
use Rattle.manager.specs.declared.Order.TheVariants.{Fifo}
use Rattle.manager.specs.declared.Wait.TheVariants.{No, Yes}
use Rattle.manager.proofs.Computing.{maps, records, directives}
use Rattle.trace.specs.Trace.{Ask, call}
use Rattle.trace.proofs.Computing.{receipts}

abbrev pub create : Ask
create = call (CreateRegion 1 4 252 64 Fifo)

-- a region of one page, at 64, where the division gives two: its map starts at 56
abbrev pub create_uneven : Ask
create_uneven = call (CreateRegion 1 53 136 64 Fifo)

abbrev pub get : ℕ → Ask
get size = call (GetSegment 1 size 0 No 0 0 0)

abbrev pub wait : ℕ → ℕ → ℕ → Ask
wait task size ticks = call (GetSegment 1 size 0 Yes task 1 ticks)

-- on an alignment
abbrev pub get_on_lem : ℕ → ℕ → Ask
get_on_lem alignment size = call (GetSegment 1 size alignment No 0 0 0)

abbrev pub wait_on : ℕ → ℕ → ℕ → ℕ → Ask
wait_on alignment task size ticks = call (GetSegment 1 size alignment Yes task 1 ticks)

abbrev pub return : ℕ → Ask
return address = call (ReturnSegment 1 address)

abbrev pub resize : ℕ → ℕ → Ask
resize address size = call (ResizeSegment 1 address size)

abbrev pub ident : Ask
ident = call (IdentRegion 1)

abbrev pub delete : Ask
delete = call (DeleteRegion 1)

abbrev pub clock : Ask
clock = call Tick

abbrev pub divide : Ask
divide = call (CreatePartition 1 16 48 16)

abbrev pub buffer : Ask
buffer = call (GetBuffer 1)

abbrev pub back : ℕ → Ask
back address = call (ReturnBuffer 1 address)

-- ALL THAT A LIST COMPUTES WITH: the definitions, and the receipts
unfoldable pub everything : Unit {0}
unfolding maps records directives receipts
everything = tt
