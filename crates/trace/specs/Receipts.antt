-- Rules 14.1 and 14.2, the receipts: written from the arguments and answers of the calls, never from the record or the memory. What each
-- call enters is in `Replies`, beside what it is answered. Assumes nothing.
use Rattle.std.specs.Prelude.{◌≡◌, Bool, true, cond, List, [], ◌∷◌, ℕ, zero, suc, ◌+◌, ◌*◌, ◌/◌, ◌%◌, ◌≤◌, eqb, Option, None, Some}
use Rattle.arith.specs.Round.{round_up, pages_for}
use Rattle.arith.specs.Layout.{layout_of}
use Rattle.arith.specs.declared.Layout.{Layout}
use Rattle.manager.specs.Status.{number_of}
use Rattle.manager.specs.Record.{slot_of}
use Rattle.manager.specs.Kind.{is_place}
use Rattle.manager.specs.Region.{kind_of}
use Rattle.manager.specs.Result.{Result}
use Rattle.manager.specs.declared.Need.{Need}
use Rattle.manager.specs.declared.Notice.{Notice}
use Rattle.manager.specs.declared.Information.{Information}
use Rattle.manager.specs.declared.Order.{Order}
use Rattle.manager.specs.declared.Status.{Status}
use Rattle.trace.specs.Loans.{Loan, Span, enter, amend, in_pages}
use Rattle.trace.specs.Reading.{Reading, Serves}
use Rattle.trace.specs.Kinds.{reading_of}

-- an object under its id: what was asked for, and its loans, each at the address that was answered, in the order of the addresses
pub record RegionEntry : Type 0 where
  pub name : ℕ
  pub start : ℕ
  pub bytes : ℕ
  pub page : ℕ
  pub order : Order
  pub loans : List Loan

-- of a partition, also the buffers that are not lent, in the order in which they came free
pub record PartitionEntry : Type 0 where
  pub name : ℕ
  pub start : ℕ
  pub bytes : ℕ
  pub size : ℕ
  pub lent : List ℕ
  pub unlent : List ℕ

-- a wait: the arguments of the get, and the ticks counted since it began
pub record Wait : Type 0 where
  pub task : ℕ
  pub id : ℕ
  pub size : ℕ
  pub alignment : ℕ
  pub priority : ℕ
  pub ticks : ℕ
  pub since : ℕ

-- the live objects of each kind by their whole ids; how many of each kind were deleted under the ids of each slot; and the waits
pub record Receipts : Type 0 where
  pub regions : ℕ → Option RegionEntry
  pub partitions : ℕ → Option PartitionEntry
  pub region_deletes : ℕ → ℕ
  pub partition_deletes : ℕ → ℕ
  pub waits : List Wait

-- they start empty
abbrev pub blank : Receipts
blank =
    record { regions = λ id. None; partitions = λ id. None; region_deletes = λ slot. 0; partition_deletes = λ slot. 0; waits = [] }

-- "Where an object's pages or buffers lie follows from what create asked for": the page size rounded, the layout, the page count and the
-- pages; the address of a page and the page at an address; the buffers
abbrev pub unit : RegionEntry → ℕ
unit e = round_up e.page 8

abbrev pub layout_in : RegionEntry → Layout
layout_in e = layout_of (kind_of e.order).allowed e.start e.bytes (unit e)

abbrev pub pages_in : RegionEntry → ℕ
pages_in e = (layout_in e).pages

abbrev pub span_in : RegionEntry → Span
span_in e = record { first = (layout_in e).first; count = pages_in e }

abbrev pub address_in : RegionEntry → ℕ → ℕ
address_in e p = p * unit e

abbrev pub page_in : RegionEntry → ℕ → ℕ
page_in e a = a / unit e

-- what they say of its kind, and the pages that are given for so many bytes: "rounded up by the region's rule"
abbrev pub reading : RegionEntry → Reading
reading e = reading_of e.order

abbrev pub pages_over : RegionEntry → ℕ → ℕ
pages_over e size = (reading e).rounded (pages_for size (unit e))

-- what a get of so many bytes on an alignment needs: so many pages, from every so many-th page on
abbrev pub need_in : RegionEntry → ℕ → ℕ → Need
need_in e size alignment = record { pages = pages_over e size; every = alignment / unit e }

-- an alignment that it allows: one that its kind knows, "0 for the page size, else a multiple of the page size up to 4,096"
pub record Alignment (e : RegionEntry) (alignment : ℕ) : Type 0 where
  pub known : (reading e).aligns alignment ≡ true
  pub multiple : alignment % unit e ≡ 0
  pub most : alignment ≤ 4096

-- whether it could serve a get with nothing lent, as a test and as a claim says it
abbrev pub servable_in : RegionEntry → ℕ → ℕ → Bool
servable_in e size alignment = is_place ((reading e).place (span_in e) [] (need_in e size alignment))

abbrev pub Servable : RegionEntry → ℕ → ℕ → Type 0
Servable e size alignment = (p : ℕ) × Serves (reading e) (span_in e) [] (need_in e size alignment) p

-- loans at addresses of a region, by their pages; and all its loans so
abbrev pub by_page : RegionEntry → List Loan → List Loan
by_page e l = in_pages (unit e) l

abbrev pub page_loans : RegionEntry → List Loan
page_loans e = by_page e e.loans

abbrev pub buffers_in : PartitionEntry → ℕ
buffers_in e = e.bytes / e.size

-- so many buffers by address, from an address on
unfoldable pub buffers_from : ℕ → ℕ → ℕ → List ℕ
buffers_from zero size a = []
buffers_from (suc n) size a = a ∷ buffers_from n size (a + size)

-- an entry under an id
abbrev pub update : {A : Type 0} → ℕ → Option A → (ℕ → Option A) → ℕ → Option A
update id e f j = cond (eqb j id) e (f j)

-- one delete more of the slot that an id names
abbrev pub deleted : ℕ → (ℕ → ℕ) → ℕ → ℕ
deleted id f i = cond (eqb i (slot_of id)) (suc (f i)) (f i)

-- other entries of regions, and of partitions
abbrev pub with_regions : (ℕ → Option RegionEntry) → Receipts → Receipts
with_regions f t =
    record {
      regions = f;
      partitions = t.partitions;
      region_deletes = t.region_deletes;
      partition_deletes = t.partition_deletes;
      waits = t.waits;
    }

abbrev pub with_partitions : (ℕ → Option PartitionEntry) → Receipts → Receipts
with_partitions f t =
    record {
      regions = t.regions;
      partitions = f;
      region_deletes = t.region_deletes;
      partition_deletes = t.partition_deletes;
      waits = t.waits;
    }

-- other deletes
abbrev pub with_region_deletes : (ℕ → ℕ) → Receipts → Receipts
with_region_deletes f t =
    record {
      regions = t.regions;
      partitions = t.partitions;
      region_deletes = f;
      partition_deletes = t.partition_deletes;
      waits = t.waits;
    }

abbrev pub with_partition_deletes : (ℕ → ℕ) → Receipts → Receipts
with_partition_deletes f t =
    record {
      regions = t.regions;
      partitions = t.partitions;
      region_deletes = t.region_deletes;
      partition_deletes = f;
      waits = t.waits;
    }

-- a change of the entry under an id, where there is one
abbrev pub map_option : {A : Type 0} → (A → A) → Option A → Option A
map_option f None = None
map_option f (Some x) = Some (f x)

abbrev pub on_region : ℕ → (RegionEntry → RegionEntry) → Receipts → Receipts
on_region id f t = with_regions (update id (map_option f (t.regions id)) t.regions) t

abbrev pub on_partition : ℕ → (PartitionEntry → PartitionEntry) → Receipts → Receipts
on_partition id f t = with_partitions (update id (map_option f (t.partitions id)) t.partitions) t

abbrev pub with_loans : List Loan → RegionEntry → RegionEntry
with_loans l e = record { name = e.name; start = e.start; bytes = e.bytes; page = e.page; order = e.order; loans = l }

abbrev pub with_buffers : List ℕ → List ℕ → PartitionEntry → PartitionEntry
with_buffers l u e = record { name = e.name; start = e.start; bytes = e.bytes; size = e.size; lent = l; unlent = u }

-- one number struck from a list
unfoldable pub strike : ℕ → List ℕ → List ℕ
strike a [] = []
strike a (x ∷ xs) = cond (eqb x a) xs (x ∷ strike a xs)

-- "get enters a loan at the answered address, of the size rounded up by the region's rule"; "resize gives the loan at its address the
-- new size, rounded alike; return strikes that loan": the one at exactly that address
abbrev pub lend : ℕ → ℕ → RegionEntry → RegionEntry
lend a size e = with_loans (enter a (pages_over e size) e.loans) e

abbrev pub refit : ℕ → ℕ → RegionEntry → RegionEntry
refit a size e = with_loans (amend a (pages_over e size) e.loans) e

abbrev pub give_back : ℕ → RegionEntry → RegionEntry
give_back a e = with_loans (amend a 0 e.loans) e

-- what the answer of a call says
pub record Reply : Type 0 where
  pub status : Status
  pub value : ℕ
  pub information : Information
  pub notices : List Notice

abbrev pub reply_of : Result → Reply
reply_of s = record { status = s.status; value = s.value; information = s.information; notices = s.notices }

abbrev pub is_success : Status → Bool
is_success s = eqb (number_of s) 0

abbrev pub is_waiting : Status → Bool
is_waiting s = eqb (number_of s) 255

-- WAITS, and a tick later
abbrev pub with_waits : List Wait → Receipts → Receipts
with_waits w t =
    record {
      regions = t.regions;
      partitions = t.partitions;
      region_deletes = t.region_deletes;
      partition_deletes = t.partition_deletes;
      waits = w;
    }

abbrev pub later : Wait → Wait
later w =
    record { task = w.task; id = w.id; size = w.size; alignment = w.alignment; priority = w.priority; ticks = w.ticks; since = w.since + 1 }

unfoldable pub all_later : List Wait → List Wait
all_later [] = []
all_later (w ∷ ws) = later w ∷ all_later ws

-- "each notice, in order, strikes its task's wait; with status 0 it enters a loan of that size, rounded alike, at its address in that
-- region"
unfoldable pub without : ℕ → List Wait → List Wait
without task [] = []
without task (w ∷ ws) = cond (eqb w.task task) ws (w ∷ without task ws)

abbrev pub no_wait : Wait
no_wait = record { task = 0; id = 0; size = 0; alignment = 0; priority = 0; ticks = 0; since = 0 }

unfoldable pub wait_of : ℕ → List Wait → Wait
wait_of task [] = no_wait
wait_of task (w ∷ ws) = cond (eqb w.task task) w (wait_of task ws)

abbrev pub noticed : Notice → Receipts → Receipts
noticed n t =
    let w = wait_of n.task t.waits in
    let u = with_waits (without n.task t.waits) t in
    cond (is_success n.status) (on_region w.id (lend n.address w.size) u) u

unfoldable pub all_noticed : List Notice → Receipts → Receipts
all_noticed [] t = t
all_noticed (n ∷ ns) t = all_noticed ns (noticed n t)
