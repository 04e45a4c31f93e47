-- Rules 6: where a region's map and pages lie in the memory. Assumes nothing.
use Rattle.std.specs.Prelude.{ℕ, ◌+◌, ◌*◌, ◌/◌, ◌%◌, Bool, true, false, cond, ◌&&◌, List, [], ◌∷◌, ◌++◌, take, drop, eqb, leb, ltb, Option}
use Rattle.std.proofs.lemmas.List.Edits.{sets}
use Rattle.arith.specs.Round.{pages_for}
use Rattle.arith.specs.Layout.{layout_of as layoutAt}
use Rattle.arith.specs.declared.Layout.{Layout}
use Rattle.manager.specs.Lists.{any}
use Rattle.manager.specs.Map.{Segment, is_held_segment, decode, draw, free_sizes, held_sizes}
use Rattle.manager.specs.Kind.{Kind, is_place, allocate, held_from}
use Rattle.manager.specs.Paged.{free+, paged}
use Rattle.manager.specs.Halves.{halves}
use Rattle.manager.specs.declared.Order.{Order}
use Rattle.manager.specs.declared.Order.TheVariants.{Fifo, Priority, HalvesFifo, HalvesPriority}
use Rattle.manager.specs.declared.Region.{Region}
use Rattle.manager.specs.declared.Partition.{Partition}
use Rattle.manager.specs.declared.Manager.{Manager}
use Rattle.manager.specs.declared.Area.{Area}
use Rattle.manager.specs.declared.Need.{Need}

-- a region of a name is live; an empty slot is not
abbrev pub dead : Region → Bool
dead r = eqb r.name 0

-- the kind of a region, by its order
abbrev pub by_halves : Order → Bool
by_halves Fifo = false
by_halves Priority = false
by_halves HalvesFifo = true
by_halves HalvesPriority = true

abbrev pub kind_of : Order → Kind
kind_of o = cond (by_halves o) halves paged

abbrev pub kind : Region → Kind
kind r = kind_of r.order

-- its layout: how many pages it has, the number of the first one, the place of its map's first word
abbrev pub layout_of : Region → Layout
layout_of r = layoutAt (kind r).allowed r.start r.length r.page

abbrev pub pages_of : Region → ℕ
pages_of r = (layout_of r).pages

abbrev pub first_page_of : Region → ℕ
first_page_of r = (layout_of r).first

abbrev pub map_at : Region → ℕ
map_at r = (layout_of r).map

-- the address of page p: pages are numbered from address 0
abbrev pub address_of : Region → ℕ → ℕ
address_of r p = p * r.page

-- whether a page starts at an address, and which
abbrev pub starts_page : Region → ℕ → Bool
starts_page r a = eqb (a % r.page) 0

abbrev pub page_at : Region → ℕ → ℕ
page_at r a = a / r.page

-- the words of a map by its layout, and of its own
abbrev pub words_at : List ℕ → Layout → List ℕ
words_at m l = take l.pages (drop l.map m)

abbrev pub map_words : List ℕ → Region → List ℕ
map_words m r = words_at m (layout_of r)

-- its segments, and the memory with other segments drawn into its map
abbrev pub segments : List ℕ → Region → List Segment
segments m r = decode (map_words m r)

abbrev pub with_segments : List ℕ → Region → List Segment → List ℕ
with_segments m r s = sets m (map_at r) (draw s)

-- WHAT THE DIRECTIVES SAY OF A REGION AND ITS MAP. They cite these names, and nothing of a map or of a kind

-- its map with nothing held, as create draws it
abbrev pub opened : List ℕ → Region → List ℕ
opened m r = with_segments m r (free+ (pages_of r) [])

-- the pages of the held segment that starts at an address (0 where none does), and whether it can have k pages
abbrev pub held_at : List ℕ → Region → ℕ → ℕ
held_at m r a = cond (starts_page r a) (held_from (page_at r a) (first_page_of r) (segments m r)) 0

abbrev pub can_have : List ℕ → Region → ℕ → ℕ → Bool
can_have m r a k = (kind r).can_have (page_at r a) k (first_page_of r) (segments m r)

-- the memory after that segment has k pages; 0: it is returned
abbrev pub changed : List ℕ → Region → ℕ → ℕ → List ℕ
changed m r a k = with_segments m r ((kind r).change (page_at r a) k (first_page_of r) (segments m r))

-- something of it is held
abbrev pub any_held : List ℕ → Region → Bool
any_held m r = any is_held_segment (segments m r)

-- the pages of its free segments and of its held ones
abbrev pub frees : List ℕ → Region → List ℕ
frees m r = free_sizes (segments m r)

abbrev pub helds : List ℕ → Region → List ℕ
helds m r = held_sizes (segments m r)

-- Get: bytes are rounded up to whole pages, as its kind gives them
abbrev pub pages_asked : Region → ℕ → ℕ
pages_asked r size = (kind r).rounded (pages_for size r.page)

-- "0 for the page size, else a multiple of the page size up to 4,096": 0 is a multiple of all
abbrev pub is_alignment : ℕ → ℕ → Bool
is_alignment page alignment = leb alignment 4096 && eqb (alignment % page) 0

-- so many bytes from an address on that is a multiple of the alignment: pages start at multiples of their size, so that is every so many-th
abbrev pub need_of : Region → ℕ → ℕ → Need
need_of r size alignment = record { pages = pages_asked r size; every = alignment / r.page }

-- whether a region could serve a need with nothing held, by its kind and its layout, and by its own
abbrev pub servable_at : Kind → Layout → Need → Bool
servable_at K l w = is_place (K.place w l.first (free+ l.pages []))

abbrev pub servable : Region → Need → Bool
servable r w = servable_at (kind r) (layout_of r) w

-- where the pages of a need are placed, and the memory after they are taken there
abbrev pub placed : List ℕ → Region → Need → Option ℕ
placed m r w = (kind r).place w (first_page_of r) (segments m r)

abbrev pub taken : List ℕ → Region → Need → List ℕ
taken m r w = with_segments m r (allocate (kind r) w (first_page_of r) (segments m r))

-- the areas of objects: the whole asked area counts. A region has one
abbrev pub areas_of : Region → List Area
areas_of r = record { start = r.start; length = r.length } ∷ []

abbrev pub area_of : Partition → Area
area_of p = record { start = p.start; length = p.length }

unfoldable pub region_areas : List Region → List Area
region_areas [] = []
region_areas (r ∷ rs) = areas_of r ++ region_areas rs

unfoldable pub partition_areas : List Partition → List Area
partition_areas [] = []
partition_areas (p ∷ ps) = area_of p ∷ partition_areas ps

-- all areas of the record: an empty slot's has no byte
abbrev pub areas : Manager → List Area
areas d = region_areas d.regions ++ partition_areas d.partitions

-- two areas have a byte in common
abbrev pub overlap : Area → Area → Bool
overlap a b = ltb a.start (b.start + b.length) && ltb b.start (a.start + a.length)
