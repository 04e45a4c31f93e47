-- The bench examples, as one table about the definitions; the theorem that all of it holds is in proofs/.
-- Region A: start 4, length 1,020, page 64. Memory 16,384 words. Assumes nothing.
use Rattle.std.specs.Prelude.{ℕ, ◌+◌, ◌*◌, Bool, true, false, ◌&&◌, List, [], ◌∷◌, ◌++◌, replicate, eqb}
use Rattle.arith.specs.Layout.{most_pages, any_number, page_count, first_page}
use Rattle.manager.specs.Status.{number_of}
use Rattle.manager.specs.Record.{slots, tasks, most_words, emptied_region, emptied_partition, no_waiter, fresh, region_of}
use Rattle.manager.specs.Result.{Result}
use Rattle.manager.specs.Region.{map_words}
use Rattle.manager.specs.Perform.{perform}
use Rattle.manager.specs.declared.Call.{Call}
use Rattle.manager.specs.declared.Call.TheVariants.{CreateRegion, IdentRegion, DeleteRegion, GetSegment, ReturnSegment, ResizeSegment, CreatePartition, IdentPartition, DeletePartition, GetBuffer, ReturnBuffer, Tick}
use Rattle.manager.specs.declared.Order.TheVariants.{Fifo, HalvesFifo, HalvesPriority}
use Rattle.manager.specs.declared.Wait.TheVariants.{No, Yes}
use Rattle.manager.specs.declared.Manager.{Manager}
use Rattle.manager.specs.declared.Notice.{Notice}

-- A call, and what it answers: status, value and the notices (task, status, address)
pub data Step : Type 0 where
  step : Call → ℕ → ℕ → List ℕ → Step

-- A row: an area and its page size, with what the one division gives, its page count, first page and last byte; calls from a fresh start, with their answers; such
-- calls with the words of region 1's map after them; and calls from a start where every slot was deleted so often
pub data Row : Type 0 where
  layout : ℕ → ℕ → ℕ → ℕ → ℕ → ℕ → ℕ → Row
  calls : List Step → Row
  words : List Step → List ℕ → Row
  later : ℕ → List Step → Row

abbrev pub same : List ℕ → List ℕ → Bool
same [] [] = true
same [] (y ∷ ys) = false
same (x ∷ xs) [] = false
same (x ∷ xs) (y ∷ ys) = eqb x y && same xs ys

abbrev pub told : List Notice → List ℕ
told [] = []
told (n ∷ ns) = n.task ∷ number_of n.status ∷ n.address ∷ told ns

-- the answers are as said, and so is the map after them, if one is given
abbrev pub right : Result → ℕ → ℕ → List ℕ → Bool
right s status value notices = eqb (number_of s.status) status && (eqb s.value value && same (told s.notices) notices)

abbrev pub follows : List ℕ → Manager → List Step → (List ℕ → Manager → Bool) → Bool
follows m d [] after = after m d
follows m d (step c status value notices ∷ ss) after =
    let s = perform m d c in
    right s status value notices && follows s.memory s.manager ss after

-- no object, and every slot of a generation
abbrev pub at_generation : ℕ → Manager
at_generation g = record { regions = replicate slots (emptied_region g); partitions = replicate slots (emptied_partition g); waiters = replicate tasks no_waiter }

abbrev pub holds : Row → Bool
holds (layout start bytes page most n first last) =
    eqb (most_pages bytes page) most
    && (eqb (page_count any_number start bytes page) n && (eqb (first_page start page n * page) first && eqb (first + n * page) (last + 1)))
holds (calls ss) = follows (replicate most_words 0) fresh ss (λ m d. true)
holds (words ss ws) = follows (replicate most_words 0) fresh ss (λ m d. same (map_words m (region_of d 1)) ws)
holds (later g ss) = follows (replicate most_words 0) (at_generation g) ss (λ m d. true)

-- the calls of the examples
abbrev pub a : Step
a = step (CreateRegion 1 4 1020 64 Fifo) 0 1 []

abbrev pub again : ℕ → Step
again id = step (CreateRegion 1 4 1020 64 Fifo) 0 id []

-- a region beside A, of a name
abbrev pub beside : ℕ → ℕ → ℕ → Step
beside name status value = step (CreateRegion name 1024 1020 64 Fifo) status value []

-- a region in every slot, of names 1 to 8
abbrev pub full : List Step
full =
    step (CreateRegion 1 4 60 32 Fifo) 0 1 []
    ∷ step (CreateRegion 2 68 60 32 Fifo) 0 2 []
    ∷ step (CreateRegion 3 132 60 32 Fifo) 0 3 []
    ∷ step (CreateRegion 4 196 60 32 Fifo) 0 4 []
    ∷ step (CreateRegion 5 260 60 32 Fifo) 0 5 []
    ∷ step (CreateRegion 6 324 60 32 Fifo) 0 6 []
    ∷ step (CreateRegion 7 388 60 32 Fifo) 0 7 []
    ∷ step (CreateRegion 8 452 60 32 Fifo) 0 8 []
    ∷ []

-- 16 pages by halves, from 128 to 1,151
abbrev pub h : Step
h = step (CreateRegion 1 4 1148 64 HalvesFifo) 0 1 []

abbrev pub remove : ℕ → ℕ → Step
remove id status = step (DeleteRegion id) status 0 []

abbrev pub divide : ℕ → Step
divide id = step (CreatePartition 1 4 100 24) 0 id []

abbrev pub get : ℕ → ℕ → ℕ → Step
get size status value = step (GetSegment 1 size 0 No 0 0 0) status value []

abbrev pub waits : ℕ → ℕ → Step
waits task size = step (GetSegment 1 size 0 Yes task 1 0) 255 0 []

abbrev pub get_on : ℕ → ℕ → ℕ → ℕ → Step
get_on alignment size status value = step (GetSegment 1 size alignment No 0 0 0) status value []

abbrev pub waits_on : ℕ → ℕ → ℕ → Step
waits_on alignment task size = step (GetSegment 1 size alignment Yes task 1 0) 255 0 []

abbrev pub return : ℕ → ℕ → List ℕ → Step
return address status notices = step (ReturnSegment 1 address) status 0 notices

abbrev pub resize : ℕ → ℕ → ℕ → ℕ → List ℕ → Step
resize address size status value notices = step (ResizeSegment 1 address size) status value notices

abbrev pub buffer : ℕ → Step
buffer address = step (GetBuffer 1) 0 address []

abbrev pub back : ℕ → Step
back address = step (ReturnBuffer 1 address) 0 0 []

abbrev pub table : List Row
table =
    -- 1. A has 15 pages, from 64 to 1,023. Length 1,019 gives 14.
    layout 4 1020 64 15 15 64 1023
    ∷ layout 4 1019 64 14 14 64 959
    -- 2. Start 4, page 64: length 124 gives 1 page, 123 gives 8.
    ∷ layout 4 124 64 1 1 64 127
    ∷ calls (step (CreateRegion 1 4 123 64 Fifo) 8 0 [] ∷ [])
    -- 3. Get 65: 64. Then get 1: 192. The map is 5, 0, 3, 24, then eleven zeros.
    ∷ words (a ∷ get 65 0 64 ∷ get 1 0 192 ∷ []) (5 ∷ 0 ∷ 3 ∷ 24 ∷ replicate 11 0)
    -- 4. Then return 64, get 128: 64. Then get 129: 256.
    ∷ calls (a ∷ get 65 0 64 ∷ get 1 0 192 ∷ return 64 0 [] ∷ get 128 0 64 ∷ get 129 0 256 ∷ [])
    -- 5. Get 960: 64. Then get 1, no wait: 13. Get 961: 8.
    ∷ calls (a ∷ get 960 0 64 ∷ get 1 13 0 ∷ get 961 8 0 ∷ [])
    -- 6. After get 65, return 128: 9. Return 64: 0, again: 9.
    ∷ calls (a ∷ get 65 0 64 ∷ return 128 9 [] ∷ return 64 0 [] ∷ return 64 9 [] ∷ [])
    -- 7. Get 960. Task 3 waits for 640, task 5 for 64 (FIFO). Return 64: notices (3, 0, 64), (5, 0, 704).
    ∷ calls (a ∷ get 960 0 64 ∷ waits 3 640 ∷ waits 5 64 ∷ return 64 0 (3 ∷ 0 ∷ 64 ∷ 5 ∷ 0 ∷ 704 ∷ []) ∷ [])
    -- 8. Get 448: 64, get 512: 512. Task 3 waits for 960, task 5 for 64. Return 64: no notice.
    ∷ calls (a ∷ get 448 0 64 ∷ get 512 0 512 ∷ waits 3 960 ∷ waits 5 64 ∷ return 64 0 [] ∷ [])
    -- 9. Partition beside A, start 1,024, length 100, size 24: buffers 1024, 1048, 1072, 1096. Get, get, return 1048, return 1024; three
    -- gets give 1072, 1096, 1048.
    ∷ calls
    (a
    ∷ step (CreatePartition 1 1024 100 24) 0 1 []
    ∷ buffer 1024
    ∷ buffer 1048
    ∷ back 1048
    ∷ back 1024
    ∷ buffer 1072
    ∷ buffer 1096
    ∷ buffer 1048
    ∷ [])
    -- 10. A partition at start 1,020, length 24, size 24, beside A: 9.
    ∷ calls (a ∷ step (CreatePartition 1 1020 24 24) 9 0 [] ∷ [])
    -- Request 1. A, made again after its delete, has id 17; id 1 is 4, and ident answers 17.
    ∷ calls (a ∷ remove 1 0 ∷ again 17 ∷ get 65 4 0 ∷ remove 1 4 ∷ step (IdentRegion 1) 0 17 [] ∷ step (GetSegment 17 65 0 No 0 0 0) 0 64 [] ∷ [])
    -- The notices of a tick go by slots: region 17 in slot 1 comes before region 2.
    ∷ calls
    (a
    ∷ remove 1 0
    ∷ again 17
    ∷ step (CreateRegion 2 1024 1020 64 Fifo) 0 2 []
    ∷ step (GetSegment 17 960 0 No 0 0 0) 0 64 []
    ∷ step (GetSegment 2 896 0 No 0 0 0) 0 1088 []
    ∷ step (GetSegment 2 64 0 Yes 1 1 1) 255 0 []
    ∷ step (GetSegment 17 64 0 Yes 2 1 1) 255 0 []
    ∷ step Tick 0 0 (2 ∷ 6 ∷ 0 ∷ 1 ∷ 6 ∷ 0 ∷ [])
    ∷ [])
    -- The last generation of slot 1 is 65,535. Deleted then, the slot is spent, and the next create takes slot 2.
    ∷ later 65535 (again 1048561 ∷ remove 1048561 0 ∷ again 1048562 ∷ remove 1048561 4 ∷ [])
    ∷ later 65535 (divide 1048561 ∷ step (DeletePartition 1048561) 0 0 [] ∷ divide 1048562 ∷ [])
    -- With every slot spent there is none: 5.
    ∷ later 65536 (step (CreateRegion 1 4 1020 64 Fifo) 5 0 [] ∷ step (CreatePartition 1 4 100 24) 5 0 [] ∷ [])
    -- Request 2. The division is right where rounding costs nothing, as for A, and else it may be one too large: 4 bytes on, where a map
    -- of 15 words ends past 64; at 53, where the map's start is rounded up to 56; and where not one page fits.
    ∷ layout 8 1020 64 15 14 64 959
    ∷ layout 56 136 64 2 2 64 191
    ∷ layout 53 136 64 2 1 64 127
    ∷ layout 4 123 64 1 0 64 63
    -- Request 3. A shrink serves the first waiter, from the freed tail on.
    ∷ calls (a ∷ get 960 0 64 ∷ waits 3 128 ∷ resize 64 832 0 960 (3 ∷ 0 ∷ 896 ∷ []) ∷ [])
    -- The first still doesn't fit, and the second would: nobody is served.
    ∷ calls (a ∷ get 960 0 64 ∷ waits 3 192 ∷ waits 5 64 ∷ resize 64 832 0 960 [] ∷ [])
    -- A resize that keeps the page count, and one that is refused, with somebody waiting.
    ∷ calls (a ∷ get 448 0 64 ∷ get 512 0 512 ∷ waits 3 64 ∷ resize 64 400 0 448 [] ∷ resize 64 512 13 448 [] ∷ [])
    -- A tick sends the first waiter of region 2 away, and the second fits then. Region 1's time-out comes before that of region 2, and all
    -- grants come behind both.
    ∷ calls
    (a
    ∷ step (CreateRegion 2 1024 1020 64 Fifo) 0 2 []
    ∷ get 960 0 64
    ∷ step (GetSegment 2 768 0 No 0 0 0) 0 1088 []
    ∷ step (GetSegment 2 128 0 No 0 0 0) 0 1856 []
    ∷ step (GetSegment 2 192 0 Yes 1 1 1) 255 0 []
    ∷ step (GetSegment 2 128 0 Yes 4 1 0) 255 0 []
    ∷ step (GetSegment 1 64 0 Yes 2 1 1) 255 0 []
    ∷ step (ReturnSegment 2 1856) 0 0 []
    ∷ step Tick 0 0 (2 ∷ 6 ∷ 0 ∷ 1 ∷ 6 ∷ 0 ∷ 4 ∷ 0 ∷ 1856 ∷ [])
    ∷ [])
    -- Request 4. A by halves has 8 pages, from 64 to 575. 20 pages of 8 fit from 88 on; by halves it is 16, behind a shorter map, from 72 on.
    ∷ calls (step (CreateRegion 1 4 1020 64 HalvesFifo) 0 1 [] ∷ get 513 8 0 ∷ get 512 0 64 ∷ [])
    ∷ calls (step (CreateRegion 1 8 248 8 Fifo) 0 1 [] ∷ get 160 0 88 ∷ [])
    ∷ calls (step (CreateRegion 1 8 248 8 HalvesPriority) 0 1 [] ∷ get 129 8 0 ∷ get 128 0 72 ∷ [])
    -- 16 pages, gets of 1, 3 and 2 pages. The map is 3, 2, 5, 0, 9, 0, 0, 0, 16, then seven zeros.
    ∷ words (h ∷ get 64 0 128 ∷ get 192 0 384 ∷ get 128 0 256 ∷ []) (3 ∷ 2 ∷ 5 ∷ 0 ∷ 9 ∷ 0 ∷ 0 ∷ 0 ∷ 16 ∷ replicate 7 0)
    -- The smallest block serves, page 5, and not page 0, the lower block of four.
    ∷ calls (h ∷ get 256 0 128 ∷ get 64 0 384 ∷ return 128 0 [] ∷ get 64 0 448 ∷ get 128 0 512 ∷ get 256 0 128 ∷ [])
    -- Page 1 comes back last of the first four: it joins page 0, and both join pages 2 and 3; pages 4 to 7 are held.
    ∷ words
    (h ∷ get 64 0 128 ∷ get 64 0 192 ∷ get 128 0 256 ∷ get 256 0 384 ∷ return 128 0 [] ∷ return 256 0 [] ∷ return 192 0 [] ∷ [])
    (8 ∷ 0 ∷ 0 ∷ 0 ∷ 9 ∷ 0 ∷ 0 ∷ 0 ∷ 16 ∷ replicate 7 0)
    -- With the last of them back it is one free block again.
    ∷ words
    (h ∷ get 64 0 128 ∷ get 64 0 192 ∷ get 128 0 256 ∷ get 256 0 384 ∷ return 128 0 [] ∷ return 256 0 [] ∷ return 192 0 [] ∷ return 384 0 [] ∷ [])
    (32 ∷ replicate 15 0)
    -- Pages 2 and 3 adjoin pages 4 and 5, and are not their other half: both stay, and four pages are had from page 8 on.
    ∷ words
    (h ∷ get 128 0 128 ∷ get 128 0 256 ∷ get 128 0 384 ∷ get 128 0 512 ∷ return 256 0 [] ∷ return 384 0 [] ∷ get 256 0 640 ∷ [])
    (5 ∷ 0 ∷ 4 ∷ 0 ∷ 4 ∷ 0 ∷ 5 ∷ 0 ∷ 9 ∷ 0 ∷ 0 ∷ 0 ∷ 8 ∷ replicate 3 0)
    -- A waiter for eight pages is served when the second four join the first.
    ∷ calls (h ∷ get 512 0 128 ∷ get 256 0 640 ∷ get 256 0 896 ∷ waits 3 512 ∷ return 640 0 [] ∷ return 896 0 (3 ∷ 0 ∷ 640 ∷ []) ∷ [])
    -- Three pages have four: a resize to four is 0, to two or to five 13.
    ∷ calls (h ∷ get 192 0 128 ∷ resize 128 256 0 256 [] ∷ resize 128 128 13 256 [] ∷ resize 128 257 13 256 [] ∷ [])
    -- Request 6. A second region of A's name beside it: 3. Under another name: 0, and ident answers the one that has the name.
    ∷ calls (a ∷ beside 1 3 0 ∷ beside 2 0 2 ∷ step (IdentRegion 1) 0 1 [] ∷ step (IdentRegion 2) 0 2 [] ∷ step (IdentRegion 3) 3 0 [] ∷ [])
    -- The name is tested first: 3 with start 0, past the memory, with page 0 and 4,097, without a page, and where A is.
    ∷ calls
    (a
    ∷ step (CreateRegion 1 0 1020 64 Fifo) 3 0 []
    ∷ step (CreateRegion 1 65532 1020 64 Fifo) 3 0 []
    ∷ step (CreateRegion 1 1024 1020 0 Fifo) 3 0 []
    ∷ step (CreateRegion 1 1024 1020 4097 Fifo) 3 0 []
    ∷ step (CreateRegion 1 1024 8 64 Fifo) 3 0 []
    ∷ step (CreateRegion 1 4 1020 64 Fifo) 3 0 []
    ∷ [])
    -- Slot 1 is empty, and the new region would take it; slot 2 above it has the name: 3. The name of the deleted one may be had.
    ∷ calls (a ∷ beside 2 0 2 ∷ remove 1 0 ∷ step (CreateRegion 2 4 1020 64 Fifo) 3 0 [] ∷ again 17 ∷ [])
    -- A partition may have a region's name, and not another partition's, until that is deleted.
    ∷ calls
    (a
    ∷ step (CreatePartition 1 1024 100 24) 0 1 []
    ∷ step (CreatePartition 1 1124 100 24) 3 0 []
    ∷ step (CreatePartition 1 0 100 24) 3 0 []
    ∷ step (CreatePartition 2 1124 100 24) 0 2 []
    ∷ step (DeletePartition 1) 0 0 []
    ∷ step (CreatePartition 2 1024 100 24) 3 0 []
    ∷ step (CreatePartition 1 1024 100 24) 0 17 []
    ∷ step (IdentPartition 2) 0 2 []
    ∷ [])
    -- With every slot in use a new name is 5, and one in use 3.
    ∷ calls
    (full
    ++ (step (CreateRegion 9 1024 128 64 Fifo) 5 0 []
    ∷ step (CreateRegion 8 1024 128 64 Fifo) 3 0 []
    ∷ []))
    -- Request 7. Alignment 256 gives 256: one free segment becomes three. A get of alignment 0 then takes the room before.
    ∷ words (a ∷ get_on 256 64 0 256 ∷ []) (6 ∷ 0 ∷ 0 ∷ 3 ∷ 22 ∷ replicate 10 0)
    ∷ words (a ∷ get_on 256 64 0 256 ∷ get 64 0 64 ∷ []) (3 ∷ 4 ∷ 0 ∷ 3 ∷ 22 ∷ replicate 10 0)
    -- No page of A starts at a multiple of 1,024: 8. At multiples of 128 it has 14 pages in a row at most, from 128 on.
    ∷ calls (a ∷ get_on 1024 1 8 0 ∷ get_on 128 897 8 0 ∷ get_on 128 896 0 128 ∷ get 1 0 64 ∷ [])
    -- No multiple of the page size: 8, and not rounded; nor above 4,096. The id comes first. The page size itself is what 0 is.
    ∷ calls (a ∷ get_on 96 64 8 0 ∷ get_on 1 64 8 0 ∷ get_on 4160 64 8 0 ∷ step (GetSegment 2 64 96 No 0 0 0) 4 0 [] ∷ get_on 64 64 0 64 ∷ [])
    -- Multiples of 48 in pages of 24, from 144 on: 144, 192; the page at 168 is no such one.
    ∷ calls (step (CreateRegion 1 4 1020 24 Fifo) 0 1 [] ∷ get 24 0 144 ∷ get_on 48 24 0 192 ∷ get 24 0 168 ∷ get_on 32 24 8 0 ∷ [])
    -- What the region with nothing held could serve is 13 where there is no such run now, though a longer one starts elsewhere; the resize of a
    -- segment asks for no alignment.
    ∷ calls (a ∷ get 192 0 64 ∷ get_on 256 64 0 256 ∷ resize 256 768 0 64 [] ∷ return 64 0 [] ∷ get_on 256 64 13 0 ∷ get_on 128 128 0 128 ∷ [])
    -- Task 3 waits for a multiple of 256 and is first: 192 bytes that start at 64 serve nobody. With 256 free both are served.
    ∷ calls
    (a
    ∷ get 192 0 64
    ∷ get 256 0 256
    ∷ get 512 0 512
    ∷ waits_on 256 3 64
    ∷ waits 5 64
    ∷ return 64 0 []
    ∷ return 256 0 (3 ∷ 0 ∷ 256 ∷ 5 ∷ 0 ∷ 64 ∷ [])
    ∷ [])
    -- By halves an alignment other than 0 is 11, whatever it is; 4 comes before it, and the size too large behind it.
    ∷ calls (h ∷ get_on 256 64 11 0 ∷ get_on 96 64 11 0 ∷ get_on 64 4096 11 0 ∷ step (GetSegment 2 64 256 No 0 0 0) 4 0 [] ∷ get_on 256 0 8 0 ∷ get_on 0 64 0 128 ∷ [])
    ∷ []
