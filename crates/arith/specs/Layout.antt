-- Where the map and the pages of an area lie, and how many pages there are: rules 3.3 and 3.4. Pages are numbered from address 0:
-- page p starts at p times the page size.
use Rattle.std.specs.Prelude.{ℕ, zero, suc, ◌+◌, ◌*◌, ◌/◌, Bool, true, cond, ◌&&◌, leb, eqb}
use Rattle.arith.specs.Round.{round_up, pages_for}
use Rattle.arith.specs.declared.Layout.{Layout}

-- "Regions: Layout": the map starts at the first multiple of 4 at or above the area's start
abbrev pub map_start : ℕ → ℕ
map_start start = round_up start 4

-- "Regions: Layout": pages start at the first multiple of the page size at or above the end of a map of n words. The number of that page
abbrev pub first_page : ℕ → ℕ → ℕ → ℕ
first_page start page n = pages_for (map_start start + 4 * n) page

-- "Regions: Layout": n pages and their map fit in the area
abbrev pub fits : ℕ → ℕ → ℕ → ℕ → Bool
fits start length page n = leb (first_page start page n * page + n * page) (start + length)

-- the largest number from 1 to k that passes a test; 0 where none does
unfoldable pub largest : ℕ → (ℕ → Bool) → ℕ
largest zero t = 0
largest (suc k) t = cond (t (suc k)) (suc k) (largest k t)

-- no more pages than this fit: each takes its size and a word of the map. None of size 0
unfoldable pub most_pages : ℕ → ℕ → ℕ
most_pages length page = cond (eqb page 0) 0 (length / (page + 4))

-- "Regions: Layout": the largest n for which all fits, of those that a kind of region may have
unfoldable pub page_count : (ℕ → Bool) → ℕ → ℕ → ℕ → ℕ
page_count allowed start length page = largest (most_pages length page) (λ n. allowed n && fits start length page n)

-- a region of pages may have any number of them
abbrev pub any_number : ℕ → Bool
any_number n = true

-- an area with n pages: the place of the map's first word, the page count, the number of the first page
abbrev pub layout_with : ℕ → ℕ → ℕ → Layout
layout_with start page n = record { map = map_start start / 4; pages = n; first = first_page start page n }

-- and with as many as fit
abbrev pub layout_of : (ℕ → Bool) → ℕ → ℕ → ℕ → Layout
layout_of allowed start length page = layout_with start page (page_count allowed start length page)
